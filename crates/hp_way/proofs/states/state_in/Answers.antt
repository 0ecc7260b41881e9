use Rattle.std.proofs.Common.{length, map, ap, arith}
use Rattle.hp_search.specs.Planned.{tree_planned}
use Rattle.hp_syntax.specs.GroundViews.{ground_of}
use Rattle.hp_after.proofs.TurnSteps.{not_fault}
use Rattle.hp_after.specs.declared.reaching.Reached.TheVariants as reached
use Rattle.hp_way.proofs.StateSteps.{absent_differs, no_state, state_there}
use Rattle.hp_way.proofs.states.state_in.Goals as goal

pub atoms_at-requires-clause-count : goal.atoms_at-requires-clause-count
atoms_at-requires-clause-count c =
    let there = c.in_ok-arrival.ensures.at c.in-At.is in
    omega (arith, c.requires.within, ap length there.path)

pub returns-in_ok-atoms-in-At : goal.returns-in_ok-atoms-in-At
returns-in_ok-atoms-in-At c =
    state_there (tree_planned c.args.planner) c.args.path.now c.args.count c.in_ok-arrival.arrival
    c.in_ok-arrival.ensures.arrival c.reach.new.walk (map ground_of c.in_ok-atoms-in-At.atoms.items)
    c.reach.ensures.tree c.in-At.is (c.in_ok-arrival.ensures.at c.in-At.is) c.requires.within
    c.in_ok-atoms-in-At.ensures

pub returns-in-Absent : goal.returns-in-Absent
returns-in-Absent c =
    no_state (tree_planned c.args.planner) c.args.path.now c.args.count c.in_ok-arrival.arrival
    c.in_ok-arrival.ensures.arrival reached.Absent c.in-Absent.is absent_differs

pub returns-in-Fault : goal.returns-in-Fault
returns-in-Fault c =
    no_state (tree_planned c.args.planner) c.args.path.now c.args.count c.in_ok-arrival.arrival
    c.in_ok-arrival.ensures.arrival (reached.Fault c.in-Fault.field-0) c.in-Fault.is
    (not_fault c.in-Fault.field-0)
