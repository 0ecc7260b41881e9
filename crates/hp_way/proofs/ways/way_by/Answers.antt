use Rattle.std.proofs.Common.{map, sym, ◌∙◌}
use Rattle.hp_search.specs.Planned.{tree_planned}
use Rattle.hp_way.specs.Ways.{deed_of}
use Rattle.hp_way.proofs.WaySteps.{leads_to_plan}
use Rattle.hp_way.proofs.ways.way_by.Goals as goal

pub returns-in_ok-deeds-in-At-clause-way : goal.returns-in_ok-deeds-in-At-clause-way
returns-in_ok-deeds-in-At-clause-way c =
    leads_to_plan (tree_planned c.args.planner.now) c.reach.new.walk c.args.path.now c.in_ok-arrival.arrival
    (map deed_of c.in_ok-deeds-in-At.deeds.items) c.reach.ensures.tree c.in_ok-arrival.ensures.arrival c.in-At.is
    (c.in_ok-arrival.ensures.at c.in-At.is) c.in_ok-deeds-in-At.ensures

pub returns-in-Absent-clause-way : goal.returns-in-Absent-clause-way
returns-in-Absent-clause-way c = sym c.in_ok-arrival.ensures.arrival.answer ∙ c.in-Absent.is

pub returns-in-Fault-clause-way : goal.returns-in-Fault-clause-way
returns-in-Fault-clause-way c = sym c.in_ok-arrival.ensures.arrival.answer ∙ c.in-Fault.is

pub returns-in_ok-deeds-in-At-clause-stands : goal.returns-in_ok-deeds-in-At-clause-stands
returns-in_ok-deeds-in-At-clause-stands c = (c.in_ok-arrival.ensures.at c.in-At.is).path
