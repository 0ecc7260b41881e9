use Rattle.std.proofs.Common.{ap}
use Rattle.hp_syntax.specs.Views.{atom_of}
use Rattle.hp_nodes.specs.NodeViews.{laid_of, operation_of}
use Rattle.hp_eval.specs.declared.event.Event.TheVariants as events
use Rattle.hp_suspended.specs.SceneViews.{code_in}
use Rattle.hp_suspended.proofs.NodeReadings.{expression_within}
use Rattle.hp_suspended.proofs.BeginSteps.{atom_found}
use Rattle.hp_suspended.proofs.OnceSteps.{held_denied, missed_denied}
use Rattle.hp_suspended.proofs.held.denied_atom.Goals as goal

pub node_at-requires : goal.node_at-requires
node_at-requires c = expression_within (code_in c.args.scene.now) c.args.node c.requires.node

pub held_event-requires-clause-atom : goal.held_event-requires-clause-atom
held_event-requires-clause-atom c =
    atom_found (code_in c.args.scene.now) c.args.node (laid_of c.node_at.result.now) c.node_at.ensures.is
    (atom_of c.in-Atom.atom) (ap operation_of c.in-Atom.is)

pub returns-in-Sat : goal.returns-in-Sat
returns-in-Sat c =
    let a = c.args in
    let gives = rw c.in-Sat.is at c.in_ok-held_event-in-Atom.ensures in
    λ n. held_denied a.scene.now a.cells.now n a.node a.slots.now a.slots.now events.Sat a.scene.now.code.now.kept
    c.requires.node (laid_of c.node_at.result.now) c.node_at.ensures.is (atom_of c.in-Atom.atom)
    (ap operation_of c.in-Atom.is) (gives n)

pub returns-in-End : goal.returns-in-End
returns-in-End c =
    let a = c.args in
    let gives = rw c.in-End.is at c.in_ok-held_event-in-Atom.ensures in
    λ n. missed_denied a.scene.now a.cells.now n a.node a.slots.now a.slots.now events.End a.scene.now.code.now.kept
    c.requires.node (laid_of c.node_at.result.now) c.node_at.ensures.is (atom_of c.in-Atom.atom)
    (ap operation_of c.in-Atom.is) (gives n)
