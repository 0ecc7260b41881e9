use Rattle.std.proofs.Common.{ap}
use Rattle.std.proofs.lemmas.Option.{IfSome_then}
use Rattle.hp_syntax.specs.Views.{atom_of}
use Rattle.hp_nodes.specs.NodeViews.{laid_of, operation_of}
use Rattle.hp_suspended.specs.SceneViews.{code_in, setting_of}
use Rattle.hp_suspended.proofs.NodeReadings.{expression_within, not_part}
use Rattle.hp_suspended.proofs.BeginSteps.{atom_found}
use Rattle.hp_suspended.proofs.OnceSteps.{holds_gives, not_gives}
use Rattle.hp_suspended.proofs.held.told_of.Goals as goal

pub node_at-requires : goal.node_at-requires
node_at-requires c = expression_within (code_in c.args.scene.now) c.args.node c.requires.node

pub held_event-requires-clause-atom : goal.held_event-requires-clause-atom
held_event-requires-clause-atom c =
    atom_found (code_in c.args.scene.now) c.args.node (laid_of c.node_at.result.now) c.node_at.ensures.is
    (atom_of c.in-Atom.atom) (ap operation_of c.in-Atom.is)

pub denied_atom-requires-clause-node : goal.denied_atom-requires-clause-node
denied_atom-requires-clause-node c =
    let a = c.args in
    not_part (setting_of a.scene.now a.cells.now) 0 a.node a.scene.now.code.now.kept c.requires.node
    (laid_of c.node_at.result.now) c.node_at.ensures.is (ap operation_of c.in-Not.is)

pub returns-in-Atom : goal.returns-in-Atom
returns-in-Atom c =
    let a = c.args in
    IfSome_then c.held_event.result c.held_event.ensures
    (λ x h n. holds_gives a.scene.now a.cells.now n a.node a.slots.now a.slots.now x a.scene.now.code.now.kept
    c.requires.node (laid_of c.node_at.result.now) c.node_at.ensures.is (atom_of c.in-Atom.atom)
    (ap operation_of c.in-Atom.is) (h n))

pub returns-in-Not : goal.returns-in-Not
returns-in-Not c =
    let a = c.args in
    IfSome_then c.denied_atom.result c.denied_atom.ensures
    (λ x h n. not_gives a.scene.now a.cells.now n a.node a.slots.now a.slots.now x a.scene.now.code.now.kept
    c.requires.node (laid_of c.node_at.result.now) c.node_at.ensures.is (ap operation_of c.in-Not.is) (h n))
