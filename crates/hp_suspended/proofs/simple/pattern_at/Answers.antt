use Rattle.std.proofs.Common.{ap, refl}
use Rattle.hp_nodes.specs.NodeViews.{laid_of, operation_of}
use Rattle.hp_syntax.specs.Views.{atom_of}
use Rattle.hp_suspended.specs.SceneViews.{code_in}
use Rattle.hp_suspended.proofs.BeginSteps.{atom_found, atom_within, no_atom}
use Rattle.hp_suspended.proofs.simple.pattern_at.Goals as goal

pub node_at-requires : goal.node_at-requires
node_at-requires c = atom_within (code_in c.args.scene.now) c.args.node c.requires

pub unreachable-requires : goal.unreachable-requires
unreachable-requires c =
    no_atom (code_in c.args.scene.now) c.args.node (laid_of c.node_at.result.now) c.node_at.ensures.is
    c.node_at.result.now.op refl c.in_default.not-Atom c.requires

pub returns : goal.returns
returns c =
    atom_found (code_in c.args.scene.now) c.args.node (laid_of c.node_at.result.now) c.node_at.ensures.is
    (atom_of c.in-Atom.atom) (ap operation_of c.in-Atom.is)
