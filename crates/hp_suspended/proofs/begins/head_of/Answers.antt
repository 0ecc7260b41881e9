use Rattle.std.proofs.Common.{ap, refl}
use Rattle.hp_nodes.specs.NodeViews.{laid_of, operation_of}
use Rattle.hp_syntax.specs.Views.{atom_of}
use Rattle.hp_suspended.specs.SceneViews.{code_in}
use Rattle.hp_suspended.proofs.BeginSteps.{axiom_within, head_found, no_axiom}
use Rattle.hp_suspended.proofs.begins.head_of.Goals as goal

pub node_at-requires : goal.node_at-requires
node_at-requires c = axiom_within (code_in c.args.scene.now) c.args.node c.requires

pub unreachable-requires : goal.unreachable-requires
unreachable-requires c =
    no_axiom (code_in c.args.scene.now) c.args.node (laid_of c.node_at.result.now) c.node_at.ensures.is
    c.node_at.result.now.op refl c.in_default.not-Axiom c.requires

pub returns : goal.returns
returns c =
    head_found (code_in c.args.scene.now) c.args.node (laid_of c.node_at.result.now) c.node_at.ensures.is
    (atom_of c.in-Axiom.head) (ap operation_of c.in-Axiom.is)
