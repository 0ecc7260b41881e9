use Rattle.std.proofs.Common.{ap, refl, sym}
use Rattle.hp_nodes.specs.NodeViews.{laid_of, operation_of}
use Rattle.hp_suspended.specs.SceneViews.{code_in}
use Rattle.hp_suspended.proofs.NodeReadings.{expression_within}
use Rattle.hp_precondition.proofs.NothingLemmas.{and_there, other_there}
use Rattle.hp_precondition.proofs.start.asks_nothing.Goals as goal

pub node_at-here-requires : goal.node_at-here-requires
node_at-here-requires c = expression_within (code_in c.args.scene.now) c.args.node c.requires

pub returns-in-And : goal.returns-in-And
returns-in-And c =
    let s = c.args.scene.now in
    and_there (code_in s) c.args.node (laid_of c.node_at-here.result.now) c.node_at-here.ensures.is s.code.now.kept
    (ap operation_of c.in-And.is)

pub returns-in_default : goal.returns-in_default
returns-in_default c =
    sym (other_there (code_in c.args.scene.now) c.args.node (laid_of c.node_at-here.result.now)
    c.node_at-here.ensures.is c.node_at-here.result.now.op refl c.in_default.not-And)
