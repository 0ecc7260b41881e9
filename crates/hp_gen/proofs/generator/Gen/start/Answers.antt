use Rattle.std.proofs.Common.{ap, refl}
use Rattle.hp_syntax.specs.Preconditions.{heard}
use Rattle.hp_suspended.proofs.Shapes.{view_fresh}
use Rattle.hp_gen.proofs.GenSteps.{start_left, start_suits}
use Rattle.hp_gen.proofs.generator.Gen.start.Goals as goal

pub returns-clause-rest : goal.returns-clause-rest
returns-clause-rest c = λ E whole.
    ap heard (start_left c.args.scene.now c.args.cells.now c.args.slots.now c.requires.ready c.args.node c.args.nest
    c.requires.node _ _ c.mark-mark.ensures (view_fresh _ _ _) E whole)

pub returns-clause-suits : goal.returns-clause-suits
returns-clause-suits c =
    start_suits c.args.scene.now c.args.cells.now c.args.slots.now c.requires.ready c.args.node c.args.nest
    c.requires.node _ c.mark-mark.ensures (view_fresh _ _ _) refl c.len.ensures.count
