use Rattle.std.proofs.Common.{take}
use Rattle.hp_lint.proofs.CountLemmas.{take_next}
use Rattle.hp_lint.proofs.variables.Counts.of.Goals as goal

pub loop-found-preserved : goal.loop-found-preserved
loop-found-preserved c =
    take_next c.args.uses.now c.loop-found.found-index _ c.add.new.self c.loop-found-test.true
    (c.in_ok-add.ensures (take c.loop-found.found-index c.args.uses.now) c.loop-found.invariant)
