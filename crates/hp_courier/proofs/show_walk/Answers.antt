use Rattle.hp_syntax.specs.GroundPatterns.{IsGroundPair}
use Rattle.hp_top.proofs.PairSteps.{held_at}
use Rattle.hp_courier.proofs.show_walk.Goals as goal

pub walk-requires-clause-pair : goal.walk-requires-clause-pair
walk-requires-clause-pair g c =
    held_at IsGroundPair c.deref-pair-items.result.now c.loop-pair.pair-index c.pair-item.result
    c.loop-pair-test.true c.pair-item.is (rw c.deref-pair-items.ensures.value c.in_ok-domain.ensures.ground)
