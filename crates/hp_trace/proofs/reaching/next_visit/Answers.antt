use Rattle.std.proofs.Common.{refl}
use Rattle.hp_trace.proofs.ReachSteps.{comes_next}
use Rattle.hp_trace.proofs.reaching.next_visit.Goals as goal

pub returns-in-Ok-clause-next : goal.returns-in-Ok-clause-next
returns-in-Ok-clause-next c =
    comes_next c.args.from.now c.requires.small _ _ _ _ _ _ refl refl c.in-Ok.ensures.passes
