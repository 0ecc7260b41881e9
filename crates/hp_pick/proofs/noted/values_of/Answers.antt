use Rattle.std.proofs.Common.{[], ◌∷◌, ◌++◌, ap₂, ◌∙◌, arith}
use Rattle.hp_pick.proofs.NotedLemmas.{copied_more}
use Rattle.hp_pick.proofs.noted.values_of.Goals as goal

pub loop-v-preserved : goal.loop-v-preserved
loop-v-preserved c =
    c.in_ok-push.ensures.items
    ∙ (ap₂ (λ xs x. xs ++ x ∷ []) c.loop-v.invariant c.get.ensures
    ∙ copied_more c.args.slots.now.values c.loop-v.v (omega arith))
