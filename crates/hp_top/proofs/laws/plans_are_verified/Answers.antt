use Rattle.hp_syntax.specs.Walk.{root}
use Rattle.hp_top.specs.Outcome.{pair_visits}
use Rattle.hp_telling.proofs.VerifySteps.{done_is_derived}
use Rattle.hp_verify.specs.Kept.{told_kept}
use Rattle.hp_top.proofs.laws.plans_are_verified.Goals as goal

pub returns : goal.returns
returns c = λ rules nest depth pair steps faultless.
    let vs = pair_visits rules nest depth pair in
    let t = told_kept steps vs in
    let exact =
    c.kept_walks_are_exact.ensures steps vs (c.steps_only_grow.ensures.visits rules nest (root pair depth)) faultless in
    let done = done_is_derived t.said t.expansions in
    (λ e. exact.0 (done.0 e), λ h. done.1 (exact.1 h))
