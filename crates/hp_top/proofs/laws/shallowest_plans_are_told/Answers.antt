use Rattle.std.proofs.Common.{◌≡◌, ◌∙◌, ℕ, List, refl, sym}
use Rattle.hp_shallow.specs.LeastDepth.{IsWalkedAt, first_end, least_depth}
use Rattle.hp_syntax.specs.Report.{Stopped}
use Rattle.hp_syntax.specs.Walk.{Visit}
use Rattle.hp_top.specs.Outcome.{pair_visits}
use Rattle.hp_top.proofs.ShallowSteps.{cut_at_cut, done_stopped, none_at_end, shallowest_told_at, status_told_of, stopped_has_plan}
use Rattle.hp_top.proofs.laws.shallowest_plans_are_told.Goals as goal

pub returns-clause-plan : goal.returns-clause-plan
returns-clause-plan c = λ rules nest limit pair states done.
    let at : ℕ → List Visit = λ n. pair_visits rules nest n pair in
    let walked : IsWalkedAt rules nest pair at = λ n. refl in
    let d = least_depth at limit in
    let stopped : (first_end (at d)).ending ≡ Stopped =
    done_stopped (first_end (at d)).ending (sym (status_told_of (at d)) ∙ done) in
    shallowest_told_at rules nest pair states at d walked
    (c.least_depths_are_least.ensures.plan rules nest pair at walked limit stopped)
    (stopped_has_plan (at d) stopped)

pub returns-clause-none : goal.returns-clause-none
returns-clause-none c = λ rules nest limit pair states told.
    let at : ℕ → List Visit = λ n. pair_visits rules nest n pair in
    let walked : IsWalkedAt rules nest pair at = λ n. refl in
    let d = least_depth at limit in
    c.least_depths_are_least.ensures.none rules nest pair at walked limit
    (none_at_end (first_end (at d)).ending (sym (status_told_of (at d)) ∙ told))

pub returns-clause-cut : goal.returns-clause-cut
returns-clause-cut c = λ rules nest limit pair states told.
    let at : ℕ → List Visit = λ n. pair_visits rules nest n pair in
    let walked : IsWalkedAt rules nest pair at = λ n. refl in
    let d = least_depth at limit in
    c.least_depths_are_least.ensures.cut rules nest pair at walked limit
    (cut_at_cut (first_end (at d)).ending (sym (status_told_of (at d)) ∙ told))
