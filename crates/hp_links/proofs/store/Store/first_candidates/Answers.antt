use Rattle.std.proofs.Common.{List, ℕ, take, sym, ap, ◌∙◌}
use Rattle.std.proofs.lemmas.Result.{IfOk-weaker}
use Rattle.hp_links.specs.Placed.{candidates_in, immediate_first}
use Rattle.hp_links.specs.Undoing.{stage_of}
use Rattle.hp_links.proofs.CandidateLemmas.{take_nil}
use Rattle.hp_links.proofs.ScopeLemmas.{scope_at, scope_none}
use Rattle.hp_links.proofs.TrailSteps.{stage_now}
use Rattle.hp_links.proofs.store.Store.first_candidates.Goals as goal

pub first_candidates-requires : goal.first_candidates-requires
first_candidates-requires c =
    let s = stage_of c.args.self.now in
    (scope_at s c.in-Some.start (stage_now c.args.self.now.trail.items s c.requires) (sym c.in-Some.ensures)).0

pub returns-in-None : goal.returns-in-None
unfolding candidates_in
returns-in-None c =
    let s = stage_of c.args.self.now in
    c.new.ensures.items
    ∙ (sym (take_nil c.args.limit)
    ∙ ap (λ (ks : List ℕ). take c.args.limit (immediate_first s.parts ks))
    (scope_none s (stage_now c.args.self.now.trail.items s c.requires) (sym c.in-None.ensures)))

pub returns-in-Some : goal.returns-in-Some
unfolding candidates_in
returns-in-Some c =
    let s = stage_of c.args.self.now in
    let stage = stage_now c.args.self.now.trail.items s c.requires in
    let scope = scope_at s c.in-Some.start stage (sym c.in-Some.ensures) in
    IfOk-weaker c.first_candidates.result _ _
    (λ v e. e ∙ ap (λ (ks : List ℕ). take c.args.limit (immediate_first s.parts ks)) scope.1)
    c.first_candidates.ensures
