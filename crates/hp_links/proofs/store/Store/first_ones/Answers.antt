use Rattle.std.proofs.Common.{sym, ◌∙◌}
use Rattle.std.proofs.lemmas.Result.{IfOk-weaker}
use Rattle.hp_links.specs.Undoing.{stage_of}
use Rattle.hp_links.proofs.ScopeLemmas.{scope_at, scope_none}
use Rattle.hp_links.proofs.TrailSteps.{stage_now}
use Rattle.hp_links.proofs.store.Store.first_ones.Goals as goal

pub first_tasks-requires : goal.first_tasks-requires
first_tasks-requires c =
    let s = stage_of c.args.self.now in
    (scope_at s c.in-Some.start (stage_now c.args.self.now.trail.items s c.requires) (sym c.in-Some.ensures)).0

pub returns-in-None : goal.returns-in-None
returns-in-None c =
    let s = stage_of c.args.self.now in
    c.new.ensures.items ∙ scope_none s (stage_now c.args.self.now.trail.items s c.requires) (sym c.in-None.ensures)

pub returns-in-Some : goal.returns-in-Some
returns-in-Some c =
    let s = stage_of c.args.self.now in
    let scope = scope_at s c.in-Some.start (stage_now c.args.self.now.trail.items s c.requires) (sym c.in-Some.ensures) in
    IfOk-weaker c.first_tasks.result _ _ (λ v e. e ∙ scope.1) c.first_tasks.ensures
