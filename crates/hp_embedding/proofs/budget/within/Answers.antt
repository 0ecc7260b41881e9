use Rattle.std.proofs.Common.{refl, subst}
use Rattle.std.specs.Int.{w128}
use Rattle.std.specs.List.{Any}
use Rattle.std.specs.Prelude.{IfSome}
use Rattle.std.proofs.lemmas.Int.{to_z-of_z}
use Rattle.hp_embedding.specs.Budgets.{NeverFalls, IsFirst, IsTaken, Explains}
use Rattle.hp_embedding.proofs.BudgetSteps.{error_of, explained, finds_first, finds_some}
use Rattle.hp_embedding.proofs.budget.within.Goals as goal

pub returns-in-Ok-clause-first : goal.returns-in-Ok-clause-first
returns-in-Ok-clause-first g c =
    let vs = (g.W.Walk.stands c.args.walk.now).rest in
    subst (λ b. NeverFalls vs → IsFirst b c.go_through.new.pass.found vs)
    (to_z-of_z w128 c.args.budget c.ranges.budget)
    (finds_first _ c.go_through.new.pass _ _ _ _ refl c.in-Ok.ensures.passes)

pub returns-in-Ok-clause-plan : goal.returns-in-Ok-clause-plan
returns-in-Ok-clause-plan g c =
    let vs = (g.W.Walk.stands c.args.walk.now).rest in
    subst (λ b. IfSome c.go_through.new.pass.found (λ f. Any (IsTaken b f) vs))
    (to_z-of_z w128 c.args.budget c.ranges.budget)
    (finds_some _ c.go_through.new.pass _ _ _ _ refl c.in-Ok.ensures.passes)

pub returns-clause-err : goal.returns-clause-err
returns-clause-err g c =
    subst (λ x. Explains (error_of x) (g.W.Walk.stands c.args.walk.now).rest) c.in-Err-Failed.field-0-is
    (explained _ _ _ _ _ c.in-Err-Failed.ensures.stops)
