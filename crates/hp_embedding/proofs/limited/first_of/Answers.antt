use Rattle.std.proofs.Common.{refl, subst, sym}
use Rattle.std.specs.List.{All}
use Rattle.hp_net.specs.Standings.{IsAtItsNode}
use Rattle.hp_embedding.specs.Budgets.{Explains}
use Rattle.hp_embedding.specs.Limits.{within}
use Rattle.hp_embedding.specs.declared.budget.SearchError.TheVariants as errors
use Rattle.hp_embedding.proofs.LimitSteps.{ends_so, error_of, explained}
use Rattle.hp_embedding.proofs.limited.first_of.Goals as goal

pub returns-in-Ok-clause-ends : goal.returns-in-Ok-clause-ends
returns-in-Ok-clause-ends g c =
    let vs = (g.W.Walk.stands c.args.walk.now).rest in
    ends_so c.args.most (g.W.Walk.tree c.go_through.new.walk) _ c.go_through.new.pass _ _ _ _ refl refl
    (subst (λ t. All (IsAtItsNode t) vs) (sym c.go_through.ensures.tree) c.requires.at) c.in-Ok.ensures.passes

pub returns-in-Err-Failed-clause-err : goal.returns-in-Err-Failed-clause-err
returns-in-Err-Failed-clause-err g c =
    let vs = (g.W.Walk.stands c.args.walk.now).rest in
    let found : Explains (errors.Fault c.in-Err-Failed.fault) (within c.args.most vs) =
    subst (λ x. Explains (error_of x) (within c.args.most vs)) c.in-Err-Failed.field-0-is
    (explained c.args.most _ _ _ _ _ refl c.in-Err-Failed.ensures.stops) in
    subst (λ f. Explains (errors.Fault f) (within c.args.most vs)) (sym c.in-Err-Failed.fault-is) found
