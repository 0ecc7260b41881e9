use Rattle.std.proofs.Common.{refl, subst, sym}
use Rattle.std.specs.List.{All}
use Rattle.hp_net.specs.Standings.{IsAtItsNode}
use Rattle.hp_way.proofs.PlanSteps.{comes_so}
use Rattle.hp_way.proofs.plans.go_to_plan.Goals as goal

pub returns-in-Ok-clause-comes : goal.returns-in-Ok-clause-comes
returns-in-Ok-clause-comes g c =
    let vs = (g.W.Walk.stands c.args.walk.now).rest in
    comes_so c.args.number (g.W.Walk.tree c.go_through.new.walk) _ c.go_through.new.pass _ _ _ _ refl refl
    (subst (λ t. All (IsAtItsNode t) vs) (sym c.go_through.ensures.tree) c.requires.at) c.in-Ok.ensures.passes
