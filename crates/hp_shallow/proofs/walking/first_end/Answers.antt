use Rattle.std.proofs.Common.{refl, subst, sym}
use Rattle.hp_syntax.specs.Report.{nothing_seen}
use Rattle.hp_shallow.specs.LeastDepth.{StandsAtPlan}
use Rattle.hp_shallow.proofs.WalkSteps.{Comes, comes}
use Rattle.hp_shallow.proofs.walking.first_end.Goals as goal

pub returns-in-Ok : goal.returns-in-Ok
returns-in-Ok g c =
    let old = g.W.Walk.tree c.args.walk.now in
    let vs = (g.W.Walk.stands c.args.walk.now).rest in
    let there = g.W.Walk.stands c.go_through.new.walk in
    let end : Comes old nothing_seen vs c.go_through.new.pass there =
    comes old nothing_seen vs _ c.go_through.new.pass _ _ there
    (record { plans = refl; expansions = refl; answer = refl }) c.requires.at c.in-Ok.ensures.passes in
    record {
      answer = end.answer;
      expansions = end.expansions;
      plan = λ e. subst (λ t. StandsAtPlan t there vs) (sym c.go_through.ensures.tree) (end.plan e);
      root = end.root;
      tree = c.go_through.ensures.tree;
      live = c.in-Ok.ensures.live;
    }
