use Rattle.std.proofs.Common.{refl}
use Rattle.hp_after.proofs.Arrivals.{arrives, tree_at}
use Rattle.hp_after.proofs.PlanLemmas.{told_found, told_only}
use Rattle.hp_after.proofs.reaching.reach.Goals as goal

pub go_through-requires-clause-at : goal.go_through-requires-clause-at
go_through-requires-clause-at g c = tree_at (g.W.Walk.tree c.args.walk.now) _ c.requires.new

pub returns-in-Ok : goal.returns-in-Ok
returns-in-Ok g c =
    let p = c.args.target.now in
    let t = g.W.Walk.tree c.args.walk.now in
    let come = arrives p c.requires.small t _ c.go_through.new.pass _ _ _ refl
    (record { answer = refl; expansions = refl }) _ c.requires.new c.in-Ok.ensures.passes in
    record {
      arrival = come.arrival;
      at = come.at;
      found = told_found t p _ come.arrival;
      only = told_only t p _ come.arrival;
      live = c.in-Ok.ensures.live;
      tree = c.go_through.ensures.tree;
    }
