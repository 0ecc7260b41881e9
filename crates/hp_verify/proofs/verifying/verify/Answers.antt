use Rattle.std.proofs.Common.{map, refl}
use Rattle.hp_best.proofs.Cheapest.{at_nodes}
use Rattle.hp_net.specs.Standings.{tree_visits}
use Rattle.hp_syntax.specs.GroundViews.{ground_of}
use Rattle.hp_verify.proofs.KeptSteps.{IsVerified}
use Rattle.hp_verify.proofs.Verified.{verdict_exact, walk_verified}
use Rattle.hp_verify.proofs.verifying.verify.Goals as goal

pub go_through-requires-clause-at : goal.go_through-requires-clause-at
go_through-requires-clause-at g c =
    at_nodes (g.W.Walk.tree c.args.walk.now) (g.W.Walk.stands c.args.walk.now).rest c.requires.new

pub returns-in-Ok : goal.returns-in-Ok
returns-in-Ok g c =
    let p = map ground_of c.args.steps.now in
    let t = g.W.Walk.tree c.args.walk.now in
    let now = g.W.Walk.tree c.go_through.new.walk in
    let there = g.W.Walk.stands c.go_through.new.walk in
    let whole : IsVerified p now (tree_visits t) c.go_through.new.pass.verdict there =
    walk_verified p t now _ c.go_through.new.pass _ _ (g.W.Walk.stands c.args.walk.now).rest there
    c.go_through.ensures.tree c.requires.new refl refl refl c.in-Ok.ensures.passes in
    record {
      verdict = whole.verdict;
      at = whole.stands;
      derived = whole.derived;
      exact = verdict_exact _ p t whole.verdict;
      tree = c.go_through.ensures.tree;
      live = c.in-Ok.ensures.live;
    }
