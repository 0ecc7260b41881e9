use Rattle.std.proofs.Common.{refl, subst}
use Rattle.hp_net.specs.Standings.{tree_visits}
use Rattle.hp_best.proofs.Cheapest.{at_nodes, found_cheapest, search_found}
use Rattle.hp_best.specs.Bounded.{IsFound}
use Rattle.hp_best.proofs.bounding.best.Goals as goal

pub go_through-went-requires-clause-at : goal.go_through-went-requires-clause-at
go_through-went-requires-clause-at g c =
    at_nodes (g.W.Walk.tree c.args.walk.now) (g.W.Walk.stands c.args.walk.now).rest c.requires.new

pub returns-in-Ok-clause-found : goal.returns-in-Ok-clause-found
returns-in-Ok-clause-found g c =
    subst (IsFound c.args.priced c.go_through-went.new.pass.found) c.requires.new
    (search_found c.args.priced _ c.go_through-went.new.pass _ _ (g.W.Walk.stands c.args.walk.now).rest _ refl
    (record { best = tt; plans = refl; expansions = refl; ending = refl }) c.in-Ok.ensures.passes)

pub returns-in-Ok-clause-cheapest : goal.returns-in-Ok-clause-cheapest
returns-in-Ok-clause-cheapest g c =
    found_cheapest c.args.priced _ (tree_visits (g.W.Walk.tree c.args.walk.now)) c.requires.falls
    (returns-in-Ok-clause-found g c)
