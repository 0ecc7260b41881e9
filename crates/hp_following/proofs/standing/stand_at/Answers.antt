use Rattle.std.proofs.Common.{map, refl, sym, ◌∙◌}
use Rattle.hp_after.proofs.Arrivals.{tree_at}
use Rattle.hp_following.proofs.HeadingSteps.{arrived_at, arrived_at_root, heads}
use Rattle.hp_syntax.specs.GroundViews.{ground_of}
use Rattle.hp_following.proofs.standing.stand_at.Goals as goal

pub returns-then-is_empty-clause-there : goal.returns-then-is_empty-clause-there
returns-then-is_empty-clause-there g c = λ e.
    arrived_at_root (map ground_of c.args.steps.now) (g.W.Walk.tree c.args.walk.now) c.args.path.now
    c.requires.followed (sym c.is_small.ensures ∙ c.if-not-is_small.false) (g.W.Walk.stands c.args.walk.now)
    c.requires.at_root (sym c.is_empty.ensures ∙ c.if-is_empty.true)

pub go_through-requires-clause-at : goal.go_through-requires-clause-at
go_through-requires-clause-at g c = tree_at (g.W.Walk.tree c.args.walk.now) _ c.requires.new

pub returns-in-Ok-clause-there : goal.returns-in-Ok-clause-there
returns-in-Ok-clause-there g c = λ e.
    let p = map ground_of c.args.steps.now in
    let t = g.W.Walk.tree c.args.walk.now in
    let small = sym c.is_small.ensures ∙ c.if-not-is_small.false in
    arrived_at p t c.args.path.now c.requires.followed small (g.W.Walk.stands c.go_through.new.walk)
    (heads p t c.args.path.now c.requires.followed small _ c.go_through.new.pass _ _ _
    (g.W.Walk.stands c.go_through.new.walk) refl refl c.requires.new (sym c.is_empty.ensures ∙ c.if-is_empty.false)
    c.in-Ok.ensures.passes)
