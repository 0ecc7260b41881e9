use Rattle.std.proofs.Common.{refl, sym, ◌∙◌}
use Rattle.hp_after.proofs.Arrivals.{tree_at}
use Rattle.hp_dead_ends.proofs.ArrivingSteps.{arrives, arrived_at_root}
use Rattle.hp_dead_ends.proofs.arriving.go_to.Goals as goal

pub returns-then-is_empty-clause-there : goal.returns-then-is_empty-clause-there
returns-then-is_empty-clause-there g c = λ e.
    arrived_at_root (g.W.Walk.tree c.args.walk.now) c.args.path.now c.requires.held
    (sym c.is_small.ensures ∙ c.if-not-is_small.false) (g.W.Walk.stands c.args.walk.now) c.requires.at_root
    (sym c.is_empty.ensures ∙ c.if-is_empty.true)

pub go_through-requires-clause-at : goal.go_through-requires-clause-at
go_through-requires-clause-at g c = tree_at (g.W.Walk.tree c.args.walk.now) _ c.requires.new

pub returns-in-Ok-clause-there : goal.returns-in-Ok-clause-there
returns-in-Ok-clause-there g c = λ e.
    arrives (g.W.Walk.tree c.args.walk.now) c.args.path.now c.requires.held
    (sym c.is_small.ensures ∙ c.if-not-is_small.false) _ c.go_through.new.pass _ _ _ _ refl c.requires.new
    (sym c.is_empty.ensures ∙ c.if-is_empty.false) c.in-Ok.ensures.passes
