use Rattle.std.proofs.Common.{refl, sym, subst, ◌∙◌}
use Rattle.hp_after.proofs.Arrivals.{tree_at}
use Rattle.hp_changes.specs.Changing.{AreAlong}
use Rattle.hp_changes.proofs.ChangingSteps.{are_along, root_held}
use Rattle.hp_changes.proofs.changing.changes_along.Goals as goal

pub go_through-requires-clause-at : goal.go_through-requires-clause-at
go_through-requires-clause-at g c = tree_at (g.W.Walk.tree c.args.walk.now) _ c.requires.new

pub returns-in-Ok : goal.returns-in-Ok
returns-in-Ok g c =
    let t = g.W.Walk.tree c.args.walk.now in
    subst (λ v. AreAlong t c.args.path.now v.items) (sym c.into_changes-in-Ok.ensures)
    (are_along t c.args.path.now _ c.go_through.new.pass _ _ _ _
    (sym c.is_small.ensures ∙ c.if-not-is_small.false) refl c.new.ensures.items
    (root_held t (g.W.Walk.stands c.args.walk.now) c.in_ok-before.before c.requires.at_root c.in_ok-before.ensures)
    c.requires.new (sym c.is_empty.ensures ∙ c.if-is_empty.false) c.in-Ok.ensures.passes)
