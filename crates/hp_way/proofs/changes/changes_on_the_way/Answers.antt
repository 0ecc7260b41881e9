use Rattle.std.proofs.Common.{false, ap, sym, subst, ◌∙◌, ◌≡◌}
use Rattle.std.specs.Prelude.{IfOk, MatchOption}
use Rattle.hp_changes.specs.Changing.{AreAlong}
use Rattle.hp_dead_ends.specs.Arriving.{is_small}
use Rattle.hp_net.specs.Standings.{Standing, Tree, tree_visits}
use Rattle.hp_way.proofs.changes.changes_on_the_way.Goals as goal

pub changes_along-requires-clause-new : goal.changes_along-requires-clause-new
changes_along-requires-clause-new c =
    ap (λ (s : Standing). s.rest) c.in_ok-planner.ensures.stands ∙ sym (ap tree_visits c.in_ok-planner.ensures.tree)

pub returns : goal.returns
returns c =
    subst (λ (t : Tree). IfOk c.changes_along.result (λ o. MatchOption o (is_small c.args.path.now ≡ false)
    (λ v. AreAlong t c.args.path.now v.items))) c.in_ok-planner.ensures.tree c.changes_along.ensures
