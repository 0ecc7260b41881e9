use Rattle.std.proofs.Common.{◌≡◌, ◌<◌, length}
use Rattle.hp_syntax.specs.Terms.{Terms, Listed, is_part}
use Rattle.hp_eval.specs.GoalViews.{term_at}
use Rattle.hp_eval.proofs.calls.is_member.Given as goal

abbrev pub invariant-loop-head : goal.invariant-loop-head
invariant-loop-head l = record {
  within : l.rest < length l.cells;
  left : (ys : Terms) → term_at l.cells l.fn.list ≡ Listed ys
      → (xs : Terms) × (term_at l.cells l.rest ≡ Listed xs)
      × (is_part (term_at l.cells l.item) xs ≡ is_part (term_at l.cells l.item) ys);
}

abbrev pub decreases-loop-head : goal.decreases-loop-head
decreases-loop-head l = l.rest
