use Rattle.std.proofs.Common.{◌≡◌, ◌≤◌, ◌∷◌, length, map, drop, vec_len, vec_capacity}
use Rattle.hp_syntax.specs.Calls as plain
use Rattle.hp_eval.specs.CallRows.{all_numbers}
use Rattle.hp_eval.specs.GoalViews.{term_at, row_of}
use Rattle.hp_eval.proofs.Loops.{behind}
use Rattle.hp_eval.proofs.calls.numbers.Given as goal

abbrev pub invariant-loop-arg : goal.invariant-loop-arg
invariant-loop-arg l = record {
  room : (vec_len l.found ≡ l.arg-index) × (length l.args ≤ vec_capacity l.found);
  so_far : all_numbers l.span (plain.numbers (row_of (map (term_at l.cells) l.args)))
      ≡ behind ◌∷◌ l.found.items
      (all_numbers l.span (plain.numbers (row_of (map (term_at l.cells) (drop l.arg-index l.args)))));
}
