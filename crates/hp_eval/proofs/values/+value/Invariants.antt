use Rattle.std.proofs.Common.{◌≡◌, ◌+◌, ◌<◌, ◌≤◌, Option, length, map, drop, vec_len, vec_capacity}
use Rattle.std.specs.List.{All}
use Rattle.hp_syntax.specs.declared.pattern.Tail.{Tail}
use Rattle.hp_syntax.specs.Terms.{More}
use Rattle.hp_syntax.specs.Values.{values}
use Rattle.hp_syntax.specs.Views.{pattern_of, patterns_of}
use Rattle.hp_eval.specs.GoalViews.{term_at}
use Rattle.hp_eval.specs.Growth.{Grows}
use Rattle.hp_eval.specs.Slotted.{bindings_of}
use Rattle.hp_eval.proofs.Loops.{behind}
use Rattle.hp_eval.proofs.Sizes.{pattern_size, patterns_size}
use Rattle.hp_eval.proofs.values.+value.Given as goal

abbrev pub decreases-value : goal.decreases-value
decreases-value l = pattern_size (pattern_of l.pat.now)

abbrev pub decreases-list_value : goal.decreases-list_value
decreases-list_value l = patterns_size (patterns_of l.parts.now) + 1

abbrev pub decreases-call_value : goal.decreases-call_value
decreases-call_value l = patterns_size (patterns_of l.args.now) + 1

abbrev pub decreases-part_values : goal.decreases-part_values
decreases-part_values l = patterns_size (patterns_of l.parts.now)

abbrev pub invariant-part_values-loop-part : goal.invariant-part_values-loop-part
invariant-part_values-loop-part l = record {
  grows : Grows l.fn.cells l.cells;
  room : (vec_len l.found ≡ l.part-index) × (length l.parts ≤ vec_capacity l.found);
  below : All (λ c. c < length l.cells) l.found.items;
  so_far : (tail : Option Tail)
      → values (patterns_of l.parts) tail (bindings_of l.fn.cells l.slots)
      ≡ behind More (map (term_at l.cells) l.found.items)
      (values (patterns_of (drop l.part-index l.parts)) tail (bindings_of l.fn.cells l.slots));
}
