use Rattle.std.proofs.Common.{◌≡◌, ◌≤◌, drop, length}
use Rattle.hp_syntax.specs.Views.{pattern_of, patterns_of}
use Rattle.hp_syntax.specs.Goals.{start_parts}
use Rattle.hp_eval.specs.Slotted.{Binds, AreBelow, bindings_of}
use Rattle.hp_eval.specs.Growth.{Grows}
use Rattle.hp_eval.specs.GoalViews.{fillings_of}
use Rattle.hp_eval.specs.FillSteps.{AreFilledBelow}
use Rattle.hp_eval.proofs.Sizes.{pattern_size, patterns_size}
use Rattle.hp_eval.proofs.starting.+starting.Given as goal

abbrev pub decreases-start_part : goal.decreases-start_part
decreases-start_part l = pattern_size (pattern_of l.pat.now)

abbrev pub decreases-start_parts : goal.decreases-start_parts
decreases-start_parts l = patterns_size (patterns_of l.parts.now)

abbrev pub invariant-start_parts-loop-i : goal.invariant-start_parts-loop-i
invariant-start_parts-loop-i l = record {
  within : l.i ≤ length l.fillings;
  grows : Grows l.fn.cells l.cells;
  binds : Binds l.fn.slots l.slots;
  below : AreBelow (length l.cells) l.slots;
  fillings : AreFilledBelow (length l.cells) l.fillings;
  so_far :
      start_parts (patterns_of (drop l.i l.parts)) l.own (fillings_of l.fn.cells (drop l.i l.fillings)) l.free
      (bindings_of l.cells l.slots)
      ≡ start_parts (patterns_of l.parts) l.own (fillings_of l.fn.cells l.fillings) l.free
      (bindings_of l.fn.cells l.fn.slots);
}
