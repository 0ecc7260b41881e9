use Rattle.std.proofs.Common.{◌≡◌, ◌≤◌, length, vec_len, vec_capacity}
use Rattle.hp_syntax.specs.Views.{pattern_of, patterns_of}
use Rattle.hp_eval.specs.Slotted.{bindings_of}
use Rattle.hp_eval.specs.Growth.{Grows}
use Rattle.hp_eval.specs.GoalViews.{fillings_of}
use Rattle.hp_eval.specs.FillSteps.{AreFilledBelow}
use Rattle.hp_eval.proofs.FillStepLemmas.{AreFilledTo}
use Rattle.hp_eval.proofs.Sizes.{pattern_size, patterns_size}
use Rattle.hp_eval.proofs.goals.+fill.Given as goal

abbrev pub decreases-fill : goal.decreases-fill
decreases-fill l = pattern_size (pattern_of l.pat.now)

abbrev pub decreases-fill_parts : goal.decreases-fill_parts
decreases-fill_parts l = patterns_size (patterns_of l.pats.now)

abbrev pub invariant-fill_parts-loop-pat : goal.invariant-fill_parts-loop-pat
invariant-fill_parts-loop-pat l = record {
  grows : Grows l.initial.cells l.cells;
  room : (vec_len l.filled ≡ l.pat-index) × (length l.pats ≤ vec_capacity l.filled);
  below : AreFilledBelow (length l.cells) l.filled.items;
  so_far :
      AreFilledTo l.pats l.pat-index (bindings_of l.initial.cells l.slots) (fillings_of l.cells l.filled.items);
}
