use Rattle.std.proofs.Common.{◌≡◌, ◌+◌, ◌<◌, ◌≤◌, length, map, drop, vec_len, vec_capacity}
use Rattle.std.specs.List.{All}
use Rattle.hp_syntax.specs.GroundPatterns.{AreGroundPatterns, terms_said}
use Rattle.hp_syntax.specs.Views.{pattern_of, patterns_of}
use Rattle.hp_eval.specs.GoalViews.{term_at}
use Rattle.hp_eval.specs.Growth.{Grows}
use Rattle.hp_eval.specs.Steps.{onto}
use Rattle.hp_eval.proofs.Sizes.{pattern_size, patterns_size}
use Rattle.hp_eval.proofs.grounds.+ground.Given as goal

abbrev pub decreases-ground_term : goal.decreases-ground_term
decreases-ground_term l = pattern_size (pattern_of l.pat.now)

abbrev pub decreases-ground_list : goal.decreases-ground_list
decreases-ground_list l = patterns_size (patterns_of l.parts.now) + 1

abbrev pub decreases-ground_parts : goal.decreases-ground_parts
decreases-ground_parts l = patterns_size (patterns_of l.parts.now)

abbrev pub invariant-ground_parts-loop-part : goal.invariant-ground_parts-loop-part
invariant-ground_parts-loop-part l = record {
  grows : Grows l.fn.cells l.cells;
  room : (vec_len l.found ≡ l.part-index) × (length l.parts ≤ vec_capacity l.found);
  below : All (λ c. c < length l.cells) l.found.items;
  left : AreGroundPatterns (patterns_of (drop l.part-index l.parts));
  so_far : terms_said (patterns_of l.parts)
      ≡ onto (map (term_at l.cells) l.found.items) (terms_said (patterns_of (drop l.part-index l.parts)));
}
