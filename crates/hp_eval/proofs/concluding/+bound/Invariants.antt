use Rattle.std.proofs.Common.{◌≡◌, List, length, drop}
use Rattle.hp_syntax.specs.Terms.{Term}
use Rattle.hp_syntax.specs.Events.{parts_bound}
use Rattle.hp_syntax.specs.Views.{pattern_of, patterns_of}
use Rattle.hp_eval.specs.Slotted.{AreBelow, bindings_of}
use Rattle.hp_eval.proofs.Sizes.{pattern_size, patterns_size}
use Rattle.hp_eval.proofs.concluding.+bound.Given as goal

abbrev pub decreases-is_all_bound : goal.decreases-is_all_bound
decreases-is_all_bound l = pattern_size (pattern_of l.pat.now)

abbrev pub decreases-are_bound : goal.decreases-are_bound
decreases-are_bound l = patterns_size (patterns_of l.pats.now)

abbrev pub invariant-are_bound-loop-pat : goal.invariant-are_bound-loop-pat
invariant-are_bound-loop-pat l =
    (terms : List Term) → AreBelow (length terms) l.slots
    → parts_bound (patterns_of l.pats) (bindings_of terms l.slots)
    ≡ parts_bound (patterns_of (drop l.pat-index l.pats)) (bindings_of terms l.slots)
