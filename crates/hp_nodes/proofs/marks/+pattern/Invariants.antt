use Rattle.std.proofs.Common.{◌≡◌, drop}
use Rattle.hp_syntax.specs.Views.{patterns_of}
use Rattle.hp_nodes.specs.Asked.{all_variables, also}
use Rattle.hp_nodes.specs.Marks.{marked}
use Rattle.hp_nodes.proofs.marks.+pattern.Given as goal

abbrev pub invariant-mark_patterns-loop-pattern : goal.invariant-mark_patterns-loop-pattern
invariant-mark_patterns-loop-pattern l =
    also (all_variables (patterns_of (drop l.pattern-index l.patterns))) (marked l.marks.items)
    ≡ also (all_variables (patterns_of l.patterns)) (marked l.fn.marks.items)
