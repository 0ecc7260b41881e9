use Rattle.std.proofs.Common.{◌≡◌}
use Rattle.hp_words.specs.PathWords.{are_numbers, pieces}
use Rattle.hp_words.specs.declared.paths.TheConstants.{MOST_NUMBERS}
use Rattle.hp_words.proofs.paths.are_numbers.Given as goal

abbrev pub invariant-loop-left : goal.invariant-loop-left
invariant-loop-left l = are_numbers l.left (pieces l.rest) ≡ are_numbers MOST_NUMBERS (pieces l.fn.word)

abbrev pub decreases-loop-left : goal.decreases-loop-left
decreases-loop-left l = l.left
