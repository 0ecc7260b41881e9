use Rattle.std.proofs.Common.{◌≡◌, ◌++◌, true, length, map}
use Rattle.std.specs.List.{list_all}
use Rattle.hp_words.specs.Numbers.{number_from}
use Rattle.hp_words.specs.PathWords.{is_path_number, pieces}
use Rattle.hp_words.proofs.paths.numbers.Given as goal

abbrev pub invariant-loop-numbers : goal.invariant-loop-numbers
invariant-loop-numbers l = record {
  so_far : l.numbers.items ++ map (number_from 0) (pieces l.rest) ≡ map (number_from 0) (pieces l.fn.word);
  numbers : list_all is_path_number (pieces l.rest) ≡ true;
}

abbrev pub decreases-loop-numbers : goal.decreases-loop-numbers
decreases-loop-numbers l = length l.rest
