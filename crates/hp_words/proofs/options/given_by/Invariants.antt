use Rattle.std.proofs.Common.{◌≡◌, length, map, string_bytes}
use Rattle.std.specs.Option.{option_and_then}
use Rattle.hp_words.specs.Command.{given_all, given_by, options_spelled}
use Rattle.hp_words.specs.Words.{IsGiven, given_of}
use Rattle.hp_words.proofs.options.given_by.Given as goal

abbrev pub invariant-loop-rest : goal.invariant-loop-rest
invariant-loop-rest l = record {
  left : option_and_then (given_all (given_of l.given)) (options_spelled (map string_bytes l.rest))
      ≡ given_by (map string_bytes l.words);
  within : IsGiven l.given;
}

abbrev pub decreases-loop-rest : goal.decreases-loop-rest
decreases-loop-rest l = length l.rest
