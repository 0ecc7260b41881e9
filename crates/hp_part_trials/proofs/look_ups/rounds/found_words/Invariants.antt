use Rattle.std.proofs.Common.{◌≤◌}
use Rattle.hp_part_trials.proofs.look_ups.rounds.found_words.Given as goal

abbrev pub invariant-loop-word : goal.invariant-loop-word
invariant-loop-word l = l.count ≤ l.word-index
