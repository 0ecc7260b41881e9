use Rattle.std.proofs.Common.{◌≤◌}
use Rattle.hp_part_trials.proofs.parts.undone_networks.differing.Given as goal

abbrev pub invariant-loop-round : goal.invariant-loop-round
invariant-loop-round l = l.differ ≤ l.round
