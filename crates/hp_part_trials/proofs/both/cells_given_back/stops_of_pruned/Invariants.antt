use Rattle.std.proofs.Common.{◌≡◌, true}
use Rattle.hp_part_trials.proofs.both.cells_given_back.stops_of_pruned.Given as goal

abbrev pub invariant-loop-visit : goal.invariant-loop-visit
invariant-loop-visit g l = g.W.Walk.is_live l.walk ≡ true
