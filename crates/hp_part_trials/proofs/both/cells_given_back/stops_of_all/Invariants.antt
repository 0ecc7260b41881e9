use Rattle.std.proofs.Common.{◌≡◌, true}
use Rattle.hp_part_trials.proofs.both.cells_given_back.stops_of_all.Given as goal

abbrev pub invariant-loop-visits : goal.invariant-loop-visits
invariant-loop-visits g l = g.W.Walk.is_live l.walk ≡ true
