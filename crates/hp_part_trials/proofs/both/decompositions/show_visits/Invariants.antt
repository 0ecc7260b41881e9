use Rattle.std.proofs.Common.{◌≡◌, true}
use Rattle.hp_part_trials.proofs.both.decompositions.show_visits.Given as goal

abbrev pub invariant-loop-visit : goal.invariant-loop-visit
invariant-loop-visit l = l.walk.live ≡ true
