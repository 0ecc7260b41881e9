use Rattle.std.proofs.Common.{◌≡◌, true}
use Rattle.hp_part_trials.proofs.both.calls.visit_on.Given as goal

abbrev pub invariant-loop-visit : goal.invariant-loop-visit
invariant-loop-visit g l = g.W.Walk.is_live l.walk ≡ true
