use Rattle.std.proofs.Common.{◌≡◌, true}
use Rattle.hp_part_trials.proofs.both.walks_at_once.call_on.Given as goal

abbrev pub invariant-loop-call : goal.invariant-loop-call
invariant-loop-call g l = record {
  first : g.V.Walk.is_live l.first ≡ true;
  second : g.W.Walk.is_live l.second ≡ true;
}
