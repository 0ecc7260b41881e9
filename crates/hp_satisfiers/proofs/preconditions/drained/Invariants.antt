use Rattle.std.proofs.Common.{◌≡◌, ◌≤◌, true, length}
use Rattle.hp_syntax.specs.Preconditions.{heard}
use Rattle.hp_eval.specs.Growth.{Grows}
use Rattle.hp_answers.specs.AnswerViews.{FindsUpTo}
use Rattle.hp_satisfiers.proofs.preconditions.drained.Given as goal

abbrev pub invariant-loop-found : goal.invariant-loop-found
invariant-loop-found g l = record {
  found : FindsUpTo l.cells (length l.slots.values) l.found.items
      (heard (g.S.Sats.rest l.initial.sats tt l.initial.cells l.initial.slots))
      (heard (g.S.Sats.rest l.sats tt l.cells l.slots));
  vars : length l.slots.values ≡ length l.initial.slots.values;
  live : g.S.Sats.is_live l.sats ≡ true;
  still_open : g.S.Sats.is_open l.sats ≡ true;
  suits : g.S.Sats.suits l.sats tt l.cells;
  fits : g.S.Sats.fits l.sats l.slots;
  kept : g.S.Sats.kept l.sats ≤ length l.cells;
  grown : Grows l.initial.cells l.cells;
}

abbrev pub decreases-loop-found : goal.decreases-loop-found
decreases-loop-found g l = length (g.S.Sats.rest l.sats tt l.cells l.slots)
