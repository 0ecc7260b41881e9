use Rattle.std.proofs.Common.{◌≡◌, ◌≤◌, true, length}
use Rattle.hp_part_trials.proofs.wide.counted.Given as goal

abbrev pub invariant-loop-call : goal.invariant-loop-call
invariant-loop-call g l = record {
  live : g.S.Sats.is_live l.sats ≡ true;
  still_open : g.S.Sats.is_open l.sats ≡ true;
  base : g.S.Sats.suits l.sats l.base l.cells;
  slots : g.S.Sats.fits l.sats l.slots;
  cells : g.S.Sats.kept l.sats ≤ length l.cells;
}
