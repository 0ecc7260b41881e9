use Rattle.std.proofs.Common.{◌≡◌, ◌≤◌, true, length}
use Rattle.std.specs.List.{All}
use Rattle.hp_syntax.specs.Views.{key_of}
use Rattle.hp_syntax.specs.Preconditions.{keyed}
use Rattle.hp_eval.specs.Slotted.{undone}
use Rattle.hp_eval.specs.Growth.{Grows}
use Rattle.hp_pick.specs.Noted.{IsNoted, with_notes}
use Rattle.hp_pick.proofs.hearing.hear.Given as goal

abbrev pub invariant-loop-notes : goal.invariant-loop-notes
invariant-loop-notes g l = record {
  heard : with_notes l.cells l.notes
      (keyed (key_of l.key) (g.S.Sats.rest l.inner l.base l.cells l.slots))
      ≡ keyed (key_of l.key) (g.S.Sats.rest l.initial.inner l.base l.initial.cells l.initial.slots);
  noted : All (IsNoted (length l.cells) (undone (g.S.Sats.start l.inner) l.slots)) l.notes.sats.items;
  live : g.S.Sats.is_live l.inner ≡ true;
  still_open : g.S.Sats.is_open l.inner ≡ true;
  base : g.S.Sats.suits l.inner l.base l.cells;
  slots : g.S.Sats.fits l.inner l.slots;
  same_below : undone (g.S.Sats.start l.inner) l.slots ≡ undone (g.S.Sats.start l.initial.inner) l.initial.slots;
  start : g.S.Sats.start l.inner ≡ g.S.Sats.start l.initial.inner;
  kept : g.S.Sats.kept l.initial.inner ≤ g.S.Sats.kept l.inner;
  few : g.S.Sats.kept l.inner ≤ length l.cells;
  grown : Grows l.initial.cells l.cells;
}

abbrev pub decreases-loop-notes : goal.decreases-loop-notes
decreases-loop-notes g l = length (g.S.Sats.rest l.inner l.base l.cells l.slots)
