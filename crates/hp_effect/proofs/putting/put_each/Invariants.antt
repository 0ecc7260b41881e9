use Rattle.std.proofs.Common.{◌≡◌, ◌≤◌, true, length}
use Rattle.hp_eval.specs.Growth.{Grows}
use Rattle.hp_eval.specs.Slotted.{undone}
use Rattle.hp_world.specs.Stages.{changes_of}
use Rattle.hp_effect.specs.Gathering.{each_going}
use Rattle.hp_effect.proofs.GatheringLemmas.{Along}
use Rattle.hp_effect.proofs.putting.put_each.Given as goal

abbrev pub invariant-loop : goal.invariant-loop
invariant-loop g l = record {
  along : Along l.side
      (each_going (g.A.PutAtoms.atoms l.atoms) (g.S.Sats.rest l.initial.sats l.base l.initial.cells l.initial.slots))
      (each_going (g.A.PutAtoms.atoms l.atoms) (g.S.Sats.rest l.sats l.base l.cells l.slots)) l.cells
      (changes_of l.initial.cells l.initial.changes) l.changes;
  live : g.S.Sats.is_live l.sats ≡ true;
  still_open : g.S.Sats.is_open l.sats ≡ true;
  base : g.S.Sats.suits l.sats l.base l.cells;
  slots : g.S.Sats.fits l.sats l.slots;
  same_below : undone (g.S.Sats.start l.sats) l.slots ≡ undone (g.S.Sats.start l.initial.sats) l.initial.slots;
  start : g.S.Sats.start l.sats ≡ g.S.Sats.start l.initial.sats;
  kept : g.S.Sats.kept l.initial.sats ≤ g.S.Sats.kept l.sats;
  few : g.S.Sats.kept l.sats ≤ length l.cells;
  grown : Grows l.initial.cells l.cells;
}

abbrev pub decreases-loop : goal.decreases-loop
decreases-loop g l = length (g.S.Sats.rest l.sats l.base l.cells l.slots)
