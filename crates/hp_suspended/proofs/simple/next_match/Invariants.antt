use Rattle.std.proofs.Common.{◌≡◌, ◌-◌, List, None, length}
use Rattle.hp_syntax.specs.Terms.{Term}
use Rattle.hp_syntax.specs.Views.{atom_of}
use Rattle.hp_eval.specs.Growth.{Grows}
use Rattle.hp_suspended.specs.SceneViews.{setting_of}
use Rattle.hp_suspended.specs.SimpleAtoms.{TurnsPassing}
use Rattle.hp_suspended.proofs.simple.next_match.Given as goal

abbrev pub invariant-loop-from : goal.invariant-loop-from
invariant-loop-from l = record {
  slots : l.slots ≡ l.fn.slots;
  left : (terms : List Term) → Grows l.cells terms
      → TurnsPassing None (setting_of l.scene terms) (atom_of l.atom) l.filter l.fn.from l.from l.fn.slots l.fn.slots;
}

abbrev pub decreases-loop-from : goal.decreases-loop-from
decreases-loop-from l = length l.scene.world.now.places - l.from
