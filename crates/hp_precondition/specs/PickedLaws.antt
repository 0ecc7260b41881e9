-- Laws of the satisfiers that a precondition takes.
use Rattle.std.specs.Prelude.{◌≡◌, ◌≤◌, List, length, take}
use Rattle.std.specs.List.{All}
use Rattle.hp_syntax.specs.Terms.{Term}
use Rattle.hp_syntax.specs.Events.{EventExtends}
use Rattle.hp_syntax.specs.Views.{key_of}
use Rattle.hp_eval.specs.Slotted.{Slotted, AreBelow, bindings_of, undone}
use Rattle.hp_gen.specs.GenLaws.{FitsSlots, Suits, rest_of, fits_hold_of, same_base_of, same_cells_of, sats_extend_of}
use Rattle.hp_pick.specs.SortedLaws.{either_hold, either_suits, either_same, either_extend}
use Rattle.hp_pick.specs.UpToSat.{first_same, first_extend}
use Rattle.hp_precondition.specs.OnceLaws.{once_same, once_extends}
use Rattle.hp_precondition.specs.declared.picked.Picked.{Picked}
use Rattle.hp_precondition.specs.declared.picked.Picked.TheVariants as picks
use Rattle.hp_precondition.specs.Picks.{picked_rest, PickedSuits, PickedFits, picked_start, picked_kept}
use Rattle.hp_suspended.specs.declared.scene.Scene.{Scene}

-- the slots hold the bindings of the start, and their cells are below the kept number
pub picked_hold : (s : Picked) (e : Slotted) → PickedFits s e
    → (picked_start s ≤ length e.trail) × AreBelow (picked_kept s) e
picked_hold (picks.All g) e h = fits_hold_of g.value e h
picked_hold (picks.First f) e h = fits_hold_of f.value.inner e h
picked_hold (picks.Sorted x) e h =
    either_hold (FitsSlots x.value.inner e) x.value.inner.mark x.value.mark x.value.inner.kept x.value.heard e
    (fits_hold_of x.value.inner e) h
picked_hold (picks.Once o) e h = h

-- a scene suits over any cells that agree below the kept number
pub picked_same_base : (s : Picked) (b : Scene) (c d : List Term) → PickedSuits s b c
    → take (picked_kept s) c ≡ take (picked_kept s) d → PickedSuits s b d
picked_same_base (picks.All g) b c d u k = same_base_of g.value b c d u k
picked_same_base (picks.First f) b c d u k = same_base_of f.value.inner b c d u k
picked_same_base (picks.Sorted x) b c d u k =
    either_suits (Suits x.value.inner b c) (Suits x.value.inner b d) x.value.inner.kept x.value.heard c d
    (same_base_of x.value.inner b c d) u k
picked_same_base (picks.Once o) b c d u k = tt

-- the events that are left are the same over any cells that agree below the kept number
pub picked_same_cells : (s : Picked) (b : Scene) (c d : List Term) (e : Slotted) → PickedSuits s b c → PickedFits s e
    → take (picked_kept s) c ≡ take (picked_kept s) d → picked_rest s b c e ≡ picked_rest s b d e
picked_same_cells (picks.All g) b c d e u h k = same_cells_of g.value b c d e u h k
picked_same_cells (picks.First f) b c d e u h k = first_same f.value.ended (same_cells_of f.value.inner b c d e u h k)
picked_same_cells (picks.Sorted x) b c d e u h k =
    either_same (key_of x.value.key) (Suits x.value.inner b c) (FitsSlots x.value.inner e) x.value.inner.mark
    x.value.mark x.value.inner.kept x.value.heard e c d
    (rest_of x.value.inner b c e) (rest_of x.value.inner b d e) (same_cells_of x.value.inner b c d e) u h k
picked_same_cells (picks.Once o) b c d e u h k = once_same o c d e h k

-- each Sat that is left extends the bindings of the start
pub picked_extend : (s : Picked) (b : Scene) (c : List Term) (e : Slotted) → PickedSuits s b c → PickedFits s e
    → All (EventExtends (bindings_of c (undone (picked_start s) e))) (picked_rest s b c e)
picked_extend (picks.All g) b c e u h = sats_extend_of g.value b c e u h
picked_extend (picks.First f) b c e u h =
    first_extend (EventExtends (bindings_of c (undone f.value.inner.mark e))) f.value.ended
    (rest_of f.value.inner b c e)
    (sats_extend_of f.value.inner b c e u h)
picked_extend (picks.Sorted x) b c e u h =
    either_extend (key_of x.value.key) (Suits x.value.inner b c) (FitsSlots x.value.inner e) x.value.inner.mark
    x.value.mark x.value.heard e c
    (rest_of x.value.inner b c e) (sats_extend_of x.value.inner b c e) u h
picked_extend (picks.Once o) b c e u h = once_extends o c e
