-- What is left of the satisfiers that a precondition takes, and which scenes and slots they go on with.
use Rattle.std.specs.Prelude.{ℕ, Bool, true, cond, List, []}
use Rattle.hp_syntax.specs.Terms.{Term}
use Rattle.hp_syntax.specs.Events.{Event}
use Rattle.hp_syntax.specs.Preconditions.{up_to_sat}
use Rattle.hp_syntax.specs.Views.{key_of}
use Rattle.hp_eval.specs.Slotted.{Slotted}
use Rattle.hp_gen.specs.GenLaws.{FitsSlots, Suits, rest_of}
use Rattle.hp_pick.specs.Heard.{rest_in_order, SuitsEither, FitsEither, kept_of, live_of, open_of}
use Rattle.hp_precondition.specs.OnceLaws.{FitsOnce, once_rest}
use Rattle.hp_precondition.specs.declared.picked.Picked.{Picked}
use Rattle.hp_precondition.specs.declared.picked.Picked.TheVariants as picks
use Rattle.hp_suspended.specs.declared.scene.Scene.{Scene}

-- the events that are left
abbrev pub picked_rest : Picked → Scene → List Term → Slotted → List Event
picked_rest (picks.All g) s terms e = rest_of g.value s terms e
picked_rest (picks.First f) s terms e = cond f.value.ended [] (up_to_sat (rest_of f.value.inner s terms e))
picked_rest (picks.Sorted x) s terms e =
    rest_in_order (key_of x.value.key) (rest_of x.value.inner s terms e) terms x.value.heard
picked_rest (picks.Once o) s terms e = once_rest o terms e

-- the scene is one that they go on with
abbrev pub PickedSuits : Picked → Scene → List Term → Type 0
PickedSuits (picks.All g) s terms = Suits g.value s terms
PickedSuits (picks.First f) s terms = Suits f.value.inner s terms
PickedSuits (picks.Sorted x) s terms = SuitsEither (Suits x.value.inner s terms) x.value.heard
PickedSuits (picks.Once o) s terms = Unit {0}

-- the slots are as the last call left them
abbrev pub PickedFits : Picked → Slotted → Type 0
PickedFits (picks.All g) e = FitsSlots g.value e
PickedFits (picks.First f) e = FitsSlots f.value.inner e
PickedFits (picks.Sorted x) e = FitsEither (FitsSlots x.value.inner e) x.value.inner.mark x.value.mark x.value.heard e
PickedFits (picks.Once o) e = FitsOnce o e

-- the number of bindings that stood at the start
abbrev pub picked_start : Picked → ℕ
picked_start (picks.All g) = g.value.mark
picked_start (picks.First f) = f.value.inner.mark
picked_start (picks.Sorted x) = x.value.mark
picked_start (picks.Once o) = o.mark

-- the number of cells that the events speak of
abbrev pub picked_kept : Picked → ℕ
picked_kept (picks.All g) = g.value.kept
picked_kept (picks.First f) = f.value.inner.kept
picked_kept (picks.Sorted x) = kept_of x.value.inner.kept x.value.heard
picked_kept (picks.Once o) = o.kept

-- no call has failed
abbrev pub picked_live : Picked → Bool
picked_live (picks.All g) = g.value.is_live
picked_live (picks.First f) = f.value.inner.is_live
picked_live (picks.Sorted x) = live_of x.value.inner.is_live x.value.heard
picked_live (picks.Once o) = true

-- they aren't closed
abbrev pub picked_open : Picked → Bool
picked_open (picks.All g) = g.value.is_open
picked_open (picks.First f) = f.value.inner.is_open
picked_open (picks.Sorted x) = open_of x.value.inner.is_open x.value.heard
picked_open (picks.Once o) = o.is_open
