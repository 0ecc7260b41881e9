-- One event that is left, an expression that wasn't looked at, and what is left behind an end.
use Rattle.std.proofs.Common.{◌≡◌, ℕ, ◌≤◌, List, [], length, length-take, refl, ap, sym, ◌∙◌, arith}
use Rattle.hp_syntax.specs.Terms.{Term}
use Rattle.hp_eval.specs.declared.event.Event.{Event}
use Rattle.hp_eval.specs.declared.event.Event.TheVariants as events
use Rattle.hp_eval.specs.Slotted.{Slotted, AreBelow, undone, bindings_of}
use Rattle.hp_eval.specs.SlotLaws.{undone_whole}
use Rattle.hp_suspended.specs.declared.scene.Scene.{Scene}
use Rattle.hp_suspended.specs.declared.suspended.Suspended.{Suspended}
use Rattle.hp_suspended.specs.declared.suspended.Suspended.TheVariants as variants
use Rattle.hp_suspended.specs.Answering.{Gives, GivesOver, GoesOn, Keeps, Moves}
use Rattle.hp_suspended.specs.Fitting.{Fits, base_of}
use Rattle.hp_suspended.specs.Left.{left, one_event}
use Rattle.hp_suspended.specs.SceneViews.{code_in, setting_of}
use Rattle.hp_suspended.specs.Settings.{Setting}
use Rattle.hp_suspended.specs.Views.{One, view}
use Rattle.hp_suspended.proofs.CallLemmas.{moves_undone}
use Rattle.hp_suspended.proofs.GoingOn.{goes_on}
use Rattle.hp_suspended.proofs.Shapes.{view_one}

-- as many bindings are left as are undone to
pub length-undone : (m : ℕ) (e : Slotted) → m ≤ length e.trail → length (undone m e).trail ≡ m
length-undone m e h = let q = length-take m e.trail in omega arith

-- what was undone to a mark is undone to it
undone_again : (m : ℕ) (e : Slotted) → m ≤ length e.trail → undone m (undone m e) ≡ undone m e
undone_again m e h = undone_whole m (undone m e) (length-undone m e h)

-- ---- one event

-- an event is given, and the end is left
one_given : (w : Setting) (x : Event) (e : Slotted) → Gives x (bindings_of w.terms e)
    (one_event x (bindings_of w.terms e)) []
one_given w events.Sat e = refl
one_given w events.Cut e = refl
one_given w (events.Fault f) e = ([], refl)
one_given w events.End e = refl

module _ (self : Suspended) (m : ℕ) (x : Event) (is : self ≡ variants.One m x) (mr : ℕ) (mi : mr ≡ m) (xr : Event)
    (xi : xr ≡ x) where
  -- one event as it was
  pub one_was : view self ≡ One mr xr
  one_was = ap view is ∙ view_one m x ∙ rw (mi, xi) refl

  module _ (s : Scene) (cells : List Term) (old : Slotted)
      (fits : Fits (code_in s) (length cells) (length old.trail) (view self)) where
    -- the mark isn't above the bindings
    pub one_within : mr ≤ length old.trail
    one_within = rw one_was at fits

    module _ (new : Slotted) (u : new ≡ undone mr old) (left_is : Event) (ends : left_is ≡ events.End) where
      -- it is given
      pub one_gives : (given : Event) → given ≡ xr → GivesOver s cells new given (λ w. left w old (view self))
          (λ w. left w new (view (variants.One mr left_is)))
      one_gives given g = λ terms grown.
          rw (one_was, view_one mr left_is, ends, g, u) (one_given (setting_of s terms) xr (undone mr old))

      -- it fits
      pub one_keeps : (given : Event)
          → GoesOn given (Keeps (code_in s) (length cells) new (view self) (view (variants.One mr left_is)))
      one_keeps given =
          let l = one_within in
          let q : length new.trail ≡ mr = ap (λ (t : Slotted). length t.trail) u ∙ length-undone mr old l in
          goes_on given _
          (rw (one_was, view_one mr left_is) (record { start = refl; fits = omega arith; lighter = omega arith }))

      -- it has the same start
      pub one_start : base_of (view (variants.One mr left_is)) ≡ base_of (view self)
      one_start = ap base_of (view_one mr left_is) ∙ sym (ap base_of one_was)

      -- it moves bindings above its start
      pub one_moves : AreBelow (length cells) old → Moves (base_of (view self)) cells cells old new
      one_moves b = rw (one_was, u) (moves_undone mr cells old b)
