-- One turn of a disjunction.
use Rattle.std.proofs.Common.{◌≡◌, ℕ, ◌-◌, ◌<◌, List, ◌++◌, length, slice_get, Some, arith, refl, ap, ap₂, sym, ◌∙◌, subst}
use Rattle.hp_syntax.specs.Terms.{Term}
use Rattle.hp_code.specs.CodeViews.{CodeView, IsCode}
use Rattle.hp_nodes.specs.Trees.{Laid}
use Rattle.hp_eval.specs.declared.event.Event.{Event}
use Rattle.hp_eval.specs.declared.event.Event.TheVariants as events
use Rattle.hp_eval.specs.Growth.{Grows}
use Rattle.hp_eval.specs.Slotted.{Slotted, bindings_of}
use Rattle.hp_suspended.specs.declared.scene.Scene.{Scene}
use Rattle.hp_suspended.specs.Answering.{Gives, GivesOver, GoesOnOver, Keeps, Moves, SameOver}
use Rattle.hp_suspended.specs.Fitting.{Fits, base_of}
use Rattle.hp_suspended.specs.Left.{left, stood}
use Rattle.hp_suspended.specs.SceneViews.{code_in, setting_of}
use Rattle.hp_suspended.specs.Settings.{Setting, any_between}
use Rattle.hp_suspended.specs.Views.{View, Disj, Fresh}
use Rattle.hp_suspended.proofs.CallLemmas.{moved_same}
use Rattle.hp_suspended.proofs.ConjTurns.{same_goes_on}
use Rattle.hp_suspended.proofs.Fitted.{rises}
use Rattle.hp_suspended.proofs.NodeRanges.{node_in}
use Rattle.hp_suspended.proofs.RangeLemmas.{any_ended, first_expression}

-- what was left of a disjunction is so behind a turn that leaves the same
pub disj_goes_on : (s : Scene) (old new : List Term) (m n end : ℕ) (d e f : Slotted) (k k' l : ℕ)
    (here here' next : View) → Grows old new
    → SameOver s old (λ w. left w d (Disj m n k end here)) (λ w. left w e (Disj m n k' end here'))
    → GoesOnOver s new (λ w. left w e (Disj m n k' end here')) (λ w. left w f (Disj m n l end next))
    (λ w. end - k') (λ w. end - l)
    → SameOver s new (λ w. left w d (Disj m n k end here)) (λ w. left w f (Disj m n l end next))
disj_goes_on s old new m n end d e f k k' l here here' next =
    same_goes_on s old new (λ w. left w d (Disj m n k end here)) (λ w. left w e (Disj m n k' end here'))
    (λ w. left w f (Disj m n l end next)) (λ w. end - k') (λ w. end - l)

-- what is kept twice is kept
pub keeps_on : (c : CodeView) (d cells : ℕ) (e f : Slotted) (u v w : View) → Keeps c d e u v → Keeps c cells f v w
    → Keeps c cells f u w
keeps_on c d cells e f u v w before after = record {
  start = after.start ∙ before.start;
  fits = after.fits;
  lighter = let x = before.lighter in let y = after.lighter in omega arith;
}

module _ (s : Scene) (m n k end : ℕ) (here : View) (old new : List Term) (e f : Slotted)
    (fits : Fits (code_in s) (length old) (length e.trail) (Disj m n k end here))
    (moves : Moves (base_of here) old new e f) where
  -- a call above the start of the running part is one above the start of all
  pub disj_moves : Moves m old new e f
  disj_moves = subst (λ j. Moves j old new e f) fits.1 moves

  -- the bindings of the start are the same
  start_same : (w : Setting) → stood w f m ≡ stood w e m
  start_same w =
      ap (bindings_of w.terms)
      (moved_same m old new e f (rises (code_in s) (length old) (length e.trail) (Disj m n k end here) fits) disj_moves)

  module _ (here' : View) where
    -- behind an event of the running part the other parts stand as before
    gives_before : (x : Event) (terms : List Term) → (x ≡ events.End → ⊥)
        → Gives x (bindings_of terms f) (left (setting_of s terms) e here) (left (setting_of s terms) f here')
        → Gives x (bindings_of terms f) (left (setting_of s terms) e (Disj m n k end here))
        (left (setting_of s terms) f (Disj m n k end here'))
    gives_before events.Sat terms more g =
        let w = setting_of s terms in
        ap₂ (λ xs b. xs ++ any_between w n k end b) g (sym (start_same w))
    gives_before events.Cut terms more g =
        let w = setting_of s terms in
        ap₂ (λ xs b. xs ++ any_between w n k end b) g (sym (start_same w))
    gives_before (events.Fault x) terms more g =
        let w = setting_of s terms in
        (g.0 ++ any_between w n k end (stood w e m), ap (λ xs. xs ++ any_between w n k end (stood w e m)) g.1)
    gives_before events.End terms more g = absurd (more refl)

    -- an event of the running part is one of the disjunction
    pub part_gives : (x : Event) → (x ≡ events.End → ⊥)
        → GivesOver s new f x (λ w. left w e here) (λ w. left w f here')
        → GivesOver s new f x (λ w. left w e (Disj m n k end here)) (λ w. left w f (Disj m n k end here'))
    part_gives x more given terms g = gives_before x terms more (given terms g)

    -- where the running part stays suspended, the disjunction fits as before
    pub part_keeps : Keeps (code_in s) (length new) f here here'
        → Keeps (code_in s) (length new) f (Disj m n k end here) (Disj m n k end here')
    part_keeps kept = record {
      start = refl;
      fits = (fits.0, kept.start ∙ fits.1, kept.fits);
      lighter = let l = kept.lighter in omega arith;
    }

    module _ (code : IsCode (code_in s))
        (given : GivesOver s new f events.End (λ w. left w e here) (λ w. left w f here')) where
      -- the end of the last part is that of the disjunction
      pub last_gives : k ≡ end
          → GivesOver s new f events.End (λ w. left w e (Disj m n k end here)) (λ w. left w f (Disj m n k end here'))
      last_gives last terms g =
          let w = setting_of s terms in
          ap₂ ◌++◌ (given terms g) (any_ended w n k end code fits.0 (omega arith) (stood w e m))

      -- behind the end of a part what is left is that of the next one, and of those behind it
      next_left : (l : Laid) → slice_get (code_in s).nodes k ≡ Some l → k < end → (terms : List Term)
          → Grows new terms
          → left (setting_of s terms) f (Disj m n l.to end (Fresh m n k))
          ≡ left (setting_of s terms) e (Disj m n k end here)
      next_left l there less terms g =
          let w = setting_of s terms in
          sym ((first_expression w n k end code fits.0 less l there).any (stood w f m))
          ∙ ap (any_between w n k end) (start_same w)
          ∙ sym (ap (λ xs. xs ++ any_between w n k end (stood w e m)) (given terms g))

      -- a turn that looks at the next part leaves the same list, and fewer turns
      pub next_same : k < end → (k' : ℕ) (v : View)
          → ((l : Laid) → slice_get (code_in s).nodes k ≡ Some l → k' ≡ l.to) → v ≡ Fresh m n k
          → GoesOnOver s new (λ w. left w e (Disj m n k end here)) (λ w. left w f (Disj m n k' end v))
          (λ w. end - k) (λ w. end - k')
      next_same less k' v next is terms g =
          let at' = node_in (code_in s).nodes k end fits.0.within less in
          let first = first_expression (setting_of s terms) n k end code fits.0 less at'.0 at'.1 in
          let more = first.more in
          rw (next at'.0 at'.1, is) (next_left at'.0 at'.1 less terms g, omega arith)

    -- the next part fits, and weighs no more
    next_keeps_at : IsCode (code_in s) → length f.trail ≡ base_of here → k < end → (l : Laid)
        → slice_get (code_in s).nodes k ≡ Some l
        → Keeps (code_in s) (length new) f (Disj m n k end here) (Disj m n l.to end (Fresh m n k))
    next_keeps_at code ended less l there =
        let first = first_expression (setting_of s new) n k end code fits.0 less l there in
        let more = first.more in
        record {
          start = refl;
          fits = (first.others, refl, (ended ∙ fits.1, first.first));
          lighter = omega arith;
        }

    -- so it does at the values that the code holds
    pub next_keeps : IsCode (code_in s) → length f.trail ≡ base_of here → k < end → (k' : ℕ) (v : View)
        → ((l : Laid) → slice_get (code_in s).nodes k ≡ Some l → k' ≡ l.to) → v ≡ Fresh m n k
        → Keeps (code_in s) (length new) f (Disj m n k end here) (Disj m n k' end v)
    next_keeps code ended less k' v next is =
        let at' = node_in (code_in s).nodes k end fits.0.within less in
        rw (next at'.0 at'.1, is) (next_keeps_at code ended less at'.0 at'.1)
