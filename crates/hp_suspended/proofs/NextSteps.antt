-- A call for the next event: what is suspended is begun, goes on by a step, and settles.
use Rattle.std.proofs.Common.{◌≡◌, ◌≤◌, List, length, ap, sym, ◌∙◌, subst, arith}
use Rattle.hp_syntax.specs.Terms.{Term}
use Rattle.hp_eval.specs.declared.event.Event.{Event}
use Rattle.hp_eval.specs.declared.event.Event.TheVariants as events
use Rattle.hp_eval.specs.Slotted.{Slotted, undone}
use Rattle.hp_suspended.specs.declared.scene.Scene.{Scene}
use Rattle.hp_suspended.specs.Answering.{EndsAt, GoesOn, Keeps, Moves}
use Rattle.hp_suspended.specs.Beginning.{IsBegunAs}
use Rattle.hp_suspended.specs.Branching.{Settles}
use Rattle.hp_suspended.specs.Fitting.{Fits, base_of}
use Rattle.hp_suspended.specs.SceneViews.{code_in}
use Rattle.hp_suspended.specs.Views.{One, View}
use Rattle.hp_suspended.proofs.CallLemmas.{moved_above, moves_on, moves_then_undone}
use Rattle.hp_suspended.proofs.Fitted.{rises}
use Rattle.hp_suspended.proofs.OneSteps.{length-undone}

module _ (s : Scene) (c0 c1 c2 : List Term) (e e1 e2 e3 : Slotted) (v v1 v2 v3 : View)
    (fits : Fits (code_in s) (length c0) (length e.trail) v) (begun : IsBegunAs s c1 e e1 v v1)
    (first : Moves (base_of v) c0 c1 e e1) (second : Moves (base_of v1) c1 c2 e1 e2) where
  -- the start isn't above the bindings before
  from : base_of v ≤ length e.trail
  from = rises (code_in s) (length c0) (length e.trail) v fits

  -- nor above those of the beginning
  from_begun : base_of v1 ≤ length e1.trail
  from_begun = rises (code_in s) (length c1) (length e1.trail) v1 begun.fits

  -- both move bindings above the start
  pub both_move : Moves (base_of v) c0 c2 e e2
  both_move = moves_on (base_of v) c0 c1 c2 e e1 e2 from first (subst (λ m. Moves m c1 c2 e1 e2) begun.start second)

  module _ (same : base_of v2 ≡ base_of v1) where
    -- the start isn't above the bindings behind the step
    pub start_within : base_of v2 ≤ length e2.trail
    start_within = let l = moved_above (base_of v1) c1 c2 e1 e2 from_begun second in omega arith

    -- the start is that before
    start_same : base_of v2 ≡ base_of v
    start_same = same ∙ begun.start

    -- behind a fault and at the end nothing is bound above the start
    undone_ends : e3 ≡ undone (base_of v2) e2 → length e3.trail ≡ base_of v
    undone_ends u = ap (λ (t : Slotted). length t.trail) u ∙ length-undone (base_of v2) e2 start_within ∙ start_same

    pub settled_ends : (x : Event) → Settles x v2 v3 e2 e3 → EndsAt x (base_of v) e3
    settled_ends events.Sat h = tt
    settled_ends events.Cut h = tt
    settled_ends (events.Fault f) h = undone_ends h.1
    settled_ends events.End h = undone_ends h.1

    -- what settles moves bindings above the start
    undone_moves : e3 ≡ undone (base_of v2) e2 → Moves (base_of v) c0 c2 e e3
    undone_moves u =
        subst (Moves (base_of v) c0 c2 e) (sym (u ∙ ap (λ m. undone m e2) start_same))
        (moves_then_undone (base_of v) c0 c2 e e2 from both_move)

    pub settled_moves : (x : Event) → Settles x v2 v3 e2 e3 → Moves (base_of v) c0 c2 e e3
    settled_moves events.Sat h = subst (Moves (base_of v) c0 c2 e) (sym h.1) both_move
    settled_moves events.Cut h = subst (Moves (base_of v) c0 c2 e) (sym h.1) both_move
    settled_moves (events.Fault f) h = undone_moves h.1
    settled_moves events.End h = undone_moves h.1

    -- and keeps what is suspended
    goes_keeps : Keeps (code_in s) (length c2) e2 v1 v2 → (v3 ≡ v2) × (e3 ≡ e2) → Keeps (code_in s) (length c2) e3 v v3
    goes_keeps k h = rw (h.0, h.1) (record {
      start = start_same;
      fits = k.fits;
      lighter = let l = k.lighter in let b = begun.lighter in omega arith;
    })

    ended_keeps : v3 ≡ One (base_of v2) events.End → e3 ≡ undone (base_of v2) e2
        → Keeps (code_in s) (length c2) e3 v v3
    ended_keeps h u =
        let q = undone_ends u in
        let z = start_same in
        rw h (record { start = start_same; fits = omega arith; lighter = omega arith })

    pub settled_keeps : (x : Event) → GoesOn x (Keeps (code_in s) (length c2) e2 v1 v2) → Settles x v2 v3 e2 e3
        → Keeps (code_in s) (length c2) e3 v v3
    settled_keeps events.Sat k h = goes_keeps k h
    settled_keeps events.Cut k h = goes_keeps k h
    settled_keeps (events.Fault f) k h = ended_keeps h.0 h.1
    settled_keeps events.End k h = ended_keeps h.0 h.1
