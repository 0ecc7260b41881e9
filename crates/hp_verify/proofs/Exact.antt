-- Without a fault a kept walk derives a plan exactly where the visits hold it.
use Rattle.std.proofs.Common.{◌≡◌, ℕ, Bool, true, false, cond, List, [], ◌∷◌, Option, Some, None, refl, sym, ◌∙◌, subst, ⊎_elim}
use Rattle.std.specs.List.{All}
use Rattle.std.specs.Prelude.{◌↔◌, Contains}
use Rattle.std.proofs.lemmas.Bool.{false≢true}
use Rattle.std.proofs.lemmas.List.Elements.{All-head, All-tail, All-weaker}
use Rattle.hp_laws.proofs.JoinLemmas.{all_from, contains_cases, contains_first, contains_later, contains_none, pairs_head, pairs_tail}
use Rattle.hp_laws.specs.TreeLaws.{IsFaultless, IsPrefix}
use Rattle.hp_passes.specs.Passes.{pass, is_out, with_made}
use Rattle.hp_syntax.specs.Terms.{Term}
use Rattle.hp_syntax.specs.Walk.{Sight, Visit, Did, Plan, CutHere, FaultHere, begins, is_fault_here}
use Rattle.hp_verify.specs.Kept.{HasPlan, IsDerived, Seen, StepsGrow, Told, answer_of, kept_turn, nothing, nothing_seen, steps_are, steps_begin, told_kept, told_of, with_cut, with_did}
use Rattle.hp_verify.proofs.KeptSteps.{did_made, left, left_cut, left_derived, left_plan}
use Rattle.hp_verify.proofs.StepLemmas.{are_sound, equal_are, never_quiet, prefix_begins}
use Rattle.hp_verify.proofs.VisitSteps.{behind}

module _ (p : List Term) where
  -- a visit is the plan that is looked for
  abbrev IsIt : Visit → Type 0
  IsIt v = (v.sight ≡ Plan) × (v.node.steps ≡ p)

  -- what is said derives the plan exactly where the visits hold it
  abbrev IsExact : Told → List Visit → Type 0
  IsExact t vs = IsDerived (answer_of t.said) ↔ HasPlan p vs

  -- one more visit, which isn't the plan, changes nothing
  one_more : (t : Told) (v : Visit) (vs : List Visit) → (IsIt v → ⊥) → IsExact t vs → IsExact t (v ∷ vs)
  one_more t v vs other (f, g) = (
    λ d. let h = f d in (h.0, contains_later v h.0 vs h.1, h.2, h.3),
    λ h. g (later h.0 h.1 (h.2, h.3)),
  )
    where
      later : (w : Visit) → Contains (v ∷ vs) w → IsIt w → HasPlan p vs
      later w c it =
          ⊎_elim (λ same. absurd (other (subst IsIt (sym same) it))) (λ k. (w, k, it.0, it.1))
          (contains_cases v w vs c)

  -- a visit that is left out isn't the plan
  abbrev IsOther : Option (List ℕ) → Visit → Type 0
  IsOther out v = is_out out v ≡ true → IsIt v → ⊥

  none_out : (vs : List Visit) → All (IsOther None) vs
  none_out vs = all_from (IsOther None) (λ v e it. false≢true e) vs

  -- nothing at or below a visit whose steps don't begin the plan is it
  others_out : (v : Visit) (vs : List Visit) → StepsGrow (v ∷ vs) → steps_begin v.node.steps p ≡ false
      → All (IsOther (Some v.path)) vs
  others_out v vs grow e =
      All-weaker (λ w. begins v.path w.path ≡ true → IsPrefix v.node.steps w.node.steps) (IsOther (Some v.path))
      (λ w g b it.
      false≢true (sym e ∙ prefix_begins v.node.steps p (subst (IsPrefix v.node.steps) it.1 (g b)))) vs
      (pairs_head (λ v w. begins v.path w.path ≡ true → IsPrefix v.node.steps w.node.steps) v vs grow)

  -- what is said of visits, where those that are left out aren't the plan
  abbrev IsExactBehind : List Visit → Type 0
  IsExactBehind vs =
      (out : Option (List ℕ)) (s : Seen) → All (IsOther out) vs
      → IsExact (told_of p s (pass (kept_turn p) out nothing vs).made) vs

  module _ (v : Visit) (vs : List Visit) (grow : StepsGrow (v ∷ vs)) (rest : IsExactBehind vs) (s : Seen) where
    not_it : (x : Sight) → v.sight ≡ x → (x ≡ Plan → ⊥) → IsIt v → ⊥
    not_it x e never it = never (sym e ∙ it.0)

    exact_did : v.sight ≡ Did → (b : Bool) → steps_begin v.node.steps p ≡ b → IsExact (left p s (v ∷ vs)) (v ∷ vs)
    exact_did e true h =
        subst (λ t. IsExact t (v ∷ vs)) (sym (did_made p s v vs e true h))
        (one_more (left p (with_did s) vs) v vs (not_it Did e (λ k. cc)) (rest None (with_did s) (none_out vs)))
    exact_did e false h =
        subst (λ t. IsExact t (v ∷ vs)) (sym (did_made p s v vs e false h))
        (one_more (told_of p (with_did s) (pass (kept_turn p) (Some v.path) nothing vs).made) v vs
        (not_it Did e (λ k. cc)) (rest (Some v.path) (with_did s) (others_out v vs grow h)))

    exact_plan : v.sight ≡ Plan → (b : Bool) → steps_are v.node.steps p ≡ b → IsExact (left p s (v ∷ vs)) (v ∷ vs)
    exact_plan e true h =
        subst (λ t. IsExact t (v ∷ vs)) (sym (left_derived p s v vs e h))
        (λ d. (v, contains_first v vs, e, are_sound v.node.steps p h), λ k. refl)
    exact_plan e false h =
        subst (λ t. IsExact t (v ∷ vs)) (sym (left_plan p s v vs e h))
        (one_more (left p s vs) v vs (λ it. false≢true (sym h ∙ equal_are v.node.steps p it.1))
        (rest None s (none_out vs)))

    exact_cut : v.sight ≡ CutHere → IsExact (left p s (v ∷ vs)) (v ∷ vs)
    exact_cut e =
        subst (λ t. IsExact t (v ∷ vs)) (sym (left_cut p s v vs e))
        (one_more (left p (with_cut s) vs) v vs (not_it CutHere e (λ k. cc)) (rest None (with_cut s) (none_out vs)))

    exact_at : (x : Sight) → v.sight ≡ x → is_fault_here x ≡ false → IsExact (left p s (v ∷ vs)) (v ∷ vs)
    exact_at Did e h = exact_did e (steps_begin v.node.steps p) refl
    exact_at Plan e h = exact_plan e (steps_are v.node.steps p) refl
    exact_at CutHere e h = exact_cut e
    exact_at (FaultHere f) e h = absurd (false≢true (sym h))

    -- a visit that is made, or is left out
    exact_by : (out : Option (List ℕ)) → IsFaultless v.sight → All (IsOther out) (v ∷ vs)
        → (b : Bool) → is_out out v ≡ b
        → IsExact (told_of p s (cond b (pass (kept_turn p) out nothing vs)
        (with_made v (behind p v vs (kept_turn p nothing v)))).made) (v ∷ vs)
    exact_by out f a true e =
        one_more (told_of p s (pass (kept_turn p) out nothing vs).made) v vs (All-head (IsOther out) v vs a e)
        (rest out s (All-tail (IsOther out) v vs a))
    exact_by out f a false e = exact_at v.sight refl f

  exact_from : (vs : List Visit) → StepsGrow vs → All (λ v. IsFaultless v.sight) vs → IsExactBehind vs
  exact_from [] grow f = λ out s a. (λ d. absurd (never_quiet s.is_cut d), λ h. absurd (contains_none h.0 h.1))
  exact_from (v ∷ vs) grow f = λ out s a.
      exact_by v vs grow
      (exact_from vs
      (pairs_tail (λ v w. begins v.path w.path ≡ true → IsPrefix v.node.steps w.node.steps) v vs grow)
      (All-tail (λ w. IsFaultless w.sight) v vs f))
      s out (All-head (λ w. IsFaultless w.sight) v vs f) a (is_out out v) refl

  -- so the whole kept walk does
  pub kept_exact : (vs : List Visit) → StepsGrow vs → All (λ v. IsFaultless v.sight) vs
      → IsDerived (answer_of (told_kept p vs).said) ↔ HasPlan p vs
  kept_exact vs grow f = exact_from vs grow f None nothing_seen (none_out vs)
