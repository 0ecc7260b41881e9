-- The kept walk from a visit on, and the decompositions there whose steps begin the plan.
use Rattle.std.proofs.Common.{◌≡◌, true, false, ◌&&◌, cond, List, [], ◌∷◌, ap, ap₂, ◌∙◌}
use Rattle.hp_following.specs.Follows.{begun}
use Rattle.hp_passes.proofs.PassLemmas.{skipped}
use Rattle.hp_passes.specs.Passes.{On, Past, Last, Passed}
use Rattle.hp_syntax.specs.declared.fault.RunFault.{RunFault}
use Rattle.hp_syntax.specs.Terms.{Term}
use Rattle.hp_syntax.specs.Walk.{Visit, Did, Plan, CutHere, FaultHere, is_did, skip}
use Rattle.hp_verify.proofs.VisitSteps.{made_by, turn_cut, turn_did, turn_fault, turn_plan}
use Rattle.hp_verify.specs.Kept.{Nothing, kept, kept_turn, nothing, steps_are, steps_begin}

module _ (p : List Term) (v : Visit) where
  -- a decomposition whose steps begin the plan is one of them
  pub begun_yes : (ws : List Visit) → v.sight ≡ Did → steps_begin v.node.steps p ≡ true
      → begun p (v ∷ ws) ≡ v ∷ begun p ws
  begun_yes ws e h = ap (λ b. cond b (v ∷ begun p ws) (begun p ws)) (ap₂ ◌&&◌ (ap is_did e) h)

  pub begun_no : (ws : List Visit) → v.sight ≡ Did → steps_begin v.node.steps p ≡ false
      → begun p (v ∷ ws) ≡ begun p ws
  begun_no ws e h = ap (λ b. cond b (v ∷ begun p ws) (begun p ws)) (ap₂ ◌&&◌ (ap is_did e) h)

  -- another visit is none
  pub begun_other : (ws : List Visit) → is_did v.sight ≡ false → begun p (v ∷ ws) ≡ begun p ws
  begun_other ws e = ap (λ b. cond (b && steps_begin v.node.steps p) (v ∷ begun p ws) (begun p ws)) e

  -- those of the kept walk from a visit on
  module _ (vs : List Visit) where
    pub left_yes : v.sight ≡ Did → steps_begin v.node.steps p ≡ true
        → begun p (kept p (v ∷ vs)) ≡ v ∷ begun p (kept p vs)
    left_yes e h =
        ap (begun p)
        (made_by p v vs (On nothing) (turn_did p v e ∙ ap (λ b. cond b (On nothing) (Past nothing)) h))
        ∙ begun_yes (kept p vs) e h

    pub left_no : v.sight ≡ Did → steps_begin v.node.steps p ≡ false
        → begun p (kept p (v ∷ vs)) ≡ begun p (kept p (skip v.path vs))
    left_no e h =
        ap (begun p)
        (made_by p v vs (Past nothing) (turn_did p v e ∙ ap (λ b. cond b (On nothing) (Past nothing)) h)
        ∙ ap (λ (q : Passed Nothing). v ∷ q.made) (skipped (kept_turn p) v.path nothing vs))
        ∙ begun_no (kept p (skip v.path vs)) e h

    pub left_plan : v.sight ≡ Plan → steps_are v.node.steps p ≡ false
        → begun p (kept p (v ∷ vs)) ≡ begun p (kept p vs)
    left_plan e h =
        ap (begun p)
        (made_by p v vs (On nothing) (turn_plan p v e ∙ ap (λ b. cond b (Last nothing) (On nothing)) h))
        ∙ begun_other (kept p vs) (ap is_did e)

    pub left_cut : v.sight ≡ CutHere → begun p (kept p (v ∷ vs)) ≡ begun p (kept p vs)
    left_cut e =
        ap (begun p) (made_by p v vs (On nothing) (turn_cut p v e)) ∙ begun_other (kept p vs) (ap is_did e)

    pub left_fault : (f : RunFault) → v.sight ≡ FaultHere f → begun p (kept p (v ∷ vs)) ≡ []
    left_fault f e =
        ap (begun p) (made_by p v vs (Last nothing) (turn_fault p v f e)) ∙ begun_other [] (ap is_did e)

    pub left_derived : v.sight ≡ Plan → steps_are v.node.steps p ≡ true → begun p (kept p (v ∷ vs)) ≡ []
    left_derived e h =
        ap (begun p)
        (made_by p v vs (Last nothing) (turn_plan p v e ∙ ap (λ b. cond b (Last nothing) (On nothing)) h))
        ∙ begun_other [] (ap is_did e)
