-- What one visit is to a kept walk and to its answer, by its sight.
use Rattle.std.proofs.Common.{◌≡◌, cond, List, ◌∷◌, Some, None, refl, ap}
use Rattle.hp_passes.specs.Passes.{Turn, On, Past, Last, Passed, pass, passed_all}
use Rattle.hp_syntax.specs.declared.fault.RunFault.{RunFault}
use Rattle.hp_syntax.specs.Terms.{Term}
use Rattle.hp_syntax.specs.Walk.{Sight, Visit, Did, Plan, CutHere, FaultHere}
use Rattle.hp_verify.specs.Kept.{DerivedAt, Faulty, Nothing, Seen, Told, kept_turn, nothing, steps_are, steps_begin, told, told_of, with_cut, with_did}

-- the turn at a visit
module _ (p : List Term) (v : Visit) where
  pub turn_did : v.sight ≡ Did → kept_turn p nothing v ≡ cond (steps_begin v.node.steps p) (On nothing) (Past nothing)
  turn_did e = rw e refl

  pub turn_plan : v.sight ≡ Plan → kept_turn p nothing v ≡ cond (steps_are v.node.steps p) (Last nothing) (On nothing)
  turn_plan e = rw e refl

  pub turn_cut : v.sight ≡ CutHere → kept_turn p nothing v ≡ On nothing
  turn_cut e = rw e refl

  pub turn_fault : (f : RunFault) → v.sight ≡ FaultHere f → kept_turn p nothing v ≡ Last nothing
  turn_fault f e = rw e refl

-- the pass behind a visit, by its turn
abbrev pub behind : List Term → Visit → List Visit → Turn Nothing → Passed Nothing
behind p v vs x =
    elim x [
      | On s ↦ pass (kept_turn p) None s vs
      | Past s ↦ pass (kept_turn p) (Some v.path) s vs
      | Last s ↦ passed_all s vs
    ]

-- the visits that are made from a visit on
pub made_by : (p : List Term) (v : Visit) (vs : List Visit) (x : Turn Nothing) → kept_turn p nothing v ≡ x
    → (pass (kept_turn p) None nothing (v ∷ vs)).made ≡ v ∷ (behind p v vs x).made
made_by p v vs x e = ap (λ y. v ∷ (behind p v vs y).made) e

-- what is said from a visit on, by a sight
abbrev told_at : List Term → Seen → Visit → List Visit → Sight → Told
told_at p s v vs x =
    elim x [
      | Did ↦ told_of p (with_did s) vs
      | Plan ↦ cond (steps_are v.node.steps p) (told (DerivedAt v) s.expansions) (told_of p s vs)
      | CutHere ↦ told_of p (with_cut s) vs
      | FaultHere f ↦ told (Faulty f) s.expansions
    ]

-- so it is told by the visit's own sight
module _ (p : List Term) (s : Seen) (v : Visit) (vs : List Visit) where
  pub told_did : v.sight ≡ Did → told_of p s (v ∷ vs) ≡ told_of p (with_did s) vs
  told_did e = ap (told_at p s v vs) e

  pub told_plan : v.sight ≡ Plan
      → told_of p s (v ∷ vs)
      ≡ cond (steps_are v.node.steps p) (told (DerivedAt v) s.expansions) (told_of p s vs)
  told_plan e = ap (told_at p s v vs) e

  pub told_cut : v.sight ≡ CutHere → told_of p s (v ∷ vs) ≡ told_of p (with_cut s) vs
  told_cut e = ap (told_at p s v vs) e

  pub told_fault : (f : RunFault) → v.sight ≡ FaultHere f
      → told_of p s (v ∷ vs) ≡ told (Faulty f) s.expansions
  told_fault f e = ap (told_at p s v vs) e
