-- What one visit is to a bounded walk, to the choice of a plan and to an ending, by its sight.
use Rattle.std.proofs.Common.{◌≡◌, Bool, true, false, ◌&&◌, cond, ℤ, List, ◌∷◌, Option, Some, None, refl, ap}
use Rattle.hp_passes.specs.Passes.{Turn, On, Past, Last, Passed, pass, passed_all}
use Rattle.hp_syntax.specs.declared.fault.RunFault.{RunFault}
use Rattle.hp_syntax.specs.Report.{Tally, with_plan, with_did, with_cut, ended, AtFault}
use Rattle.hp_syntax.specs.Walk.{Visit, Did, Plan, CutHere, FaultHere, is_plan}
use Rattle.hp_best.specs.Bounded.{reaches, lower, bounded_turn, chosen_of, chosen_from, last_of}

-- the turn at a visit
module _ (priced : Bool) (b : Option ℤ) (v : Visit) where
  pub turn_did : v.sight ≡ Did
      → bounded_turn priced b v ≡ cond (priced && reaches b v.node.cost) (Past b) (On b)
  turn_did e = rw e refl

  pub turn_plan : v.sight ≡ Plan → bounded_turn priced b v ≡ On (lower b v.node.cost)
  turn_plan e = rw e refl

  pub turn_cut : v.sight ≡ CutHere → bounded_turn priced b v ≡ On b
  turn_cut e = rw e refl

  pub turn_fault : (f : RunFault) → v.sight ≡ FaultHere f → bounded_turn priced b v ≡ Last b
  turn_fault f e = rw e refl

-- the pass behind a visit, by its turn
abbrev pub behind : Bool → Visit → List Visit → Turn (Option ℤ) → Passed (Option ℤ)
behind priced v vs x =
    elim x [
      | On t ↦ pass (bounded_turn priced) None t vs
      | Past t ↦ pass (bounded_turn priced) (Some v.path) t vs
      | Last t ↦ passed_all t vs
    ]

-- the visits that are made from a visit on
pub made_by : (priced : Bool) (b : Option ℤ) (v : Visit) (vs : List Visit) (x : Turn (Option ℤ))
    → bounded_turn priced b v ≡ x
    → (pass (bounded_turn priced) None b (v ∷ vs)).made ≡ v ∷ (behind priced v vs x).made
made_by priced b v vs x e = ap (λ y. v ∷ (behind priced v vs y).made) e

-- the choice at a visit
module _ (o : Option Visit) (v : Visit) (vs : List Visit) where
  pub chosen_at : is_plan v.sight ≡ true → chosen_from o (v ∷ vs) ≡ chosen_from (chosen_of o v) vs
  chosen_at e = ap (λ b. cond b (chosen_from (chosen_of o v) vs) (chosen_from o vs)) e

  pub chosen_past : is_plan v.sight ≡ false → chosen_from o (v ∷ vs) ≡ chosen_from o vs
  chosen_past e = ap (λ b. cond b (chosen_from (chosen_of o v) vs) (chosen_from o vs)) e

-- the ending from a visit on
module _ (t : Tally) (v : Visit) (vs : List Visit) where
  pub last_did : v.sight ≡ Did → last_of t (v ∷ vs) ≡ last_of (with_did t) vs
  last_did e = rw e refl

  pub last_plan : v.sight ≡ Plan → last_of t (v ∷ vs) ≡ last_of (with_plan t) vs
  last_plan e = rw e refl

  pub last_cut : v.sight ≡ CutHere → last_of t (v ∷ vs) ≡ last_of (with_cut t) vs
  last_cut e = rw e refl

  pub last_fault : (f : RunFault) → v.sight ≡ FaultHere f → last_of t (v ∷ vs) ≡ ended (AtFault f) t
  last_fault f e = rw e refl
