-- Facts of a trace.
use Rattle.std.proofs.Common.{◌≡◌, ◌<◌, ℕ, suc, ◌+◌, ◌-◌, ◌^◌, min, Bool, true, false, ◌&&◌, ◌||◌, ◌==◌, cond, List, [], ◌∷◌, ◌++◌, length, length-append, take, Some, refl, sym, ap, ap₂, ◌∙◌, subst, arith}
use Rattle.std.specs.Prelude.{filter, nat_lt}
use Rattle.std.specs.List.{All, starts_with}
use Rattle.std.proofs.lemmas.Bool.{and_parts, ltb-true}
use Rattle.std.proofs.lemmas.Bool.Decides.{nat_tests}
use Rattle.std.proofs.lemmas.List.{length-map, take_more}
use Rattle.std.proofs.lemmas.List.Elements.{All-nil, All-cons, All-head, All-tail}
use Rattle.std.proofs.Math.Seq.{take-length}
use Rattle.std.proofs.lemmas.Option.{get_or_from_slice_get, same_Some, slice_get_within}
use Rattle.hp_after.specs.Stepping.{Follows}
use Rattle.hp_dead_ends.proofs.FitLemmas.{AllFit}
use Rattle.hp_dead_ends.specs.Arriving.{is_small}
use Rattle.hp_net.specs.Standings.{node_reached}
use Rattle.hp_passes.proofs.PassLemmas.{skipped}
use Rattle.hp_passes.specs.declared.passing.Turn.TheVariants as turns
use Rattle.hp_search.specs.Planned.{Planned, stands_planned, tree_planned}
use Rattle.hp_syntax.specs.Walk.{Node, Sight, Did, Plan, CutHere, FaultHere, Visit, begins, is_did, is_fault_here, node_at, skip, told, visit}
use Rattle.hp_way.specs.Along.{IsDeedAt}
use Rattle.hp_way.specs.Ways.{Deed, IsDone}
use Rattle.hp_trace.specs.Traces.{IsDeedOf, turn_by, turn_to, visits_from}

-- ---- one visit

-- a path as it is told is as long as it is
pub told_long : (q : List ℕ) → length (told q) ≡ length q
told_long q = length-map q (λ i. min i (2 ^ 64 - 1))

-- the deed to where a walk stands is that of the visit there
pub deed_there : (p : Planned) (d : Deed) (k : ℕ) (n : Node) → length (stands_planned p).path ≡ suc k
    → node_reached (tree_planned p) (stands_planned p) ≡ Some n → IsDeedAt p k d
    → IsDeedOf (tree_planned p) (visit (stands_planned p).path n Did) d
deed_there p d k n long at led =
    let t = tree_planned p in
    let path = (stands_planned p).path in
    let all : take (k + 1) path ≡ path =
    subst (λ m. take m path ≡ path) (omega (arith, long)) (take-length path) in
    let same : led.reached ≡ n =
    same_Some led.reached n (sym led.here ∙ (ap (λ q. node_at t.rules p.nest t.root q) all ∙ at)) in
    record {
      above = take k path;
      number = led.number;
      path =
          sym all
          ∙ (take_more path k led.number (slice_get_within path k led.number led.is)
          ∙ ap (λ i. take k path ++ i ∷ []) (get_or_from_slice_get path k led.number led.number led.is));
      node = led.above;
      there = led.there;
      done = subst (λ m. IsDone t.rules p.nest d led.number led.above m) same led.done;
    }

-- ---- paths as they are told

-- a limit above a number doesn't matter beside it
same_told : (i j m : ℕ) → j < m → (min i m == j) ≡ (i == j)
same_told i j m h = grind (arith, nat_tests)

told_same : (i j m : ℕ) → j < m → (j == min i m) ≡ (j == i)
told_same i j m h = grind (arith, nat_tests)

-- so a path of small numbers is compared with a path as it is told
above_told : (p q : List ℕ) → is_small p ≡ true → starts_with ◌==◌ p (told q) ≡ begins q p
above_told p [] h = refl
above_told [] (i ∷ q) h = refl
above_told (j ∷ p) (i ∷ q) h =
    let both = and_parts (nat_lt j (2 ^ 64 - 1)) (is_small p) h in
    let less : j < 2 ^ 64 - 1 = ltb-true j (2 ^ 64 - 1) both.0 in
    ap₂ ◌&&◌ (same_told i j (2 ^ 64 - 1) less) (above_told p q both.1)

pub below_told : (p q : List ℕ) → is_small p ≡ true → starts_with ◌==◌ (told q) p ≡ begins p q
below_told [] q h = refl
below_told (j ∷ p) [] h = refl
below_told (j ∷ p) (i ∷ q) h =
    let both = and_parts (nat_lt j (2 ^ 64 - 1)) (is_small p) h in
    let less : j < 2 ^ 64 - 1 = ltb-true j (2 ^ 64 - 1) both.0 in
    ap₂ ◌&&◌ (told_same i j (2 ^ 64 - 1) less) (below_told p q both.1)

pub all_small : (p : List ℕ) → All (λ i. i < 2 ^ 64 - 1) p → is_small p ≡ true
all_small [] h = refl
all_small (i ∷ p) h =
    ap₂ ◌&&◌ (small_one i (2 ^ 64 - 1) (All-head (λ k. k < 2 ^ 64 - 1) i p h))
    (all_small p (All-tail (λ k. k < 2 ^ 64 - 1) i p h))
  where
    small_one : (i m : ℕ) → i < m → nat_lt i m ≡ true
    small_one i m h = grind (arith, nat_tests)

-- the turn after a decomposition that isn't at or below the path
module _ (p w : List ℕ) (b : Bool) (is : b ≡ starts_with ◌==◌ p w) where
  turns_by : (x : Bool) → b ≡ x → (q : List ℕ) → w ≡ told q → is_small p ≡ true → begins p q ≡ false
      → cond x turns.On turns.Past ≡ turn_by p q Did
  turns_by x e q told_so small apart =
      let here : x ≡ begins q p = sym e ∙ (is ∙ (ap (starts_with ◌==◌ p) told_so ∙ above_told p q small)) in
      sym (ap₂ (λ y z. cond (y || z) turns.On turns.Past) apart (sym here))

  pub turns_on : b ≡ true → (q : List ℕ) → w ≡ told q → is_small p ≡ true → begins p q ≡ false
      → turns.On ≡ turn_by p q Did
  turns_on e q = turns_by true e q

  pub turns_past : b ≡ false → (q : List ℕ) → w ≡ told q → is_small p ≡ true → begins p q ≡ false
      → turns.Past ≡ turn_by p q Did
  turns_past e q = turns_by false e q

-- ---- a whole walk

-- the visits from a path on, by the turn at the first one
module _ (p : List ℕ) (v : Visit) (vs : List Visit) where
  pub from_on : turns.On ≡ turn_by p v.path v.sight
      → visits_from p (v ∷ vs) ≡ cond (begins p v.path) (v ∷ visits_from p vs) (visits_from p vs)
  from_on e = rw (sym e) refl

  pub from_last : turns.Last ≡ turn_by p v.path v.sight
      → visits_from p (v ∷ vs) ≡ cond (begins p v.path) (v ∷ []) []
  from_last e = rw (sym e) refl

  pub from_past : turns.Past ≡ turn_by p v.path v.sight
      → visits_from p (v ∷ vs)
      ≡ cond (begins p v.path) (v ∷ visits_from p (skip v.path vs)) (visits_from p (skip v.path vs))
  from_past e =
      (rw (sym e) refl)
      ∙ ap (λ k. cond (begins p v.path) (v ∷ filter (λ w. begins p w.path) k.made) (filter (λ w. begins p w.path) k.made))
      (skipped (turn_to p) v.path tt vs)

-- the turn at or below the path
pub turn_faultless : (p q : List ℕ) (x : Sight) → begins p q ≡ true → is_fault_here x ≡ false → turns.On ≡ turn_by p q x
turn_faultless p q Did e f = sym (ap (λ y. cond (y || begins q p) turns.On turns.Past) e)
turn_faultless p q Plan e f = refl
turn_faultless p q CutHere e f = refl
turn_faultless p q (FaultHere g) e f = absurd (cc)

pub turn_fault : (p q : List ℕ) (x : Sight) → is_fault_here x ≡ true → turns.Last ≡ turn_by p q x
turn_fault p q Did f = absurd (cc)
turn_fault p q Plan f = absurd (cc)
turn_fault p q CutHere f = absurd (cc)
turn_fault p q (FaultHere g) f = refl

-- a visit at or below the path is the first of those from there on
pub record IsFirst (p : List ℕ) (v : Visit) (vs : List Visit) : Type 0 where
  pub others : List Visit
  pub is : visits_from p (v ∷ vs) ≡ v ∷ others

pub is_first : (p : List ℕ) (v : Visit) (vs : List Visit) → begins p v.path ≡ true → IsFirst p v vs
is_first p v vs e = by (is_fault_here v.sight) refl
  where
    by : (f : Bool) → is_fault_here v.sight ≡ f → IsFirst p v vs
    by true f = record {
      others = [];
      is =
          from_last p v vs (turn_fault p v.path v.sight f) ∙ ap (λ b. cond b (v ∷ []) []) e;
    }
    by false f = record {
      others = visits_from p vs;
      is =
          from_on p v vs (turn_faultless p v.path v.sight e f)
          ∙ ap (λ b. cond b (v ∷ visits_from p vs) (visits_from p vs)) e;
    }

-- a decomposition at the root
abbrev pub IsRoot : Visit → Type 0
IsRoot v = (v.sight ≡ Did) × (v.path ≡ [])

-- each visit is at the depth that its path leaves, and no decomposition at the root
pub record Stands (d : ℕ) (v : Visit) : Type 0 where
  pub deep : v.node.depth + length v.path ≡ d
  pub below : IsRoot v → ⊥

not_end : (a : List ℕ) (i : ℕ) → a ++ i ∷ [] ≡ [] → ⊥
not_end a i e = omega (arith, ap length e, length-append a (i ∷ []))

no_root : (p : List ℕ) (v : Visit) (x : Sight) → v.sight ≡ x → Follows x v.path p → IsRoot v → ⊥
no_root p v Did e f h = not_end f.above f.number (sym f.path ∙ h.1)
no_root p v Plan e f h = let k : Plan ≡ Did = sym e ∙ h.0 in cc
no_root p v CutHere e f h = let k : CutHere ≡ Did = sym e ∙ h.0 in cc
no_root p v (FaultHere g) e f h = let k : FaultHere g ≡ Did = sym e ∙ h.0 in cc

pub all_stand : (d : ℕ) (p : List ℕ) (vs : List Visit) → AllFit d p vs → All (Stands d) vs
all_stand d p [] fit = All-nil (Stands d)
all_stand d p (v ∷ vs) fit =
    All-cons (Stands d) v vs (record { deep = fit.1; below = no_root p v v.sight refl fit.0.follows })
    (all_stand d (cond (is_did v.sight) v.path p) vs fit.2)
