-- A walk to a decomposition arrives at its node, where no fault is before it.
use Rattle.std.proofs.Common.{◌≡◌, ◌≢◌, ◌⊎◌, ℕ, ◌-◌, ◌^◌, ◌<◌, min, Bool, true, false, ◌&&◌, ◌||◌, ◌==◌, cond, List, [], ◌∷◌, ◌++◌, length, length-append, Some, refl, sym, ap, ap₂, ◌∙◌, subst, arith, inl, inr, ⊎_elim}
use Rattle.std.specs.Prelude.{Contains, nat_lt}
use Rattle.std.specs.List.{starts_with}
use Rattle.std.proofs.lemmas.Bool.{and_parts, eq-eqb, ltb-true, ne_eqb, or_parts}
use Rattle.std.proofs.lemmas.Bool.Decides.{nat_tests}
use Rattle.std.proofs.lemmas.List.{append-nil, length-map, nil_from_length}
use Rattle.std.proofs.lemmas.List.Elements.{All-contains}
use Rattle.hp_laws.proofs.JoinLemmas.{contains_cases, contains_none}
use Rattle.hp_net.specs.Standings.{Tree, Standing, IsAtItsNode, tree_visits}
use Rattle.hp_passes.specs.Passing.{Passes, AtEnd, GoesOn, LeavesOut, Ends}
use Rattle.hp_passes.specs.declared.passing.Turn.{Turn}
use Rattle.hp_passes.specs.declared.passing.Turn.TheVariants as turns
use Rattle.hp_syntax.specs.Walk.{Sight, Did, Plan, CutHere, FaultHere, Visit, begins, is_plan, is_fault_here, node_at, skip, told, visit}
use Rattle.hp_dead_ends.specs.declared.arriving.Arriving.{Arriving}
use Rattle.hp_dead_ends.specs.Arriving.{IsHeld, MeetsArriving, HasArrived, did_turn, is_small, turn_to}
use Rattle.hp_dead_ends.specs.DeadEnds.{until_plan, with_root}
use Rattle.hp_dead_ends.proofs.DeadLemmas.{begins_itself}
use Rattle.hp_dead_ends.proofs.FindSteps.{seen_at}
use Rattle.hp_dead_ends.proofs.MeetSteps.{rest_of}

-- ---- paths

-- a path of small numbers is reported as it is
pub told_small : (q : List ℕ) → is_small (told q) ≡ true → q ≡ told q
told_small [] h = refl
told_small (i ∷ q) h =
    let both = and_parts (nat_lt (min i (2 ^ 64 - 1)) (2 ^ 64 - 1)) (is_small (told q)) h in
    let less : min i (2 ^ 64 - 1) < 2 ^ 64 - 1 = ltb-true (min i (2 ^ 64 - 1)) (2 ^ 64 - 1) both.0 in
    let same : i ≡ min i (2 ^ 64 - 1) = omega arith in
    ap₂ (λ n l. n ∷ l) same (told_small q both.1)

-- a limit above a number doesn't matter beside it
same_told : (i j m : ℕ) → j < m → (min i m == j) ≡ (i == j)
same_told i j m h = grind (arith, nat_tests)

-- so a path of small numbers begins with a path as it is reported exactly where this path begins it
pub starts_told : (p q : List ℕ) → is_small p ≡ true → starts_with ◌==◌ p (told q) ≡ begins q p
starts_told p [] h = refl
starts_told [] (i ∷ q) h = refl
starts_told (j ∷ p) (i ∷ q) h =
    let both = and_parts (nat_lt j (2 ^ 64 - 1)) (is_small p) h in
    let less : j < 2 ^ 64 - 1 = ltb-true j (2 ^ 64 - 1) both.0 in
    ap₂ ◌&&◌ (same_told i j (2 ^ 64 - 1) less) (starts_told p q both.1)

-- a beginning as long as the path is the path
whole_path : (q r : List ℕ) → length q ≡ length (q ++ r) → q ≡ q ++ r
whole_path q [] e = sym (append-nil q)
whole_path q (i ∷ r) e = absurd (omega (arith, length-append q (i ∷ r)))

same_by : (p q : List ℕ) → begins q p ≡ true → length q ≡ length p → q ≡ p
same_by p q h e =
    let r = rest_of q p h in
    whole_path q r.0 (e ∙ ap length r.1) ∙ sym r.1

-- so the turn at a decomposition can be read from its path as it is reported
module _ (p q w : List ℕ) (as_told : w ≡ told q) (small : is_small p ≡ true) where
  begun : (b : Bool) → b ≡ starts_with ◌==◌ p w → begins q p ≡ b
  begun b e = sym (e ∙ (ap (starts_with ◌==◌ p) as_told ∙ starts_told p q small))

  as_long : length w ≡ length q
  as_long = ap length as_told ∙ length-map q (λ i. min i (2 ^ 64 - 1))

  turn_by : (a b : Bool) → begins q p ≡ a → (length q == length p) ≡ b
      → cond a (cond b turns.Last turns.On) turns.Past ≡ did_turn p q
  turn_by a b e f = sym (ap₂ (λ x y. cond x (cond y turns.Last turns.On) turns.Past) e f)

  pub turns_past : (b : Bool) → b ≡ starts_with ◌==◌ p w → b ≡ false → turns.Past ≡ did_turn p q
  turns_past b e f = turn_by false (length q == length p) (begun b e ∙ f) refl

  pub turns_last : (b : Bool) → b ≡ starts_with ◌==◌ p w → b ≡ true → length w ≡ length p → turns.Last ≡ did_turn p q
  turns_last b e f long = turn_by true true (begun b e ∙ f) (eq-eqb (length q) (length p) (sym as_long ∙ long))

  pub turns_on : (b : Bool) → b ≡ starts_with ◌==◌ p w → b ≡ true → length w ≢ length p → turns.On ≡ did_turn p q
  turns_on b e f other = turn_by true false (begun b e ∙ f) (ne_eqb (length q) (length p) (λ k. other (as_long ∙ k)))

-- ---- the turn at a visit

turn_did : (p : List ℕ) (v : Visit) → v.sight ≡ Did → turn_to p v ≡ did_turn p v.path
turn_did p v e = rw e refl

-- at the path itself it is the last
turn_itself : (p : List ℕ) → did_turn p p ≡ turns.Last
turn_itself p =
    ap₂ (λ a b. cond a (cond b turns.Last turns.On) turns.Past) (begins_itself p) (eq-eqb (length p) (length p) refl)

turn_there : (p : List ℕ) (v : Visit) → v.sight ≡ Did → v.path ≡ p → turn_to p v ≡ turns.Last
turn_there p v e same = turn_did p v e ∙ (ap (did_turn p) same ∙ turn_itself p)

-- a decomposition that is the last is at the path
did_last : (p q : List ℕ) → (a : Bool) → begins q p ≡ a → (b : Bool) → (length q == length p) ≡ b
    → turns.Last ≡ cond a (cond b turns.Last turns.On) turns.Past → q ≡ p
did_last p q true e true f h =
    let long : length q ≡ length p = grind (arith, nat_tests) in same_by p q e long
did_last p q true e false f h = absurd (cc)
did_last p q false e b f h = absurd (cc)

-- so is each visit that is the last, but for a fault
last_there : (p : List ℕ) (v : Visit) → is_fault_here v.sight ≡ false → (x : Sight) → v.sight ≡ x
    → turns.Last ≡ turn_to p v → v.path ≡ p
last_there p v f Did e h =
    did_last p v.path (begins v.path p) refl (length v.path == length p) refl (h ∙ turn_did p v e)
last_there p v f Plan e h = let k : turns.Last ≡ turns.On = h ∙ rw e refl in absurd (cc)
last_there p v f CutHere e h = let k : turns.Last ≡ turns.On = h ∙ rw e refl in absurd (cc)
last_there p v f (FaultHere g) e h = let k : true ≡ false = sym (ap is_fault_here e) ∙ f in absurd (cc)

-- what is left out isn't a beginning of the path
did_past : (p q : List ℕ) → (a : Bool) → begins q p ≡ a → (b : Bool) → (length q == length p) ≡ b
    → turns.Past ≡ cond a (cond b turns.Last turns.On) turns.Past → begins q p ≡ false
did_past p q true e true f h = absurd (cc)
did_past p q true e false f h = absurd (cc)
did_past p q false e b f h = e

past_apart : (p : List ℕ) (v : Visit) → (x : Sight) → v.sight ≡ x → turns.Past ≡ turn_to p v → begins v.path p ≡ false
past_apart p v Did e h =
    did_past p v.path (begins v.path p) refl (length v.path == length p) refl (h ∙ turn_did p v e)
past_apart p v Plan e h = let k : turns.Past ≡ turns.On = h ∙ rw e refl in absurd (cc)
past_apart p v CutHere e h = let k : turns.Past ≡ turns.On = h ∙ rw e refl in absurd (cc)
past_apart p v (FaultHere g) e h = let k : turns.Past ≡ turns.Last = h ∙ rw e refl in absurd (cc)

-- ---- the visits that are left

module _ (p : List ℕ) where
  -- visits hold a decomposition at the path, and no fault before it
  abbrev Leads : List Visit → Type 0
  Leads [] = ⊥
  Leads (v ∷ vs) = ((v.sight ≡ Did) × (v.path ≡ p)) ⊎ ((is_fault_here v.sight ≡ false) × Leads vs)

  -- so do those without what lies below another path
  leads_left : (q : List ℕ) → begins q p ≡ false → (vs : List Visit) → Leads vs → Leads (skip q vs)
  leads_left q apart [] h = h
  leads_left q apart (v ∷ vs) h = by (leads_left q apart vs) (begins q v.path) refl
    where
      by : (Leads vs → Leads (skip q vs)) → (b : Bool) → begins q v.path ≡ b → Leads (cond b (skip q vs) (v ∷ vs))
      by deep true e =
          ⊎_elim (λ k. let f : true ≡ false = sym e ∙ (ap (begins q) k.1 ∙ apart) in absurd (cc))
          (λ k. deep k.1) h
      by deep false e = h

  -- so do visits that have one before the first plan or fault
  leads_until : (w : Visit) → w.sight ≡ Did → w.path ≡ p → (vs : List Visit) → Contains (until_plan vs) w → Leads vs
  leads_until w did at [] k = absurd (contains_none w k)
  leads_until w did at (v ∷ vs) k =
      ⊎_elim (λ e. inl (ap (λ x. x.sight) e ∙ did, ap (λ x. x.path) e ∙ at))
      (λ l. inr (by (leads_until w did at vs) (is_plan v.sight || is_fault_here v.sight) refl l))
      (contains_cases v w (cond (is_plan v.sight || is_fault_here v.sight) [] (until_plan vs)) k)
    where
      by : (Contains (until_plan vs) w → Leads vs) → (b : Bool) → (is_plan v.sight || is_fault_here v.sight) ≡ b
          → Contains (cond b [] (until_plan vs)) w → (is_fault_here v.sight ≡ false) × Leads vs
      by deep true e l = absurd (contains_none w l)
      by deep false e l = ((or_parts (is_plan v.sight) (is_fault_here v.sight) e).1, deep l)

  -- a walk that goes on after a visit hasn't met the decomposition
  not_yet : (v : Visit) (vs : List Visit) (x : Turn) → x ≡ turn_to p v → (x ≡ turns.Last → ⊥) → Leads (v ∷ vs) → Leads vs
  not_yet v vs x e n h = ⊎_elim (λ k. absurd (n (e ∙ turn_there p v k.0 k.1))) (λ k. k.1) h

  -- so a walk ends at it
  module _ (small : is_small p ≡ true) where
    turned : (s t : Arriving) (c d : Unit {0}) (v : Visit) (x : Turn) → s.target.now ≡ p → MeetsArriving s c v x t d
        → x ≡ turn_to p v
    turned s t c d v x e m = subst (λ q. is_small q ≡ true → x ≡ turn_to q v) e m.turn small

    ends_there : (s u : Arriving) (c e : Unit {0}) (vs : List Visit) (there : Standing)
        → Passes MeetsArriving s c vs u e there → s.target.now ≡ p → Leads vs → there.path ≡ p
    ends_there _ _ _ _ _ _ (AtEnd s c) target h = absurd h
    ends_there _ _ _ _ _ _ (GoesOn s t u c d e v vs there m rest) target h =
        ends_there t u d e vs there rest (m.target ∙ target)
        (not_yet v vs turns.On (turned s t c d v turns.On target m) (λ k. cc) h)
    ends_there _ _ _ _ _ _ (LeavesOut s t u c d e v vs there m rest) target h =
        let turn = turned s t c d v turns.Past target m in
        ends_there t u d e (skip v.path vs) there rest (m.target ∙ target)
        (leads_left v.path (past_apart p v v.sight refl turn) vs (not_yet v vs turns.Past turn (λ k. cc) h))
    ends_there _ _ _ _ _ _ (Ends s t c d v vs m) target h =
        ⊎_elim (λ k. k.1) (λ k. last_there p v k.0 v.sight refl (turned s t c d v turns.Last target m)) h

-- ---- a whole walk

-- a walk that is at the path of a decomposition is at its node
module _ (t : Tree) (p : List ℕ) (held : IsHeld t p) (small : is_small p ≡ true) where
  is_path : held.visit.path ≡ p
  is_path =
      told_small held.visit.path (subst (λ q. is_small q ≡ true) (sym held.is_told) small) ∙ held.is_told

  at_path : node_at t.rules t.nest t.root p ≡ Some held.visit.node
  at_path =
      subst (λ q. node_at t.rules t.nest t.root q ≡ Some held.visit.node) is_path
      (All-contains (IsAtItsNode t) (with_root t.root (until_plan (tree_visits t))) held.visit (seen_at t) held.within)

  arrived_at : (s : Standing) → s.path ≡ p → HasArrived t s p
  arrived_at s e = record {
    path = e;
    node = held.visit.node;
    at_node = ap (node_at t.rules t.nest t.root) e ∙ at_path;
  }

  -- where the path isn't that of the root, the visits hold the decomposition
  leads : (i : ℕ) (q : List ℕ) → p ≡ i ∷ q → Leads p (tree_visits t)
  leads i q e =
      ⊎_elim
      (λ k. let f : [] ≡ i ∷ q = ap (λ x. x.path) k ∙ (is_path ∙ e) in absurd (cc))
      (λ k. leads_until p held.visit held.did is_path (tree_visits t) k)
      (contains_cases (visit [] t.root Did) held.visit (until_plan (tree_visits t)) held.within)

  pub arrives : (s u : Arriving) (c e : Unit {0}) (vs : List Visit) (there : Standing) → s.target.now ≡ p
      → vs ≡ tree_visits t → (length p == 0) ≡ false → Passes MeetsArriving s c vs u e there → HasArrived t there p
  arrives s u c e vs there target new some made =
      arrived_at there
      (ends_there p small s u c e (tree_visits t) there
      (subst (λ ws. Passes MeetsArriving s c ws u e there) new made) target (by p refl))
    where
      by : (q : List ℕ) → p ≡ q → Leads p (tree_visits t)
      by [] f = let k : true ≡ false = sym (ap (λ l. length l == 0) f) ∙ some in absurd (cc)
      by (i ∷ q) f = leads i q f

  -- at the root it is there already
  pub arrived_at_root : (s : Standing) → s.path ≡ [] → (length p == 0) ≡ true → HasArrived t s p
  arrived_at_root s e f =
      let none : length p ≡ 0 = grind (arith, nat_tests) in arrived_at s (e ∙ sym (nil_from_length p none))
