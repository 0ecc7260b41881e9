-- Which plan a bounded walk chooses, and which a walk of all visits.
use Rattle.std.proofs.Common.{◌≡◌, ℕ, Bool, true, false, ◌&&◌, cond, T, ℤ, ◌≤ℤ◌, ◌<ℤ◌, List, [], ◌∷◌, ◌++◌, Option, Some, None, refl, sym, ap, ◌∙◌, subst, append_assoc, append-nil, arith}
use Rattle.std.specs.Int.Signed.{le_z, le_z_yes, clash_ℤ, <ℤ-≤ℤ_trans}
use Rattle.std.specs.List.{All}
use Rattle.std.proofs.lemmas.Float.{T_from_true}
use Rattle.std.proofs.lemmas.Int.{ints, by_lt_z}
use Rattle.std.proofs.lemmas.List.Elements.{All-nil, All-cons, All-head, All-tail, All-append, All-push, All-weaker}
use Rattle.hp_laws.proofs.JoinLemmas.{pairs_head, pairs_tail}
use Rattle.hp_laws.specs.TreeLaws.{IsFaultless}
use Rattle.hp_passes.specs.Passes.{Turn, On, Past, pass, is_out}
use Rattle.hp_syntax.specs.Walk.{Sight, Visit, Did, Plan, CutHere, FaultHere, is_plan, is_fault_here, begins}
use Rattle.hp_best.proofs.VisitSteps.{behind, chosen_at, chosen_past, made_by, turn_cut, turn_did, turn_plan}
use Rattle.hp_best.specs.Bounded.{reaches, lower, bounded_turn, bounded, chosen_cost, chosen_of, chosen_from, chosen_plan, NeverFalls, IsCheapest, ChosenIsCheapest}

true_of : (b : Bool) → T b → b ≡ true
true_of true h = refl
true_of false h = absurd h

-- a cost that is reached is reached by all that are no lower
reaches_more : (o : Option ℤ) (c d : ℤ) → reaches o c ≡ true → c ≤ℤ d → reaches o d ≡ true
reaches_more None c d r h = r
reaches_more (Some b) c d r h =
    let first : b ≤ℤ c = le_z_yes (T_from_true (le_z b c) r) in
    let both : b ≤ℤ d = by_lt_z d b (λ l. clash_ℤ (<ℤ-≤ℤ_trans l first) h) (λ k. k) in
    true_of (le_z b d) both.le

-- the chosen plan costs the lower of what the one before cost and its own
choice_cost : (o : Option Visit) (v : Visit) (b : Bool) → reaches (chosen_cost o) v.node.cost ≡ b
    → chosen_cost (cond b o (Some v)) ≡ cond b (chosen_cost o) (Some v.node.cost)
choice_cost o v true e = refl
choice_cost o v false e = refl

pub cost_lower : (o : Option Visit) (v : Visit) → chosen_cost (chosen_of o v) ≡ lower (chosen_cost o) v.node.cost
cost_lower o v = choice_cost o v (reaches (chosen_cost o) v.node.cost) refl

-- ---- what is left out

-- a visit at or below a path costs no less than this
abbrev IsDear : List ℕ → ℤ → Visit → Type 0
IsDear p c w = begins p w.path ≡ true → c ≤ℤ w.node.cost

-- what is left out costs no less than the chosen plan
abbrev OutIsDear : Option Visit → Option (List ℕ) → List Visit → Type 0
OutIsDear o None vs = Unit {0}
OutIsDear o (Some p) vs = (c : ℤ) × (reaches (chosen_cost o) c ≡ true) × All (IsDear p c) vs

out_on : (o : Option Visit) (out : Option (List ℕ)) (v : Visit) (vs : List Visit) → OutIsDear o out (v ∷ vs)
    → OutIsDear o out vs
out_on o None v vs h = tt
out_on o (Some p) v vs (c, r, a) = (c, r, All-tail (IsDear p c) v vs a)

-- a visit that is left out isn't chosen
not_chosen : (o : Option Visit) (out : Option (List ℕ)) (v : Visit) (vs : List Visit) → OutIsDear o out (v ∷ vs)
    → is_out out v ≡ true → (b : Bool) → is_plan v.sight ≡ b → chosen_from o (v ∷ vs) ≡ chosen_from o vs
not_chosen o None v vs h e b k = let f : false ≡ true = e in absurd (cc)
not_chosen o (Some p) v vs h e false k = rw k refl
not_chosen o (Some p) v vs (c, r, a) e true k =
    let reached = reaches_more (chosen_cost o) c v.node.cost r (All-head (IsDear p c) v vs a e) in
    rw k (rw reached refl)

module _ (priced : Bool) where
  abbrev turn : Option ℤ → Visit → Turn (Option ℤ)
  turn = bounded_turn priced

  -- costs never fall where they are priced
  abbrev Falls : List Visit → Type 0
  Falls vs = priced ≡ true → NeverFalls vs

  abbrev NoFaults : List Visit → Type 0
  NoFaults vs = All (λ v. IsFaultless v.sight) vs

  falls_on : (v : Visit) (vs : List Visit) → Falls (v ∷ vs) → Falls vs
  falls_on v vs h p = pairs_tail (λ v w. begins v.path w.path ≡ true → v.node.cost ≤ℤ w.node.cost) v vs (h p)

  -- the visits that a pass makes, as long as it lasts, lead to the same choice as all visits
  abbrev SameChoice : List Visit → Type 0
  SameChoice vs =
      (out : Option (List ℕ)) (o : Option Visit) → OutIsDear o out vs
      → chosen_from o (pass turn out (chosen_cost o) vs).made ≡ chosen_from o vs

  true_both : (b : Bool) → (priced && b) ≡ true → (priced ≡ true) × (b ≡ true)
  true_both b h = by priced b h
    where
      by : (a b : Bool) → (a && b) ≡ true → (a ≡ true) × (b ≡ true)
      by true b h = (refl, h)
      by false b h = let k : false ≡ true = h in absurd (cc)

  -- behind a decomposition that is bounded or isn't
  same_did : (o : Option Visit) (v : Visit) (vs : List Visit) → Falls (v ∷ vs) → SameChoice vs → (b : Bool)
      → (priced && reaches (chosen_cost o) v.node.cost) ≡ b
      → chosen_from o (behind priced v vs (cond b (Past (chosen_cost o)) (On (chosen_cost o)))).made ≡ chosen_from o vs
  same_did o v vs falls rest false e = rest None o tt
  same_did o v vs falls rest true e =
      let both = true_both (reaches (chosen_cost o) v.node.cost) e in
      rest (Some v.path) o (
        v.node.cost,
        both.1,
        pairs_head (λ v w. begins v.path w.path ≡ true → v.node.cost ≤ℤ w.node.cost) v vs (falls both.0),
      )

  -- behind a visit that is made
  same_made : (o : Option Visit) (v : Visit) (vs : List Visit) → Falls (v ∷ vs) → IsFaultless v.sight
      → SameChoice vs → (x : Sight) → v.sight ≡ x
      → chosen_from o (pass turn None (chosen_cost o) (v ∷ vs)).made ≡ chosen_from o (v ∷ vs)
  same_made o v vs falls f rest Did e =
      let b = priced && reaches (chosen_cost o) v.node.cost in
      let x : Turn (Option ℤ) = cond b (Past (chosen_cost o)) (On (chosen_cost o)) in
      ap (chosen_from o) (made_by priced (chosen_cost o) v vs x (turn_did priced (chosen_cost o) v e))
      ∙ (chosen_past o v (behind priced v vs x).made (ap is_plan e)
      ∙ (same_did o v vs falls rest b refl ∙ sym (chosen_past o v vs (ap is_plan e))))
  same_made o v vs falls f rest Plan e =
      let b = lower (chosen_cost o) v.node.cost in
      ap (chosen_from o) (made_by priced (chosen_cost o) v vs (On b) (turn_plan priced (chosen_cost o) v e))
      ∙ (chosen_at o v (pass turn None b vs).made (ap is_plan e)
      ∙ (ap (λ c. chosen_from (chosen_of o v) (pass turn None c vs).made) (sym (cost_lower o v))
      ∙ (rest None (chosen_of o v) tt ∙ sym (chosen_at o v vs (ap is_plan e)))))
  same_made o v vs falls f rest CutHere e =
      ap (chosen_from o)
      (made_by priced (chosen_cost o) v vs (On (chosen_cost o)) (turn_cut priced (chosen_cost o) v e))
      ∙ (chosen_past o v (pass turn None (chosen_cost o) vs).made (ap is_plan e)
      ∙ (rest None o tt ∙ sym (chosen_past o v vs (ap is_plan e))))
  same_made o v vs falls f rest (FaultHere g) e =
      let k : true ≡ false = sym (ap is_fault_here e) ∙ f in absurd (cc)

  same_by : (out : Option (List ℕ)) (o : Option Visit) (v : Visit) (vs : List Visit) → Falls (v ∷ vs)
      → IsFaultless v.sight → OutIsDear o out (v ∷ vs) → SameChoice vs → (b : Bool) → is_out out v ≡ b
      → chosen_from o
      (cond b (pass turn out (chosen_cost o) vs) (pass turn None (chosen_cost o) (v ∷ vs))).made
      ≡ chosen_from o (v ∷ vs)
  same_by out o v vs falls f dear rest true e =
      rest out o (out_on o out v vs dear) ∙ sym (not_chosen o out v vs dear e (is_plan v.sight) refl)
  same_by out o v vs falls f dear rest false e = same_made o v vs falls f rest v.sight refl

  same_choice : (vs : List Visit) → Falls vs → NoFaults vs → SameChoice vs
  same_choice [] falls f out o dear = refl
  same_choice (v ∷ vs) falls f out o dear =
      same_by out o v vs falls (All-head (λ w. IsFaultless w.sight) v vs f) dear
      (same_choice vs (falls_on v vs falls) (All-tail (λ w. IsFaultless w.sight) v vs f)) (is_out out v) refl

  -- a bounded walk chooses what a walk of all visits does
  pub same_chosen : (vs : List Visit) → (priced ≡ true → NeverFalls vs) → All (λ v. IsFaultless v.sight) vs
      → chosen_plan (bounded priced vs) ≡ chosen_plan vs
  same_chosen vs falls f = same_choice vs falls f None None tt

-- ---- the cheapest plan

-- a plan costs less than this one, or no more
abbrev IsDearer : ℤ → Visit → Type 0
IsDearer c w = is_plan w.sight ≡ true → c <ℤ w.node.cost

abbrev IsNoCheaper : ℤ → Visit → Type 0
IsNoCheaper c w = is_plan w.sight ≡ true → c ≤ℤ w.node.cost

no_plan : (P : Type 0) (b : Bool) → b ≡ false → b ≡ true → P
no_plan P b e h = let k : false ≡ true = sym e ∙ h in absurd (cc)

less_over : (a b c : ℤ) → a <ℤ b → b ≤ℤ c → a <ℤ c
less_over a b c h k = omega (arith, ints)

less_both : (a b c : ℤ) → a <ℤ b → b <ℤ c → a <ℤ c
less_both a b c h k = omega (arith, ints)

below_false : (b c : ℤ) → le_z b c ≡ false → c <ℤ b
below_false b c h = grind (arith, ints)

-- one visit more, which is not chosen
keeps : (w : Visit) (seen : List Visit) (v : Visit) → IsCheapest w seen → IsNoCheaper w.node.cost v
    → IsCheapest w (seen ++ v ∷ [])
keeps w seen v h k = record {
  before = h.before;
  after = h.after ++ v ∷ [];
  here = ap (λ l. l ++ v ∷ []) h.here ∙ append_assoc h.before (w ∷ h.after) (v ∷ []);
  plan = h.plan;
  earlier = h.earlier;
  later = All-push (IsNoCheaper w.node.cost) h.after v h.later k;
}

-- one that is cheaper than all plans before
takes : (seen : List Visit) (v : Visit) → is_plan v.sight ≡ true → All (IsDearer v.node.cost) seen
    → IsCheapest v (seen ++ v ∷ [])
takes seen v p a = record {
  before = seen;
  after = [];
  here = refl;
  plan = p;
  earlier = a;
  later = All-nil (IsNoCheaper v.node.cost);
}

-- what is cheaper than the cheapest plan is cheaper than all
cheaper_than_all : (w : Visit) (seen : List Visit) (c : ℤ) → IsCheapest w seen → c <ℤ w.node.cost
    → All (IsDearer c) seen
cheaper_than_all w seen c h l =
    subst (All (IsDearer c)) (sym h.here)
    (All-append (IsDearer c) h.before (w ∷ h.after)
    (All-weaker (IsDearer w.node.cost) (IsDearer c) (λ x k p. less_both c w.node.cost x.node.cost l (k p)) h.before
    h.earlier)
    (All-cons (IsDearer c) w h.after (λ p. l)
    (All-weaker (IsNoCheaper w.node.cost) (IsDearer c) (λ x k p. less_over c w.node.cost x.node.cost l (k p)) h.after
    h.later)))

-- one visit more, which is chosen or not
cheapest_on : (o : Option Visit) (seen : List Visit) (v : Visit) → ChosenIsCheapest o seen → (p : Bool)
    → is_plan v.sight ≡ p → (b : Bool) → reaches (chosen_cost o) v.node.cost ≡ b
    → ChosenIsCheapest (cond p (cond b o (Some v)) o) (seen ++ v ∷ [])
cheapest_on None seen v h false e b r = All-push (λ w. is_plan w.sight ≡ false) seen v h e
cheapest_on (Some w) seen v h false e b r = keeps w seen v h (λ k. no_plan _ (is_plan v.sight) e k)
cheapest_on None seen v h true e true r = let k : false ≡ true = r in absurd (cc)
cheapest_on None seen v h true e false r =
    takes seen v e
    (All-weaker (λ w. is_plan w.sight ≡ false) (IsDearer v.node.cost) (λ w k p. no_plan _ (is_plan w.sight) k p) seen h)
cheapest_on (Some w) seen v h true e true r =
    keeps w seen v h (λ k. le_z_yes (T_from_true (le_z w.node.cost v.node.cost) r))
cheapest_on (Some w) seen v h true e false r =
    takes seen v e (cheaper_than_all w seen v.node.cost h (below_false w.node.cost v.node.cost r))

-- the visits that are left behind one more, with one that is chosen by then
cheapest_by : (o : Option Visit) (seen : List Visit) (v : Visit) (vs : List Visit) → ChosenIsCheapest o seen
    → ((q : Option Visit) → ChosenIsCheapest q (seen ++ v ∷ [])
    → ChosenIsCheapest (chosen_from q vs) ((seen ++ v ∷ []) ++ vs))
    → (p : Bool) → is_plan v.sight ≡ p
    → ChosenIsCheapest (cond p (chosen_from (chosen_of o v) vs) (chosen_from o vs)) (seen ++ v ∷ vs)
cheapest_by o seen v vs h rest true e =
    subst (ChosenIsCheapest (chosen_from (chosen_of o v) vs)) (append_assoc seen (v ∷ []) vs)
    (rest (chosen_of o v) (cheapest_on o seen v h true e (reaches (chosen_cost o) v.node.cost) refl))
cheapest_by o seen v vs h rest false e =
    subst (ChosenIsCheapest (chosen_from o vs)) (append_assoc seen (v ∷ []) vs)
    (rest o (cheapest_on o seen v h false e (reaches (chosen_cost o) v.node.cost) refl))

-- the visits that are left, with one that is chosen so far
cheapest_from : (o : Option Visit) (seen vs : List Visit) → ChosenIsCheapest o seen
    → ChosenIsCheapest (chosen_from o vs) (seen ++ vs)
cheapest_from o seen [] h = subst (ChosenIsCheapest o) (sym (append-nil seen)) h
cheapest_from o seen (v ∷ vs) h =
    cheapest_by o seen v vs h (λ q k. cheapest_from q (seen ++ v ∷ []) vs k) (is_plan v.sight) refl

-- the last plan that costs less than each before it is the cheapest, and of those that cost as little the first
pub chosen_is_cheapest : (vs : List Visit) → ChosenIsCheapest (chosen_plan vs) vs
chosen_is_cheapest vs = cheapest_from None [] vs (All-nil (λ w. is_plan w.sight ≡ false))
