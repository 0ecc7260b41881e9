-- Costs in a tree by priced rules.
use Rattle.std.proofs.Common.{◌≡◌, ℕ, zero, suc, Bool, true, false, ◌&&◌, ℤ, ◌≤ℤ◌, List, [], ◌∷◌, slice_get, Some, None, refl, sym, ap, subst, arith}
use Rattle.std.specs.Prelude.{pos, ◌+ℤ◌, Contains}
use Rattle.std.specs.Int.Signed.{le_z, le_z_yes}
use Rattle.std.proofs.lemmas.Float.{T_from_true}
use Rattle.std.proofs.lemmas.Int.{ints}
use Rattle.hp_laws.proofs.ChildLemmas.{did_leads}
use Rattle.hp_laws.specs.Derivations.{Choosing, Leads, ByStep, BySubtasks}
use Rattle.hp_syntax.specs.Changes.{Changes, Going, Went, CutShort, Failed, and_go, effects, effects_values, cost_value, changes_of}
use Rattle.hp_syntax.specs.Events.{State, axioms_of}
use Rattle.hp_syntax.specs.Syntax as syntax
use Rattle.hp_syntax.specs.Syntax.{Axiom, Operator, Pattern, Rule, Does}
use Rattle.hp_syntax.specs.Values.{Bindings, value}
use Rattle.hp_syntax.specs.Walk.{Node, DidChild, children, visits}
use Rattle.hp_best.specs.Bounded.{NeverFalls, is_price, is_priced_rule, is_priced}
use Rattle.hp_best.proofs.DownLemmas.{visits_down}

-- ---- prices

-- what comes after something that went, went on from what that gave
went_on : {A B : Type 0} (r : Going A) (f : A → Going B) (y : B) → and_go r f ≡ Went y
    → (x : A) × (r ≡ Went x) × (f x ≡ Went y)
went_on (Went x) f y e = (x, refl, e)
went_on CutShort f y e = let h : CutShort ≡ Went y = e in absurd (cc)
went_on (Failed g) f y e = let h : Failed g ≡ Went y = e in absurd (cc)

-- what a price comes to isn't negative
price_value : (p : Pattern) (e : Bindings) (c : ℤ) → is_price p ≡ true → cost_value p e ≡ Went c → pos 0 ≤ℤ c
unfolding value
price_value (syntax.Variable s v) e c h g = let k : false ≡ true = h in absurd (cc)
price_value (syntax.Symbol s name) e c h g = let k : false ≡ true = h in absurd (cc)
price_value (syntax.Number s n) e c h g =
    let same : Went n ≡ Went c = g in
    let is : n ≡ c = cc in
    subst (λ k. pos 0 ≤ℤ k) is (le_z_yes (T_from_true (le_z (pos 0) n) h))
price_value (syntax.Listing s ps tail) e c h g = let k : false ≡ true = h in absurd (cc)
price_value (syntax.Call s name args) e c h g = let k : false ≡ true = h in absurd (cc)

cost_told : (x y : Changes × ℤ) → Went x ≡ Went y → x.1 ≡ y.1
cost_told x y h = let same : x ≡ y = cc in ap (λ (z : Changes × ℤ). z.1) same

-- so what a priced operator costs isn't negative
effects_cost : (axioms : List Axiom) (nest : ℕ) (s : State) (o : Operator) (e : Bindings) (x : Changes × ℤ)
    → is_price o.cost ≡ true → effects axioms nest s o e ≡ Went x → pos 0 ≤ℤ x.1
unfolding effects
effects_cost axioms nest s o e x h g =
    let dels =
    went_on (effects_values axioms nest s o.dels e)
    (λ d. and_go (effects_values axioms nest s o.adds e)
    (λ a. and_go (cost_value o.cost e) (λ c. Went (changes_of d a, c)))) x g in
    let adds =
    went_on (effects_values axioms nest s o.adds e)
    (λ a. and_go (cost_value o.cost e) (λ c. Went (changes_of dels.0 a, c))) x dels.2 in
    let cost = went_on (cost_value o.cost e) (λ c. Went (changes_of dels.0 adds.0, c)) x adds.2 in
    subst (λ k. pos 0 ≤ℤ k) (cost_told (changes_of dels.0 adds.0, cost.0) x cost.2)
    (price_value o.cost e cost.0 h cost.1)

both_true : (a b : Bool) → (a && b) ≡ true → (a ≡ true) × (b ≡ true)
both_true true b h = (refl, h)
both_true false b h = let k : false ≡ true = h in absurd (cc)

-- each rule of priced ones is priced
rule_priced : (rules : List Rule) (i : ℕ) (r : Rule) → is_priced rules ≡ true → slice_get rules i ≡ Some r
    → is_priced_rule r ≡ true
rule_priced [] i r h e = let k : None ≡ Some r = e in absurd (cc)
rule_priced (x ∷ rules) zero r h e =
    let k : Some x ≡ Some r = e in
    let same : x ≡ r = cc in
    subst (λ y. is_priced_rule y ≡ true) same (both_true (is_priced_rule x) (is_priced rules) h).0
rule_priced (x ∷ rules) (suc i) r h e =
    rule_priced rules i r (both_true (is_priced_rule x) (is_priced rules) h).1 e

-- ---- children

-- a cost and one more that isn't negative is no less
no_less : (a b c : ℤ) → pos 0 ≤ℤ b → c ≡ a +ℤ b → a ≤ℤ c
no_less a b c h e = omega (arith, ints)

at_least : (a : ℤ) → a ≤ℤ a
at_least a = omega (arith, ints)

over_both : (a b c : ℤ) → a ≤ℤ b → b ≤ℤ c → a ≤ℤ c
over_both a b c h k = omega (arith, ints)

module _ (rules : List Rule) (nest : ℕ) (priced : is_priced rules ≡ true) where
  -- a choice leads to a node that costs no less
  leads_up : (c : Choosing) (n m : Node) → Leads rules nest c n m → n.cost ≤ℤ m.cost
  leads_up c n m (ByStep s t k f q) =
      no_less n.cost k m.cost
      (effects_cost (axioms_of rules) nest n.state f.operator f.satisfier (f.changes, k)
      (rule_priced rules c.rule (Does f.operator) priced f.known) f.does)
      (ap (λ (x : Node). x.cost) q)
  leads_up c n m (BySubtasks s f q) =
      subst (λ k. n.cost ≤ℤ k) (sym (ap (λ (x : Node). x.cost) q)) (at_least n.cost)

  -- so no child costs less than its node
  pub child_up : (n m : Node) → Contains (children rules nest n) (DidChild m) → n.cost ≤ℤ m.cost
  child_up n m h = let k = did_leads rules nest n m h in leads_up k.0 n m k.1

  -- so costs never fall
  pub never_falls : (root : Node) → NeverFalls (visits rules nest root [])
  never_falls root =
      visits_down rules nest (λ n m. n.cost ≤ℤ m.cost) (λ n. at_least n.cost)
      (λ a b c h k. over_both a.cost b.cost c.cost h k) child_up root
