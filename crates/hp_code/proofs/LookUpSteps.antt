-- The place of a rule and the names of its variables are found by a search among the rules' nodes.
use Rattle.std.proofs.Common.{◌≡◌, ◌≢◌, ◌⊎◌, inl, inr, ℕ, zero, suc, ◌<◌, ◌≤◌, cond, List, [], ◌∷◌, length, get_or, map, slice_get, Some, None, option_map, Err, refl, ap, sym, ◌∙◌, subst, arith}
use Rattle.std.specs.Ordering.{nat_cmp, ordering_index}
use Rattle.std.specs.declared.cmp.Ordering.TheVariants.{Equal}
use Rattle.std.specs.List.Sorted.{IsBinarySearchResult, IsNonDecreasingBy}
use Rattle.std.proofs.lemmas.Bool.{eq-eqb, ne_eqb}
use Rattle.std.proofs.lemmas.Bool.Decides.{nat_tests}
use Rattle.std.proofs.lemmas.Cmp.{ranked}
use Rattle.std.proofs.lemmas.List.Sorted.{IsNonDecreasingBy-from_default}
use Rattle.std.proofs.lemmas.Option.{slice_get_past, slice_get-get_or, slice_get-map}
use Rattle.hp_nodes.specs.Trees.{trees}
use Rattle.hp_code.specs.CodeViews.{CodeView, IsPlaceOf, beside, or_empty, rule_nodes, rules_in, vars_at}
use Rattle.hp_code.proofs.CodeLemmas.{AscendFrom, beside_later, roots_ascend}

-- numbers that ascend from one are at least that
at_least : (j : ℕ) (ns : List ℕ) → AscendFrom j ns → (k d : ℕ) → k < length ns → j ≤ get_or ns k d
at_least j [] a k d l = absurd (omega (arith, l))
at_least j (n ∷ ns) a zero d l = a.0
at_least j (n ∷ ns) a (suc k) d l =
    let later = at_least (suc n) ns a.1 k d (omega (arith, l)) in
    omega (arith, later, a.0)

-- numbers that ascend rise
rise : (j : ℕ) (ns : List ℕ) → AscendFrom j ns → (k m d : ℕ) → k ≤ m → m < length ns → get_or ns k d ≤ get_or ns m d
rise j [] a k m d le l = absurd (omega (arith, l))
rise j (n ∷ ns) a zero zero d le l = omega arith
rise j (n ∷ ns) a zero (suc m) d le l =
    let later = at_least (suc n) ns a.1 m d (omega (arith, l)) in
    omega (arith, later)
rise j (n ∷ ns) a (suc k) zero d le l = absurd (omega (arith, le))
rise j (n ∷ ns) a (suc k) (suc m) d le l = rise (suc n) ns a.1 k m d (omega (arith, le)) (omega (arith, l))

-- beside one of numbers that ascend stands the thing of its place
beside_at : {A : Type 0} (j : ℕ) (ns : List ℕ) (xs : List A) (k i : ℕ) → AscendFrom j ns → k < length ns
    → get_or ns k i ≡ i → beside i ns xs ≡ slice_get xs k
beside_at j [] xs k i a l e = absurd (omega (arith, l))
beside_at j (n ∷ ns) [] k i a l e = sym (slice_get_past [] k (omega arith))
beside_at j (n ∷ ns) (x ∷ xs) zero i a l e = ap (λ b. cond b (Some x) (beside i ns xs)) (eq-eqb n i e)
beside_at j (n ∷ ns) (x ∷ xs) (suc k) i a l e =
    let below : suc n ≤ i = subst (λ m. suc n ≤ m) e (at_least (suc n) ns a.1 k i (omega (arith, l))) in
    beside_later n ns x xs i below ∙ beside_at (suc n) ns xs k i a.1 (omega (arith, l)) e

-- beside what is none of numbers stands nothing
beside_none : {A : Type 0} (ns : List ℕ) (xs : List A) (i : ℕ) → ((k : ℕ) → k < length ns → get_or ns k i ≢ i)
    → beside i ns xs ≡ None
beside_none [] xs i h = refl
beside_none (n ∷ ns) [] i h = refl
beside_none (n ∷ ns) (x ∷ xs) i h =
    ap (λ b. cond b (Some x) (beside i ns xs)) (ne_eqb n i (h zero (omega arith)))
    ∙ beside_none ns xs i (λ k l. h (suc k) (omega (arith, l)))

-- of two numbers one is below the other, or not
split : (k m : ℕ) → (k < m) ⊎ (m ≤ k)
split k zero = inr (omega arith)
split zero (suc m) = inl (omega arith)
split (suc k) (suc m) = elim (split k m) [
  | inl w ↦ inl (omega (arith, w))
  | inr w ↦ inr (omega (arith, w))
]

module _ (c : CodeView) (i : ℕ) (ns : List ℕ) (nodes : ns ≡ rule_nodes c) where
  ascend : AscendFrom 0 ns
  ascend = subst (AscendFrom 0) (sym nodes) (roots_ascend 0 (trees 0 c.nodes))

  -- where the search finds an index, there is the rule of the node
  pub place_found : (k : ℕ) → k < length ns → ((d : ℕ) → nat_cmp (get_or ns k d) i ≡ Equal) → IsPlaceOf c i (Some k)
  place_found k inside found =
      let same : get_or ns k i ≡ i = ranked _ i _ (sym (found i)) in (
        ap (λ ms. slice_get ms k) (sym nodes) ∙ (slice_get-get_or ns k i inside ∙ ap Some same),
        sym (ap (λ ms. beside i ms (rules_in c)) (sym nodes) ∙ beside_at 0 ns (rules_in c) k i ascend inside same),
      )

  module _ (at : ℕ) (parted : IsBinarySearchResult (λ y. nat_cmp y i) ns (Err at)) where
    compared_rise : IsNonDecreasingBy (λ y. ordering_index (nat_cmp y i)) ns
    compared_rise =
        IsNonDecreasingBy-from_default (λ y. ordering_index (nat_cmp y i)) ns 0
        (λ k m le l.
        let up : get_or ns k 0 ≤ get_or ns m 0 = rise 0 ns ascend k m 0 le l in
        grind (arith, nat_tests))

    -- a number before the place is smaller, and one from it on greater
    apart : (k : ℕ) → k < length ns → (k < at) ⊎ (at ≤ k) → get_or ns k i ≢ i
    apart k l (inl before) e =
        let less : get_or ns k i < i = ranked _ i _ (sym ((parted compared_rise).0 k i (omega arith) before)) in
        absurd (omega (arith, less, e))
    apart k l (inr behind) e =
        let more : i < get_or ns k i = ranked _ i _ (sym ((parted compared_rise).1 k i behind l)) in
        absurd (omega (arith, more, e))

    -- where the search finds none, nothing stands beside the index
    missing : {A : Type 0} (xs : List A) → beside i ns xs ≡ None
    missing xs = beside_none ns xs i (λ k l. apart k l (split k at))

    pub place_missing : IsPlaceOf c i None
    place_missing = ap (λ ms. beside i ms (rules_in c)) (sym nodes) ∙ missing (rules_in c)

module _ {V : Type 0} (f : V → List (List ℕ)) (c : CodeView) (i : ℕ) (ns : List ℕ) (vs us : List V)
    (nodes : ns ≡ rule_nodes c) (vars : c.vars ≡ map f us) (same : vs ≡ us) where
  names_are : vars_at c i ≡ or_empty (beside i ns (map f vs))
  names_are =
      ap (λ ms. or_empty (beside i ms c.vars)) (sym nodes)
      ∙ ap (λ all. or_empty (beside i ns all)) (vars ∙ ap (map f) (sym same))

  module _ (k : ℕ) (inside : k < length ns) (found : (d : ℕ) → nat_cmp (get_or ns k d) i ≡ Equal) where
    names_at : vars_at c i ≡ or_empty (option_map f (slice_get vs k))
    names_at =
        names_are
        ∙ ap or_empty
        (beside_at 0 ns (map f vs) k i (ascend c i ns nodes) inside (ranked _ i _ (sym (found i)))
        ∙ slice_get-map f vs k)

    -- the names beside a rule's node are those of the rule
    pub names_found : (v : V) → k < length vs → v ≡ get_or vs k v → f v ≡ vars_at c i
    names_found v l e =
        sym (names_at ∙ ap (λ o. or_empty (option_map f o)) (slice_get-get_or vs k v l ∙ ap Some (sym e)))

    -- where so many rules have no names, there are none
    pub names_none : length vs ≤ k → [] ≡ vars_at c i
    names_none l = sym (names_at ∙ ap (λ o. or_empty (option_map f o)) (slice_get_past vs k l))

  -- a node that isn't among the rules' nodes has no names
  pub names_missing : (at : ℕ) → IsBinarySearchResult (λ y. nat_cmp y i) ns (Err at) → [] ≡ vars_at c i
  names_missing at parted = sym (names_are ∙ ap or_empty (missing c i ns nodes at parted (map f vs)))
