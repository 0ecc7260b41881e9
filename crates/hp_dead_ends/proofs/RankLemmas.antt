-- Ranks of dead ends, and those that came furthest, as more of them come.
use Rattle.std.proofs.Common.{◌≡◌, ◌⊎◌, ℕ, zero, suc, Bool, true, false, ◌&&◌, cond, List, [], ◌∷◌, ◌++◌, refl, sym, ap, ap₂, ◌∙◌, subst, arith, inl, inr, ⊎_elim}
use Rattle.std.specs.Prelude.{not, filter}
use Rattle.std.specs.List.{All, Any, list_all}
use Rattle.std.proofs.lemmas.Bool.Decides.{nat_tests}
use Rattle.std.proofs.lemmas.List.{append-nil}
use Rattle.std.proofs.lemmas.List.Elements.{All-nil, All-cons, All-append, All-head, All-tail, All-weaker, filter-append}
use Rattle.hp_syntax.specs.Walk.{Visit}
use Rattle.hp_dead_ends.specs.DeadEnds.{Rank, rank, rank_of, is_further, comes_further, furthest}
use Rattle.hp_dead_ends.specs.Searching.{IsTop}

-- ---- the order of ranks

pub further_not_back : (a b : Rank) → is_further a b ≡ true → is_further b a ≡ false
further_not_back a b h = grind (arith, nat_tests)

not_further_itself : (a : Rank) → is_further a a ≡ false
not_further_itself a = grind (arith, nat_tests)

not_further_on : (a b c : Rank) → is_further a b ≡ false → is_further b c ≡ false → is_further a c ≡ false
not_further_on a b c h k = grind (arith, nat_tests)

further_than_less : (a b c : Rank) → is_further a b ≡ false → is_further c b ≡ true → is_further c a ≡ true
further_than_less a b c h k = grind (arith, nat_tests)

same_numbers : (s d t e : ℕ) → is_further (rank s d) (rank t e) ≡ false → is_further (rank t e) (rank s d) ≡ false
    → (s ≡ t) × (d ≡ e)
same_numbers s d t e h k = grind (arith, nat_tests)

same_rank : (a b : Rank) → is_further a b ≡ false → is_further b a ≡ false → a ≡ b
same_rank a b h k =
    let e = same_numbers a.steps a.decompositions b.steps b.decompositions h k in ap₂ rank e.0 e.1

nothing_below : (a : Rank) → is_further (rank 0 0) a ≡ false
nothing_below a = grind (arith, nat_tests)

-- ---- those that came furthest, by their rank

-- a visit came as far as a rank
abbrev reaches : Rank → Visit → Bool
reaches r v = not (is_further r (rank_of v))

-- what is no further than a rank that one of the visits has is no further than all, and the other way round
none_further : (r : Rank) (v : Visit) (ds : List Visit) → All (λ w. is_further (rank_of w) r ≡ false) ds
    → is_further r (rank_of v) ≡ false → list_all (λ w. not (comes_further w v)) ds ≡ true
none_further r v [] h k = refl
none_further r v (w ∷ ds) h k =
    ap₂ ◌&&◌
    (ap not (not_further_on (rank_of w) r (rank_of v) (All-head (λ u. is_further (rank_of u) r ≡ false) w ds h) k))
    (none_further r v ds (All-tail (λ u. is_further (rank_of u) r ≡ false) w ds h) k)

-- some later one, or the first
any_cases : (P : Visit → Type 0) (w : Visit) (ds : List Visit) → Any P (w ∷ ds) → P w ⊎ Any P ds
any_cases P w ds (zero, x, l, e, h) = inl (subst P (sym e) h)
any_cases P w ds (suc i, x, l, e, h) = inr (i, x, omega arith, e, h)

some_further : (r : Rank) (v : Visit) (ds : List Visit) → Any (λ w. rank_of w ≡ r) ds
    → is_further r (rank_of v) ≡ true → list_all (λ w. not (comes_further w v)) ds ≡ false
some_further r v [] h k = absurd (let l = h.2 in omega arith)
some_further r v (w ∷ ds) h k =
    ⊎_elim
    (λ e. ap (λ b. b && list_all (λ w. not (comes_further w v)) ds)
    (ap not (ap (λ x. is_further x (rank_of v)) e ∙ k)))
    (λ a. by (not (comes_further w v)) (some_further r v ds a k)) (any_cases (λ u. rank_of u ≡ r) w ds h)
  where
    by : (b : Bool) → list_all (λ w. not (comes_further w v)) ds ≡ false
        → (b && list_all (λ w. not (comes_further w v)) ds) ≡ false
    by true e = e
    by false e = refl

-- so those that came furthest are those that came as far as the top rank
filter_same : (p q : Visit → Bool) → ((v : Visit) → p v ≡ q v) → (ds : List Visit) → filter p ds ≡ filter q ds
filter_same p q h [] = refl
filter_same p q h (v ∷ ds) =
    ap₂ (λ b us. cond b (v ∷ us) us) (h v) (filter_same p q h ds)

top_by : (r : Rank) (ds : List Visit) → All (λ w. is_further (rank_of w) r ≡ false) ds
    → Any (λ w. rank_of w ≡ r) ds → (v : Visit) → (b : Bool) → is_further r (rank_of v) ≡ b
    → list_all (λ w. not (comes_further w v)) ds ≡ not b
top_by r ds n s v true e = some_further r v ds s e
top_by r ds n s v false e = none_further r v ds n e

pub furthest_top : (r : Rank) (ds : List Visit) → IsTop r ds → furthest ds ≡ filter (reaches r) ds
furthest_top r ds t =
    ⊎_elim (λ e. subst (λ us. furthest us ≡ filter (reaches r) us) (sym e.0) refl)
    (λ s. filter_same (λ v. list_all (λ w. not (comes_further w v)) ds) (reaches r)
    (λ v. top_by r ds t.none s v (is_further r (rank_of v)) refl) ds) t.some

-- ---- one dead end more

any_left : (P : Visit → Type 0) (ds : List Visit) (d : Visit) → Any P ds → Any P (ds ++ d ∷ [])
any_left P [] d h = absurd (let l = h.2 in omega arith)
any_left P (w ∷ ds) d h = ⊎_elim (λ p. first P w (ds ++ d ∷ []) p) (λ a. later P w (ds ++ d ∷ []) (any_left P ds d a))
    (any_cases P w ds h)
  where
    first : (P : Visit → Type 0) (w : Visit) (us : List Visit) → P w → Any P (w ∷ us)
    first P w us p = (zero, w, omega arith, refl, p)

    later : (P : Visit → Type 0) (w : Visit) (us : List Visit) → Any P us → Any P (w ∷ us)
    later P w us h = (suc h.0, h.1, (let l = h.2 in omega arith), h.3, h.4)

any_last : (P : Visit → Type 0) (ds : List Visit) (d : Visit) → P d → Any P (ds ++ d ∷ [])
any_last P [] d p = (zero, d, omega arith, refl, p)
any_last P (w ∷ ds) d p =
    let h = any_last P ds d p in (suc h.0, h.1, (let l = h.2 in omega arith), h.3, h.4)

module _ (r : Rank) (ds : List Visit) (d : Visit) (t : IsTop r ds) where
  abbrev NoFurther : Rank → Visit → Type 0
  NoFurther q w = is_further (rank_of w) q ≡ false

  none_more : (q : Rank) → All (NoFurther q) ds → is_further (rank_of d) q ≡ false → All (NoFurther q) (ds ++ d ∷ [])
  none_more q h k = All-append (NoFurther q) ds (d ∷ []) h (All-cons (NoFurther q) d [] k (All-nil (NoFurther q)))

  -- it came less far
  pub top_nearer : is_further r (rank_of d) ≡ true → IsTop r (ds ++ d ∷ [])
  top_nearer h = record {
    none = none_more r t.none (further_not_back r (rank_of d) h);
    some =
        inr
        (⊎_elim
        (λ e. let k : false ≡ true = sym (nothing_below (rank_of d)) ∙ (ap (λ x. is_further x (rank_of d)) (sym e.1) ∙ h) in
        absurd (cc))
        (λ s. any_left (λ w. rank_of w ≡ r) ds d s) t.some);
  }

  pub furthest_nearer : is_further r (rank_of d) ≡ true → furthest (ds ++ d ∷ []) ≡ furthest ds
  furthest_nearer h =
      furthest_top r (ds ++ d ∷ []) (top_nearer h)
      ∙ (filter-append (reaches r) ds (d ∷ [])
      ∙ (ap (λ b. filter (reaches r) ds ++ cond (not b) (d ∷ []) []) h
      ∙ (append-nil (filter (reaches r) ds) ∙ sym (furthest_top r ds t))))

  -- it came further
  pub top_further : is_further (rank_of d) r ≡ true → IsTop (rank_of d) (ds ++ d ∷ [])
  top_further h = record {
    none =
        none_more (rank_of d)
        (All-weaker (NoFurther r) (NoFurther (rank_of d))
        (λ w k. not_further_on (rank_of w) r (rank_of d) k (further_not_back (rank_of d) r h)) ds t.none)
        (not_further_itself (rank_of d));
    some = inr (any_last (λ w. rank_of w ≡ rank_of d) ds d refl);
  }

  none_reach : is_further (rank_of d) r ≡ true → (us : List Visit) → All (NoFurther r) us
      → filter (reaches (rank_of d)) us ≡ []
  none_reach h [] a = refl
  none_reach h (w ∷ us) a =
      ap (λ b. cond (not b) (w ∷ filter (reaches (rank_of d)) us) (filter (reaches (rank_of d)) us))
      (further_than_less (rank_of w) r (rank_of d) (All-head (NoFurther r) w us a) h)
      ∙ none_reach h us (All-tail (NoFurther r) w us a)

  pub furthest_further : is_further (rank_of d) r ≡ true → furthest (ds ++ d ∷ []) ≡ d ∷ []
  furthest_further h =
      furthest_top (rank_of d) (ds ++ d ∷ []) (top_further h)
      ∙ (filter-append (reaches (rank_of d)) ds (d ∷ [])
      ∙ (ap (λ us. us ++ filter (reaches (rank_of d)) (d ∷ [])) (none_reach h ds t.none)
      ∙ ap (λ b. cond (not b) (d ∷ []) []) (not_further_itself (rank_of d))))

  -- it came as far
  module _ (h : is_further r (rank_of d) ≡ false) (k : is_further (rank_of d) r ≡ false) where
    pub top_same : IsTop r (ds ++ d ∷ [])
    top_same = record {
      none = none_more r t.none k;
      some = inr (any_last (λ w. rank_of w ≡ r) ds d (same_rank (rank_of d) r k h));
    }

    pub furthest_same : furthest (ds ++ d ∷ []) ≡ furthest ds ++ d ∷ []
    furthest_same =
        furthest_top r (ds ++ d ∷ []) top_same
        ∙ (filter-append (reaches r) ds (d ∷ [])
        ∙ ap₂ (λ us b. us ++ cond (not b) (d ∷ []) []) (sym (furthest_top r ds t)) h)
