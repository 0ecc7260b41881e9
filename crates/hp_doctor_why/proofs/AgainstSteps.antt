-- The variables that are written in another way, one by one.
use Rattle.std.proofs.Common.{◌≡◌, ℕ, ◌+◌, ◌<◌, ◌≤◌, ◌⊎◌, inl, inr, List, [], ◌∷◌, ◌++◌, drop, get_or, length, min, append_assoc, refl, ap, sym, ◌∙◌, arith}
use Rattle.std.proofs.lemmas.Bool.{cases_lt}
use Rattle.std.proofs.lemmas.List.{drop_all, drop_more}
use Rattle.hp_doctor_why.specs.Against.{change, changes}

-- the one at a place is the first of those that are left
first_left : (xs : List (List ℕ)) (k : ℕ) (x : List ℕ) → k < length xs → x ≡ get_or xs k x
    → drop k xs ≡ x ∷ drop (k + 1) xs
first_left xs k x below is = drop_more xs k x below ∙ ap (λ y. y ∷ drop (k + 1) xs) (sym is)

module _ (ns bs as' : List (List ℕ)) (k : ℕ) (n b a : List ℕ) (in_ns : k < length ns) (in_bs : k < length bs)
    (in_as : k < length as') (n_is : n ≡ get_or ns k n) (b_is : b ≡ get_or bs k b) (a_is : a ≡ get_or as' k a) where
  -- the first of those that are left stands before the others
  changes_step : changes (drop k ns) (drop k bs) (drop k as')
      ≡ change n b a ++ changes (drop (k + 1) ns) (drop (k + 1) bs) (drop (k + 1) as')
  changes_step =
      ap (λ xs. changes xs (drop k bs) (drop k as')) (first_left ns k n in_ns n_is)
      ∙ ap (λ xs. changes (n ∷ drop (k + 1) ns) xs (drop k as')) (first_left bs k b in_bs b_is)
      ∙ ap (λ xs. changes (n ∷ drop (k + 1) ns) (b ∷ drop (k + 1) bs) xs) (first_left as' k a in_as a_is)

  -- so with it the whole is made on
  pub changes_made : (old new whole : List ℕ)
      → old ++ changes (drop k ns) (drop k bs) (drop k as') ≡ whole → new ≡ old ++ change n b a
      → new ++ changes (drop (k + 1) ns) (drop (k + 1) bs) (drop (k + 1) as') ≡ whole
  changes_made old new whole left put =
      let rest = changes (drop (k + 1) ns) (drop (k + 1) bs) (drop (k + 1) as') in
      ap (λ xs. xs ++ rest) put
      ∙ append_assoc old (change n b a) rest
      ∙ ap (λ xs. old ++ xs) (sym changes_step)
      ∙ left

-- nothing is written in another way where there is nothing beside it
none_before : (ns bs as' : List (List ℕ)) → (ns ≡ []) ⊎ (bs ≡ []) ⊎ (as' ≡ []) → changes ns bs as' ≡ []
none_before [] bs as' h = refl
none_before (n ∷ ns) [] as' h = refl
none_before (n ∷ ns) (b ∷ bs) [] h = refl
none_before (n ∷ ns) (b ∷ bs) (a ∷ as') (inl h) = absurd cc
none_before (n ∷ ns) (b ∷ bs) (a ∷ as') (inr (inl h)) = absurd cc
none_before (n ∷ ns) (b ∷ bs) (a ∷ as') (inr (inr h)) = absurd cc

-- nothing is left where one of the lists is over
pub changes_over : (k : ℕ) (ns bs as' : List (List ℕ)) → (length ns ≤ k) ⊎ (length bs ≤ k) ⊎ (length as' ≤ k)
    → changes (drop k ns) (drop k bs) (drop k as') ≡ []
changes_over k ns bs as' (inl h) =
    none_before (drop k ns) (drop k bs) (drop k as') (inl (drop_all k ns h))
changes_over k ns bs as' (inr (inl h)) =
    none_before (drop k ns) (drop k bs) (drop k as') (inr (inl (drop_all k bs h)))
changes_over k ns bs as' (inr (inr h)) =
    none_before (drop k ns) (drop k bs) (drop k as') (inr (inr (drop_all k as' h)))

-- where a place isn't below the least of three lengths, one of the lists is over there
pub one_over : (k a b c : ℕ) → min (min a b) c ≤ k → (a ≤ k) ⊎ (b ≤ k) ⊎ (c ≤ k)
one_over k a b c h = elim (cases_lt k a) [
  | inl below ↦ elim (cases_lt k b) [
    | inl also ↦ inr (inr (omega (arith, h, below, also)))
    | inr over ↦ inr (inl over)
  ]
  | inr over ↦ inl over
]
