-- Lists beside one another, gone through by places.
use Rattle.std.proofs.Common.{◌≡◌, ℕ, zero, suc, ◌+◌, ◌<◌, ◌≤◌, List, [], ◌∷◌, ◌++◌, drop, get_or, length, refl, sym, ap, ◌∙◌, arith, append-nil, append_assoc}
use Rattle.std.specs.Prelude.{slice_get, zip}
use Rattle.std.specs.List.{flat_map}
use Rattle.hp_doctor_why.specs.Beside.{beside_text}

module _ {A B : Type 0} (text : (A × B) → List ℕ) where
  abbrev pub rest : List A → List B → ℕ → List ℕ
  rest xs ys i = flat_map text (zip (drop i xs) (drop i ys))

  nothing_beside : (xs : List A) (ys : List B) → ys ≡ [] → flat_map text (zip xs ys) ≡ []
  nothing_beside [] ys e = refl
  nothing_beside (x ∷ xs) ys e = ap (λ zs. flat_map text (zip (x ∷ xs) zs)) e

  -- what is left at a place is what is said of the thing there, where another one stands beside it, and what is left
  -- at the next place
  rest_more : (xs : List A) (ys : List B) (i : ℕ) (x : A) → i < length xs → x ≡ get_or xs i x
      → rest xs ys i ≡ beside_text text x (slice_get ys i) ++ rest xs ys (suc i)
  rest_more [] ys i x l e = absurd (omega arith)
  rest_more (z ∷ xs) [] zero x l e = sym (nothing_beside xs [] refl)
  rest_more (z ∷ xs) (y ∷ ys) zero x l e = ap (λ w. text (w, y) ++ flat_map text (zip xs ys)) (sym e)
  rest_more (z ∷ xs) [] (suc i) x l e =
      nothing_beside (drop i xs) [] refl ∙ sym (nothing_beside (drop (suc i) xs) [] refl)
  rest_more (z ∷ xs) (y ∷ ys) (suc i) x l e = rest_more xs ys i x (omega arith) e

  pub one_beside : (xs : List A) (ys : List B) (i : ℕ) (x : A) (old new whole : List ℕ) → i < length xs
      → x ≡ get_or xs i x → old ++ rest xs ys i ≡ whole → new ≡ old ++ beside_text text x (slice_get ys i)
      → new ++ rest xs ys (i + 1) ≡ whole
  one_beside xs ys i x old new whole l e left put =
      let next : i + 1 ≡ suc i = omega arith in
      ap (λ k. new ++ rest xs ys k) next
      ∙ (ap (λ zs. zs ++ rest xs ys (suc i)) put
      ∙ (append_assoc old (beside_text text x (slice_get ys i)) (rest xs ys (suc i))
      ∙ (ap (λ zs. old ++ zs) (sym (rest_more xs ys i x l e)) ∙ left)))

  nothing_left : (xs : List A) (ys : List B) (i : ℕ) → length xs ≤ i → rest xs ys i ≡ []
  nothing_left [] ys zero l = refl
  nothing_left [] ys (suc i) l = refl
  nothing_left (x ∷ xs) ys zero l = absurd (omega arith)
  nothing_left (x ∷ xs) [] (suc i) l = nothing_beside (drop i xs) [] refl
  nothing_left (x ∷ xs) (y ∷ ys) (suc i) l = nothing_left xs ys i (omega arith)

  -- after the last place all was said
  pub all_beside : (xs : List A) (ys : List B) (i : ℕ) (out whole : List ℕ) → length xs ≤ i
      → out ++ rest xs ys i ≡ whole → out ≡ whole
  all_beside xs ys i out whole l left =
      sym (ap (λ zs. out ++ zs) (nothing_left xs ys i l) ∙ append-nil out) ∙ left
