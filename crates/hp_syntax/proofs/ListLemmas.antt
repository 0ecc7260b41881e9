-- Lists that are gone through part by part: what they are made into, and how large they are.
use Rattle.std.proofs.Common.{◌≡◌, ℕ, zero, suc, ◌+◌, ◌-◌, ◌<◌, ◌≤◌, List, [], ◌∷◌, ◌++◌, length, get_or, take, drop, ap, sym, ◌∙◌, append_assoc, arith}
use Rattle.std.proofs.lemmas.List.{drop_more}
use Rattle.std.proofs.lemmas.Grind.{common_steps}

module _ {X A : Type 0} (rest : List X → List A) (part : X → List A) (xs : List X) (i : ℕ) (x : X) where
  -- one more part that is made leaves the whole, of the made parts and the parts that are left, as it was
  pub made_on : (old new whole : List A) → ((y : X) (ys : List X) → rest (y ∷ ys) ≡ part y ++ rest ys)
      → i < length xs → x ≡ get_or xs i x → old ++ rest (drop i xs) ≡ whole → new ≡ old ++ part x
      → new ++ rest (drop (i + 1) xs) ≡ whole
  made_on old new whole step below at left put =
      let behind = drop (i + 1) xs in
      let here : drop i xs ≡ x ∷ behind = drop_more xs i x below ∙ ap (λ y. y ∷ behind) (sym at) in
      ap (λ zs. zs ++ rest behind) put
      ∙ (append_assoc old (part x) (rest behind)
      ∙ (ap (λ zs. old ++ zs) (sym (ap rest here ∙ step x behind)) ∙ left))

module _ {X : Type 0} (size : X → ℕ) (sizes : List X → ℕ)
    (step : (x : X) (xs : List X) → sizes (x ∷ xs) ≡ size x + sizes xs + 1) where
  -- each element is smaller than the list
  pub element-smaller : (xs : List X) (i : ℕ) (x : X) → i < length xs → x ≡ get_or xs i x → size x < sizes xs
  element-smaller [] i x h at = absurd (omega arith)
  element-smaller (y ∷ ys) zero x h at = let same = ap size at in let all = step y ys in omega arith
  element-smaller (y ∷ ys) (suc i) x h at =
      let below : i < length ys = omega arith in
      let smaller = element-smaller ys i x below at in
      let all = step y ys in omega arith

  -- the elements behind the first are smaller than the list
  pub others-smaller : (xs : List X) → 1 ≤ length xs → sizes (take (length xs - 1) (drop 1 xs)) < sizes xs
  others-smaller [] h = absurd (omega arith)
  others-smaller (y ∷ ys) h =
      let same : take (length (y ∷ ys) - 1) (drop 1 (y ∷ ys)) ≡ ys = grind (arith, common_steps) in
      let fewer : sizes (take (length (y ∷ ys) - 1) (drop 1 (y ∷ ys))) ≡ sizes ys = ap sizes same in
      let all = step y ys in omega arith
