-- The names of variables with values, one more.
use Rattle.std.proofs.Common.{◌≡◌, ℕ, ◌+◌, List, [], ◌∷◌, ◌++◌, length, slice_get, ap, ◌∙◌, arith}
use Rattle.hp_syntax.specs.Values.{Bindings}
use Rattle.hp_doctor_why.specs.Filled.{filled_from, value_or_name}

-- the last of some names is filled by the value of its place
pub filled_more : (i : ℕ) (names : List (List ℕ)) (name : List ℕ) (e : Bindings)
    → filled_from i (names ++ name ∷ []) e
    ≡ filled_from i names e ++ value_or_name name (slice_get e (i + length names)) ∷ []
filled_more i [] name e =
    let j : i ≡ i + 0 = omega arith in ap (λ k. value_or_name name (slice_get e k) ∷ []) j
filled_more i (x ∷ names) name e =
    let j : (i + 1) + length names ≡ i + length (x ∷ names) = omega arith in
    ap (λ xs. value_or_name x (slice_get e i) ∷ xs)
    (filled_more (i + 1) names name e
    ∙ ap (λ k. filled_from (i + 1) names e ++ value_or_name name (slice_get e k) ∷ []) j)
