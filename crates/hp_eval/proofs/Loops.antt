-- Loops over a list, whose invariant speaks of the part of the list that is left: values that are computed one by one,
-- up to the first fault.
use Rattle.std.proofs.Common.{◌≡◌, ℕ, ◌+◌, ◌<◌, ◌≤◌, List, [], ◌∷◌, ◌++◌, length, drop, get_or, slice_get, Some, Result, Ok, Err, refl, ap, sym, ◌∙◌}
use Rattle.std.proofs.lemmas.List.{drop_more, drop_all}
use Rattle.std.proofs.lemmas.Option.{slice_get_within, get_or_from_slice_get}
use Rattle.hp_syntax.specs.declared.fault.RunFault.{RunFault}
use Rattle.hp_syntax.specs.Values.{on_ok}
use Rattle.hp_eval.specs.Steps.{in_front}

-- the part that is left begins with the element read
pub left_more : {X : Type 0} (xs : List X) (i : ℕ) (x : X) → i < length xs → x ≡ get_or xs i x
    → drop i xs ≡ x ∷ drop (i + 1) xs
left_more xs i x lt is = drop_more xs i x lt ∙ ap (λ y. y ∷ drop (i + 1) xs) (sym is)

-- so it does with what stands at a place
pub left_at : {X : Type 0} (xs : List X) (i : ℕ) (x : X) → slice_get xs i ≡ Some x → drop i xs ≡ x ∷ drop (i + 1) xs
left_at xs i x h = left_more xs i x (slice_get_within xs i x h) (sym (get_or_from_slice_get xs i x x h))

-- values with one more behind them stand before a list as they do before that value and the list
pub in_front_push : {V W : Type 0} (cons : V → W → W) (vs : List V) (v : V) (w : W)
    → in_front cons (vs ++ v ∷ []) w ≡ in_front cons vs (cons v w)
in_front_push cons [] v w = refl
in_front_push cons (u ∷ us) v w = ap (cons u) (in_front_push cons us v w)

-- values in front of no value are the list of them
pub list_in_front : {V : Type 0} (vs : List V) → in_front ◌∷◌ vs [] ≡ vs
list_in_front [] = refl
list_in_front (v ∷ vs) = ap (λ us. v ∷ us) (list_in_front vs)

-- the values that are left, behind those that are there
abbrev pub behind : {V W : Type 0} → (V → W → W) → List V → Result W RunFault → Result W RunFault
behind cons vs r = on_ok r (λ w. Ok (in_front cons vs w))

-- behind no value what is left is the whole
pub behind_none : {V W : Type 0} (cons : V → W → W) (r : Result W RunFault) → r ≡ behind cons [] r
behind_none cons (Ok w) = refl
behind_none cons (Err f) = refl

module _ {X V W : Type 0} (one : X → Result V RunFault) (all : List X → Result W RunFault) (cons : V → W → W)
    (step : (x : X) (xs : List X) → all (x ∷ xs) ≡ on_ok (one x) (λ v. on_ok (all xs) (λ w. Ok (cons v w)))) where
  -- the next value goes behind those that are there
  later : (r : Result W RunFault) (vs : List V) (v : V)
      → behind cons vs (on_ok r (λ w. Ok (cons v w))) ≡ behind cons (vs ++ v ∷ []) r
  later (Ok w) vs v = ap Ok (sym (in_front_push cons vs v w))
  later (Err f) vs v = refl

  module _ (xs : List X) (i : ℕ) (x : X) (old : List V) (whole : Result W RunFault) (lt : i < length xs)
      (is : x ≡ get_or xs i x) (so_far : whole ≡ behind cons old (all (drop i xs))) where
    -- the whole is what comes of the next value
    next_value : whole ≡ behind cons old (on_ok (one x) (λ u. on_ok (all (drop (i + 1) xs)) (λ w. Ok (cons u w))))
    next_value =
        so_far
        ∙ (ap (λ ys. behind cons old (all ys)) (left_more xs i x lt is)
        ∙ ap (behind cons old) (step x (drop (i + 1) xs)))

    -- a value behind those that are there leaves what all come to
    pub values_more : (v : V) (new : List V) → one x ≡ Ok v → new ≡ old ++ v ∷ []
        → whole ≡ behind cons new (all (drop (i + 1) xs))
    values_more v new value grown =
        next_value
        ∙ (ap (λ r. behind cons old (on_ok r (λ u. on_ok (all (drop (i + 1) xs)) (λ w. Ok (cons u w))))) value
        ∙ (later (all (drop (i + 1) xs)) old v ∙ ap (λ vs. behind cons vs (all (drop (i + 1) xs))) (sym grown)))

    -- the first fault is what all come to
    pub values_stop : (f : RunFault) → one x ≡ Err f → whole ≡ Err f
    values_stop f fault =
        next_value
        ∙ ap (λ r. behind cons old (on_ok r (λ u. on_ok (all (drop (i + 1) xs)) (λ w. Ok (cons u w))))) fault

  -- where no element is left, the values that are there are what all come to
  pub values_all : (nil : Result W RunFault) (xs : List X) (i : ℕ) (old : List V) (whole : Result W RunFault)
      → all [] ≡ nil → length xs ≤ i → whole ≡ behind cons old (all (drop i xs)) → whole ≡ behind cons old nil
  values_all nil xs i old whole none le so_far =
      so_far ∙ (ap (λ ys. behind cons old (all ys)) (drop_all i xs le) ∙ ap (behind cons old) none)
