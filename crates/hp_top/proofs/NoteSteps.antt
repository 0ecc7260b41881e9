-- Notes that are written one after the other.
use Rattle.std.proofs.Common.{◌≡◌, ℕ, ◌+◌, ◌<◌, ◌≤◌, List, [], ◌∷◌, ◌++◌, length, map, take, drop, slice_index_or, Option, ap, sym, subst, ◌∙◌, arith, append_assoc, append-nil, add-one}
use Rattle.std.proofs.lemmas.List.Folds.{flat_map-map}
use Rattle.std.specs.List.{flat_map}
use Rattle.std.specs.Prelude.{zero, suc}
use Rattle.hp_out.specs.Writing.{Wrote, sink_run}
use Rattle.hp_out.proofs.WriteSteps.{seam, wrote_both}
use Rattle.hp_telling.specs.declared.halt.Halt.{Halt}
use Rattle.hp_telling.specs.Telling.{Halts}
use Rattle.hp_telling.proofs.TellingLemmas.{halts_longer, halts_after}

-- one element more comes to its text behind those before it
flat_map-take : {X A : Type 0} (f : X → List A) (xs : List X) (i : ℕ) (d : X) → i < length xs
    → flat_map f (take (suc i) xs) ≡ flat_map f (take i xs) ++ f (slice_index_or xs i d)
flat_map-take f [] i d h = absurd (omega (arith, h))
flat_map-take f (x ∷ xs) zero d h = append-nil (f x)
flat_map-take f (x ∷ xs) (suc i) d h =
    ap (λ t. f x ++ t) (flat_map-take f xs i d (omega (arith, h)))
    ∙ sym (append_assoc (f x) (flat_map f (take i xs)) (f (slice_index_or xs i d)))

module _ {X Y : Type 0} (text : Y → List ℕ) (of : X → Y) (xs : List X) (i : ℕ) (d : X) (within : i < length xs) where
  -- a stop of the text of one element, behind those before it, is one of the text of all
  pub halts_within : (h : Halt) (f g k : ℕ) (a b c : Option (List ℕ)) → f ≤ g
      → Wrote (flat_map text (map of (take i xs))) a b
      → Halts h (text (of (slice_index_or xs i d))) (sink_run g k b c)
      → Halts h (flat_map text (map of xs)) (sink_run f k a c)
  halts_within h f g k a b c e w v =
      let x = flat_map (λ z. text (of z)) (take i xs) in
      let y = text (of (slice_index_or xs i d)) in
      let z = flat_map (λ z. text (of z)) (drop (suc i) xs) in
      subst (λ t. Halts h t (sink_run f k a c)) (sym (flat_map-map text of xs ∙ seam (λ z. text (of z)) xs i d within))
      (halts_longer h (x ++ y) z (sink_run f k a c)
      (halts_after h x y f g k a b c e (subst (λ t. Wrote t a b) (flat_map-map text of (take i xs)) w) v))

  -- the text of one element behind those before it is that of one more
  pub wrote_within : (a b c : Option (List ℕ)) → Wrote (flat_map text (map of (take i xs))) a b
      → Wrote (text (of (slice_index_or xs i d))) b c → Wrote (flat_map text (map of (take (i + 1) xs))) a c
  wrote_within a b c w v =
      subst (λ t. Wrote t a c)
      (ap (λ t. t ++ text (of (slice_index_or xs i d))) (flat_map-map text of (take i xs))
      ∙ sym (flat_map-map text of (take (suc i) xs) ∙ flat_map-take (λ z. text (of z)) xs i d within)
      ∙ ap (λ j. flat_map text (map of (take j xs))) (sym (add-one i)))
      (wrote_both (flat_map text (map of (take i xs))) (text (of (slice_index_or xs i d))) a b c w v)
