-- Texts of numbers that are written one after the other.
use Rattle.std.proofs.Common.{◌≡◌, ℕ, ◌+◌, ◌<◌, ◌≤◌, List, length, map, take, slice_index_or, Option, sym, subst}
use Rattle.std.proofs.lemmas.List.Folds.{flat_map-map}
use Rattle.std.specs.List.{flat_map}
use Rattle.hp_out.specs.Writing.{sink_run, Wrote}
use Rattle.hp_doctor.specs.declared.telling.Halt.{Halt}
use Rattle.hp_doctor.specs.Telling.{Halts}
use Rattle.hp_doctor.proofs.RemarkSteps.{halts_at, wrote_at}

module _ (text : ℕ → List ℕ) (xs : List ℕ) (i : ℕ) (within : i < length xs) where
  -- the texts of some numbers are their texts put together
  joined : (ys : List ℕ) → flat_map (λ t. t) (map text ys) ≡ flat_map text ys
  joined ys = flat_map-map (λ (t : List ℕ). t) text ys

  -- a stop of the text of one number, behind those before it, is one of the text of all
  pub halts_next : (h : Halt) (f g k : ℕ) (a b c : Option (List ℕ)) → f ≤ g → Wrote (flat_map text (take i xs)) a b
      → Halts h (text (slice_index_or xs i 0)) (sink_run g k b c) → Halts h (flat_map text xs) (sink_run f k a c)
  halts_next h f g k a b c e w v =
      subst (λ t. Halts h t (sink_run f k a c)) (joined xs)
      (halts_at (λ (t : List ℕ). t) text xs i 0 within h f g k a b c e
      (subst (λ t. Wrote t a b) (sym (joined (take i xs))) w) v)

  -- the text of one number behind those before it is that of one more
  pub wrote_next : (a b c : Option (List ℕ)) → Wrote (flat_map text (take i xs)) a b
      → Wrote (text (slice_index_or xs i 0)) b c → Wrote (flat_map text (take (i + 1) xs)) a c
  wrote_next a b c w v =
      subst (λ t. Wrote t a c) (joined (take (i + 1) xs))
      (wrote_at (λ (t : List ℕ). t) text xs i 0 within a b c
      (subst (λ t. Wrote t a b) (sym (joined (take i xs))) w) v)
