-- Terms that are added leave those before at their places.
use Rattle.std.proofs.Common.{◌≡◌, ℕ, ◌<◌, ◌≤◌, List, [], ◌∷◌, ◌++◌, length, map, take, drop, slice_get, Some, refl, ap, ap₂, sym, ◌∙◌, subst, arith, append_assoc, length-append}
use Rattle.std.specs.List.{All}
use Rattle.std.proofs.Math.Seq.{take-append_seam, take-length}
use Rattle.std.proofs.lemmas.List.{take-append-drop, take-append-le}
use Rattle.std.proofs.lemmas.List.Elements.{All-weaker, All-head, All-tail}
use Rattle.std.proofs.lemmas.Option.{slice_get_within}
use Rattle.hp_cells.proofs.PlaceLemmas.{same_in_longer}
use Rattle.hp_syntax.specs.Terms.{Term}
use Rattle.hp_eval.specs.GoalViews.{term_or_nil, term_at}
use Rattle.hp_eval.specs.Growth.{Grows}
use Rattle.hp_eval.specs.Slotted.{Slotted, AreBelow, bindings_of}
use Rattle.hp_eval.specs.SlotLaws.{bindings_agree}

-- terms grow into themselves
pub grows_self : (terms : List Term) → Grows terms terms
grows_self terms = take-length terms

-- terms that are the same as before are grown
pub grows_same : (old new : List Term) → new ≡ old → Grows old new
grows_same old new e = subst (Grows old) (sym e) (grows_self old)

-- terms with others behind them are grown
pub grows_behind : (old more : List Term) → Grows old (old ++ more)
grows_behind old more = take-append_seam old more

module _ (old new : List Term) (g : Grows old new) where
  -- the terms before are the prefix of the new terms
  pub prefix : new ≡ old ++ drop (length old) new
  prefix = sym (take-append-drop (length old) new) ∙ ap (λ ts. ts ++ drop (length old) new) g

  -- terms become no fewer
  pub grows_length : length old ≤ length new
  grows_length =
      let e = ap length prefix in
      let l = length-append old (drop (length old) new) in
      omega (arith, e, l)

  -- the terms before stand at their places
  pub stays : (i : ℕ) → i < length old → slice_get new i ≡ slice_get old i
  stays i h = ap (λ ts. slice_get ts i) prefix ∙ same_in_longer old (drop (length old) new) i h

  -- a cell goes on naming its term
  pub still_names : (i : ℕ) (t : Term) → slice_get old i ≡ Some t → slice_get new i ≡ Some t
  still_names i t h = stays i (slice_get_within old i t h) ∙ h

  -- cells of the terms before are cells of the new terms
  pub all_below : (cells : List ℕ) → All (λ c. c < length old) cells → All (λ c. c < length new) cells
  all_below cells h =
      All-weaker (λ c. c < length old) (λ c. c < length new) (λ c p. omega (arith, p, grows_length)) cells h

  -- the terms at cells of the terms before stay
  pub terms_stay : (cells : List ℕ) → All (λ c. c < length old) cells
      → map (term_at new) cells ≡ map (term_at old) cells
  terms_stay [] h = refl
  terms_stay (c ∷ cs) h =
      ap₂ ◌∷◌ (ap term_or_nil (stays c (All-head (λ c. c < length old) c cs h)))
      (terms_stay cs (All-tail (λ c. c < length old) c cs h))

  -- the new terms agree with those before below a number of cells that stood
  pub kept_agree : (n : ℕ) → n ≤ length old → take n old ≡ take n new
  kept_agree n h = sym (ap (take n) prefix ∙ take-append-le n old (drop (length old) new) h)

  -- bindings of cells of the terms before stay
  pub bindings_stay : (s : Slotted) → AreBelow (length old) s → bindings_of new s ≡ bindings_of old s
  bindings_stay s h = sym (bindings_agree (length old) old new s h (kept_agree (length old) (omega arith)))

  -- slots stay below the number of terms
  pub below_grows : (s : Slotted) → AreBelow (length old) s → AreBelow (length new) s
  below_grows s h = λ v cell e. omega (arith, h v cell e, grows_length)

-- growing twice is growing
pub grows_on : (a b c : List Term) → Grows a b → Grows b c → Grows a c
grows_on a b c g h =
    let whole : c ≡ a ++ (drop (length a) b ++ drop (length b) c) =
    prefix b c h
    ∙ (ap (λ ts. ts ++ drop (length b) c) (prefix a b g)
    ∙ append_assoc a (drop (length a) b) (drop (length b) c)) in
    ap (take (length a)) whole ∙ take-append_seam a (drop (length a) b ++ drop (length b) c)
