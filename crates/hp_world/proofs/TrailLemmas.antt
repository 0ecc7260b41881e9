-- A trail with one more change.
use Rattle.std.proofs.Common.{◌≡◌, ℕ, zero, suc, ◌≤◌, List, [], ◌∷◌, ◌++◌, length, get_or, take, refl, sym, ap, ◌∙◌, subst, arith}
use Rattle.std.proofs.lemmas.List.{take-append-le, length_push}
use Rattle.hp_world.specs.Trails.{unwound, pasts, IsUndoable, Keeps}

-- a list with one more value reads as the list alone does where the value is its default
past_pushed : {A : Type 0} (xs : List A) (x y : A) (m : ℕ) → m ≤ length xs
    → get_or (xs ++ x ∷ []) m y ≡ get_or xs m x
past_pushed [] x y zero h = refl
past_pushed [] x y (suc m) h = absurd (omega arith)
past_pushed (z ∷ xs) x y zero h = refl
past_pushed (z ∷ xs) x y (suc m) h = past_pushed xs x y m (omega arith)

module _ {C S : Type 0} (undone : C → S → S) where
  -- unwinding begins with the last change
  unwound_pushed : (ts : List C) (t : C) (s : S) → unwound undone (ts ++ t ∷ []) s ≡ unwound undone ts (undone t s)
  unwound_pushed [] t s = refl
  unwound_pushed (u ∷ ts) t s = ap (undone u) (unwound_pushed ts t s)

  -- one more change adds what stood before it to the past
  pasts_pushed : (ts : List C) (t : C) (s : S)
      → pasts undone (ts ++ t ∷ []) s ≡ pasts undone ts (undone t s) ++ undone t s ∷ []
  pasts_pushed [] t s = refl
  pasts_pushed (u ∷ ts) t s =
      ap (λ p. p ∷ pasts undone (ts ++ t ∷ []) s) (ap (undone u) (unwound_pushed ts t s))
      ∙ ap (λ ps. unwound undone (u ∷ ts) (undone t s) ∷ ps) (pasts_pushed ts t s)

  -- the past has what stood before each change
  pub length_pasts : (ts : List C) (s : S) → length (pasts undone ts s) ≡ length ts
  length_pasts [] s = refl
  length_pasts (t ∷ ts) s = ap suc (length_pasts ts s)

  -- one more change leaves what stood at an earlier time
  pub past_before : (ts : List C) (t : C) (s : S) (m : ℕ) → m ≤ length ts
      → get_or (pasts undone (ts ++ t ∷ []) s) m s ≡ get_or (pasts undone ts (undone t s)) m (undone t s)
  past_before ts t s m h =
      ap (λ (ps : List S). get_or ps m s) (pasts_pushed ts t s)
      ∙ past_pushed (pasts undone ts (undone t s)) (undone t s) s m (omega (arith, length_pasts ts (undone t s)))

  -- one more change leaves the past before an earlier time
  pub pasts_before : (m : ℕ) (ts : List C) (t : C) (s : S) → m ≤ length ts
      → take m (pasts undone (ts ++ t ∷ []) s) ≡ take m (pasts undone ts (undone t s))
  pasts_before m ts t s h =
      let n : m ≤ length (pasts undone ts (undone t s)) = omega (arith, length_pasts ts (undone t s)) in
      ap (λ (ps : List S). take m ps) (pasts_pushed ts t s)
      ∙ take-append-le m (pasts undone ts (undone t s)) (undone t s ∷ []) n

  -- one more change keeps what stood before
  pub keeps_pushed : (ts : List C) (t : C) (s : S)
      → Keeps (pasts undone ts (undone t s)) (undone t s) (pasts undone (ts ++ t ∷ []) s) s
  keeps_pushed ts t s = record {
    mark =
        omega (arith, length_pasts ts (undone t s), length_pasts (ts ++ t ∷ []) s, length_push ts t);
    past = λ m h. past_before ts t s m (omega (arith, length_pasts ts (undone t s)));
  }

  module _ (Fits : C → S → Type 0) (Good : S → Type 0) where
    -- one more change that fits can be undone where the others could
    pub undoable_pushed : (ts : List C) (t : C) (s : S) → Good s → Fits t s
        → IsUndoable undone Fits Good ts (undone t s) → IsUndoable undone Fits Good (ts ++ t ∷ []) s
    undoable_pushed [] t s d f h = (f, h, d)
    undoable_pushed (u ∷ ts) t s d f h =
        let e = sym (unwound_pushed ts t s) in (
          subst (λ (r : S). Fits u r) e h.0,
          subst (λ (r : S). Good (undone u r)) e h.1,
          undoable_pushed ts t s d f h.2,
        )

    -- where a trail can be undone its last change fits, and the others can be undone before it
    pub undoable_popped : (ts : List C) (t : C) (s : S) → IsUndoable undone Fits Good (ts ++ t ∷ []) s
        → Fits t s × IsUndoable undone Fits Good ts (undone t s)
    undoable_popped [] t s h = (h.0, h.1)
    undoable_popped (u ∷ ts) t s h =
        let e = unwound_pushed ts t s in
        let r = undoable_popped ts t s h.2 in
        (r.0, (subst (λ (q : S). Fits u q) e h.0, subst (λ (q : S). Good (undone u q)) e h.1, r.1))

    -- a trail can be undone also where more fits
    pub undoable_weaker : (More : C → S → Type 0) → ((t : C) (s : S) → Fits t s → More t s)
        → (ts : List C) (s : S) → IsUndoable undone Fits Good ts s → IsUndoable undone More Good ts s
    undoable_weaker More more [] s h = h
    undoable_weaker More more (t ∷ ts) s h =
        (more t (unwound undone ts s) h.0, h.1, undoable_weaker More more ts s h.2)
