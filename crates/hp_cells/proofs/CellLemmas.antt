-- The terms of cells, as they grow and are cut.
use Rattle.std.proofs.Common.{◌≡◌, ◌↔◌, ℕ, zero, suc, ◌+◌, ◌<◌, ◌≤◌, Bool, true, false, cond, List, [], ◌∷◌, ◌++◌, Some, ◌⊎◌, inl, inr, length, take, slice_get, refl, sym, ap, subst, ◌∙◌, arith}
use Rattle.std.proofs.lemmas.Option.{same_Some}
use Rattle.hp_syntax.specs.Terms.{Term, Terms, Symbol, Number, Listed, NoTerm, More, same_term, term_nesting, member}
use Rattle.hp_cells.specs.Cells.{IsAbsent, AreCells, StandsBefore, interned}
use Rattle.hp_cells.proofs.PlaceLemmas.{same_in_longer, kept, before_or_last, stays, stood, some_passes, distinct_push, inserted_behind}
use Rattle.hp_syntax.proofs.TermEquality.{same_sound, same_self}

-- two terms stand before a place
abbrev pub StandBefore : List Term → ℕ → Term → Term → Type 0
StandBefore terms i x y = StandsBefore terms i x × StandsBefore terms i y

-- of a list the first part and the remainder stand before a place
abbrev pub HasPartsBefore : List Term → ℕ → Term → Type 0
HasPartsBefore terms i t = (x : Term) (xs : Terms) → t ≡ Listed (More x xs) → StandBefore terms i x (Listed xs)

-- what stands before a place stands before it also among more terms
before_among_more : (terms more : List Term) (i : ℕ) (x y : Term) → StandBefore terms i x y
    → StandBefore (terms ++ more) i x y
before_among_more terms more i x y s =
    ((s.0.0, s.0.1, kept terms more s.0.0 x s.0.2), (s.1.0, s.1.1, kept terms more s.1.0 y s.1.2))

-- an absent term whose parts stand before may come behind the terms of cells
pub cells_push : (terms : List Term) (t : Term) → AreCells terms → IsAbsent terms t
    → HasPartsBefore terms (length terms) t → AreCells (terms ++ t ∷ [])
cells_push terms t cells absent parts = record {
  first = kept terms (t ∷ []) 0 _ cells.first;
  distinct = distinct_push terms t cells.distinct absent;
  parts = λ i x xs h. by i x xs (before_or_last terms t i _ h);
}
  where
    by : (i : ℕ) (x : Term) (xs : Terms)
        → (slice_get terms i ≡ Some (Listed (More x xs))) ⊎ ((i ≡ length terms) × (t ≡ Listed (More x xs)))
        → StandBefore (terms ++ t ∷ []) i x (Listed xs)
    by i x xs (inl p) = before_among_more terms (t ∷ []) i x (Listed xs) (cells.parts i x xs p)
    by i x xs (inr p) =
        let s = before_among_more terms (t ∷ []) (length terms) x (Listed xs) (parts x xs p.1) in
        subst (λ k. StandBefore (terms ++ t ∷ []) k x (Listed xs)) (sym p.0) s

-- the first terms of cells are those of cells
pub cells_take : (n : ℕ) (terms : List Term) → 1 ≤ n → AreCells terms → AreCells (take n terms)
cells_take n terms some cells = record {
  first = stays n terms 0 (omega arith) ∙ cells.first;
  distinct = λ i j t h k. cells.distinct i j t (stood n terms i t h).1 (stood n terms j t k).1;
  parts = λ i x xs h. (
      let p = stood n terms i _ h in
      let s = cells.parts i x xs p.1 in
      (narrower i x p.0 s.0, narrower i (Listed xs) p.0 s.1));
}
  where
    narrower : (i : ℕ) (t : Term) → i < n → StandsBefore terms i t → StandsBefore (take n terms) i t
    narrower i t h s = (s.0, s.1, stays n terms s.0 (omega arith) ∙ s.2)

-- a term nests no deeper than its place is far
pub nesting_bounded : (terms : List Term) → AreCells terms → (n i : ℕ) (t : Term) → i < n → slice_get terms i ≡ Some t
    → term_nesting t ≤ i + 1
nesting_bounded terms cells zero i t h e = absurd (omega arith)
nesting_bounded terms cells (suc n) i (Symbol name) h e = omega arith
nesting_bounded terms cells (suc n) i (Number m) h e = omega arith
nesting_bounded terms cells (suc n) i (Listed NoTerm) h e = omega arith
nesting_bounded terms cells (suc n) i (Listed (More x xs)) h e =
    let s = cells.parts i x xs e in
    let first = nesting_bounded terms cells n s.0.0 x (omega arith) s.0.2 in
    let rest = nesting_bounded terms cells n s.1.0 (Listed xs) (omega arith) s.1.2 in
    omega arith

-- interning a term that stands somewhere changes nothing
pub interned_present : (t : Term) (terms : List Term) (i : ℕ) → slice_get terms i ≡ Some t → interned t terms ≡ terms
interned_present t terms i h =
    ap (λ b. cond b terms (terms ++ t ∷ [])) (some_passes (same_term t) terms i t h (same_self t))

-- interning an absent term puts it behind the others
pub interned_absent : (t : Term) (terms : List Term) → IsAbsent terms t → interned t terms ≡ terms ++ t ∷ []
interned_absent t terms absent = inserted_behind same_term same_sound terms t absent

-- a cell keeps its term while others are interned
pub earlier_stay : (t : Term) (old : List Term) (i : ℕ) → i < length old
    → slice_get (interned t old) i ≡ slice_get old i
earlier_stay t old i h = by (member t old)
  where
    by : (b : Bool) → slice_get (cond b old (old ++ t ∷ [])) i ≡ slice_get old i
    by true = refl
    by false = same_in_longer old (t ∷ []) i h

-- two cells are equal exactly where their terms are
pub told_apart : (terms : List Term) (i j : ℕ) (x y : Term) → AreCells terms → slice_get terms i ≡ Some x
    → slice_get terms j ≡ Some y → (i ≡ j) ↔ (x ≡ y)
told_apart terms i j x y cells h k =
    (λ e. same_Some x y (sym h ∙ ap (slice_get terms) e ∙ k), λ e. cells.distinct i j y (h ∙ ap Some e) k)
