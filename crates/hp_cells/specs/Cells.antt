-- The terms that cells name.
use Rattle.std.specs.Prelude.{◌≡◌, ℕ, ◌<◌, cond, List, [], ◌∷◌, ◌++◌, slice_get, Option, Some, None}
use Rattle.hp_syntax.specs.Terms.{Term, Terms, Listed, NoTerm, More, member}

-- no item stands at two places
abbrev pub AreDistinct : {X : Type 0} → List X → Type 0
AreDistinct {X} xs = (i j : ℕ) (x : X) → slice_get xs i ≡ Some x → slice_get xs j ≡ Some x → i ≡ j

-- the item stands nowhere
abbrev pub IsAbsent : {X : Type 0} → List X → X → Type 0
IsAbsent xs x = (i : ℕ) → slice_get xs i ≡ Some x → ⊥

-- the answer is a place at which the item stands, and none where it stands nowhere
abbrev pub LooksUp : {X : Type 0} → X → List X → Option ℕ → Type 0
LooksUp x xs None = IsAbsent xs x
LooksUp x xs (Some place) = slice_get xs place ≡ Some x

-- a term stands before a place
abbrev pub StandsBefore : List Term → ℕ → Term → Type 0
StandsBefore terms i t = (j : ℕ) × (j < i) × (slice_get terms j ≡ Some t)

-- the terms of cells, by their places: distinct, the empty list first, and of each other list its first part and its
-- remainder earlier
pub record AreCells (terms : List Term) : Type 0 where
  pub first : slice_get terms 0 ≡ Some (Listed NoTerm)
  pub distinct : AreDistinct terms
  pub parts : (i : ℕ) (x : Term) (xs : Terms) → slice_get terms i ≡ Some (Listed (More x xs))
      → StandsBefore terms i x × StandsBefore terms i (Listed xs)

-- the cell names a list
abbrev pub NamesList : List Term → ℕ → Type 0
NamesList terms cell = (ts : Terms) × (slice_get terms cell ≡ Some (Listed ts))

-- the terms with one more, where it is absent
abbrev pub interned : Term → List Term → List Term
interned t terms = cond (member t terms) terms (terms ++ t ∷ [])

-- the cell names the term among the new terms, which are the old ones and, where it was absent, the term behind them
pub record Interns (t : Term) (cell : ℕ) (old new : List Term) : Type 0 where
  pub names : slice_get new cell ≡ Some t
  pub only : new ≡ interned t old

-- the term is a list, of which one cell names the first part and the other the list of the others
pub record IsCons (terms : List Term) (head tail : ℕ) (t : Term) : Type 0 where
  pub first : Term
  pub rest : Terms
  pub head_names : slice_get terms head ≡ Some first
  pub tail_names : slice_get terms tail ≡ Some (Listed rest)
  pub whole : t ≡ Listed (More first rest)
