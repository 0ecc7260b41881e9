-- Keys, and the terms that they stand for.
use Rattle.std.specs.Prelude.{◌≡◌, ℕ, ◌<◌, ◌^◌, List, [], ◌∷◌, ◌++◌, Some, length, map, slice_get, slice_index_or}
use Rattle.std.specs.List.{fold}
use Rattle.hp_syntax.specs.Terms.{Term, Terms, Symbol, Number, Listed, NoTerm, More, term_nesting}
use Rattle.hp_cells.specs.Cells.{AreDistinct, AreCells, IsCons}
use Rattle.hp_cells.specs.declared.keys.Key.{Key}
use Rattle.hp_cells.specs.declared.keys.Key.TheVariants.{Nil, Sym, Num, Cons}

-- the term is the symbol of the name that has this number
pub record IsSymbolOf (names : List (List ℕ)) (number : ℕ) (t : Term) : Type 0 where
  pub name : List ℕ
  pub numbered : slice_get names number ≡ Some name
  pub whole : t ≡ Symbol name

-- the key stands for the term, where its number is that of one of these names and its cells name these terms
abbrev pub Stands : List (List ℕ) → List Term → Key → Term → Type 0
Stands names terms Nil t = t ≡ Listed NoTerm
Stands names terms (Sym number) t = IsSymbolOf names number t
Stands names terms (Num n) t = t ≡ Number n
Stands names terms (Cons head tail) t = IsCons terms head tail t

-- a key of a symbol has one of so many numbers
abbrev pub IsNumbered : ℕ → Key → Type 0
IsNumbered count Nil = Unit {0}
IsNumbered count (Sym number) = number < count
IsNumbered count (Num n) = Unit {0}
IsNumbered count (Cons head tail) = Unit {0}

-- the key names only cells before this one
abbrev pub KeepsBack : ℕ → Key → Type 0
KeepsBack cell Nil = Unit {0}
KeepsBack cell (Sym number) = Unit {0}
KeepsBack cell (Num n) = Unit {0}
KeepsBack cell (Cons head tail) = (head < cell) × (tail < cell)

-- the parts of a list
abbrev pub parts_of : Term → Terms
parts_of (Listed ts) = ts
parts_of (Symbol name) = NoTerm
parts_of (Number n) = NoTerm

-- the term that a key stands for, where its number is that of one of these names and its cells name these terms
abbrev pub term_of : List (List ℕ) → List Term → Key → Term
term_of names terms Nil = Listed NoTerm
term_of names terms (Sym number) = Symbol (slice_index_or names number [])
term_of names terms (Num n) = Number n
term_of names terms (Cons head tail) =
    let part : ℕ → Term = λ cell. slice_index_or terms cell (Listed NoTerm) in
    Listed (More (part head) (parts_of (part tail)))

-- the terms that keys stand for, each with cells that name those before
unfoldable pub terms_of : List (List ℕ) → List Key → List Term
terms_of names keys = fold (λ terms key. terms ++ term_of names terms key ∷ []) [] keys

-- the key at a place stands for the term there, and names only cells before
pub record IsKeyAt (names : List (List ℕ)) (terms : List Term) (i : ℕ) (key : Key) : Type 0 where
  pub term : Term
  pub at : slice_get terms i ≡ Some term
  pub stands : Stands names terms key term
  pub back : KeepsBack i key

-- the names of symbols, the keys of cells, and the depths of their terms
pub record AreInterned (names : List (List ℕ)) (keys : List Key) (depths : List ℕ) : Type 0 where
  pub cells : AreCells (terms_of names keys)
  pub stand : (i : ℕ) (key : Key) → slice_get keys i ≡ Some key → IsKeyAt names (terms_of names keys) i key
  pub nest : depths ≡ map term_nesting (terms_of names keys)
  pub few : length keys < 2 ^ 32
  pub apart : AreDistinct names
  pub few_names : length names < 2 ^ 32
