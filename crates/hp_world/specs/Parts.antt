-- The parts of atoms: part 0 is the name, and those behind it are the arguments.
use Rattle.std.specs.Prelude.{◌≡◌, ℕ, zero, suc, ◌<◌, List, Option, Some, None, IfSome, length, slice_get}
use Rattle.hp_syntax.specs.Terms.{Term, Terms, Symbol, Number, Listed, NoTerm, More}

-- the part of a list at a place
abbrev pub part_of_list : ℕ → Terms → Option Term
part_of_list n NoTerm = None
part_of_list zero (More t ts) = Some t
part_of_list (suc n) (More t ts) = part_of_list n ts

-- the part of a term at a place
abbrev pub part_of : ℕ → Term → Option Term
part_of n (Symbol name) = None
part_of n (Number m) = None
part_of n (Listed ts) = part_of_list n ts

-- the cell names a part, where cells name these terms; none where there is none
abbrev pub NamesPart : List Term → Option Term → Option ℕ → Type 0
NamesPart terms None None = Unit {0}
NamesPart terms (Some t) (Some key) = slice_get terms key ≡ Some t
NamesPart terms None (Some key) = ⊥
NamesPart terms (Some t) None = ⊥

-- the key of an atom by its part at a place: the cell of that part
abbrev pub IsKeyOf : List Term → ℕ → ℕ → Option ℕ → Type 0
IsKeyOf terms n atom key = (t : Term) → slice_get terms atom ≡ Some t → NamesPart terms (part_of n t) key

-- the atom is a cell, and the key is that of its part at a place, whose cell stands before it
pub record IsKnownBy (terms : List Term) (n : ℕ) (atom : ℕ) (key : Option ℕ) : Type 0 where
  pub is_cell : atom < length terms
  pub has_key : IsKeyOf terms n atom key
  pub part_before : IfSome key (λ k. k < atom)
