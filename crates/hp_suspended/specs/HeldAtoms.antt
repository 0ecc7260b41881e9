-- Atoms whose parts all stand for terms: the list of these, and whether an atom of a term stands at a place.
use Rattle.std.specs.Prelude.{◌≡◌, ℕ, ◌<◌, Bool, true, false, List, Option, Some, slice_get}
use Rattle.hp_syntax.specs.declared.limits.TheConstants.{DEEPEST_TERM}
use Rattle.hp_syntax.specs.Syntax.{Pattern, Patterns, NoPattern, Before}
use Rattle.hp_syntax.specs.Terms.{Term, Terms, Listed, NoTerm, More, deepest, term_nesting}
use Rattle.hp_syntax.specs.Values.{Bindings}
use Rattle.hp_syntax.specs.Goals.{Known}
use Rattle.hp_cells.specs.Cells.{LooksUp}
use Rattle.hp_suspended.specs.SimpleAtoms.{part_filled}

-- variables, symbols and numbers are filled to these terms
abbrev pub StandFor : Patterns → Bindings → Terms → Type 0
StandFor NoPattern e NoTerm = Unit {0}
StandFor NoPattern e (More t ts) = ⊥
StandFor (Before p ps) e NoTerm = ⊥
StandFor (Before p ps) e (More t ts) = (part_filled p e ≡ Known t) × StandFor ps e ts

-- a cell names what a pattern is filled to, which nests less deep than terms may
pub record IsShallowCellOf (terms : List Term) (e : Bindings) (p : Pattern) (cell : ℕ) : Type 0 where
  pub term : Term
  pub names : slice_get terms cell ≡ Some term
  pub filled : part_filled p e ≡ Known term
  pub shallow : term_nesting term < DEEPEST_TERM

-- patterns are filled to terms that nest less deep than terms may, and the cell is that of their list, if it has one
pub record IsListOf (terms : List Term) (e : Bindings) (ps : Patterns) (cell : Option ℕ) : Type 0 where
  pub parts : Terms
  pub stand : StandFor ps e parts
  pub shallow : deepest parts < DEEPEST_TERM
  pub names : LooksUp (Listed parts) terms cell

-- at the place stands the atom of a term
abbrev pub HoldsAt : List Term → List (Option ℕ) → Term → ℕ → Type 0
HoldsAt terms places t i = (atom : ℕ) × (slice_get places i ≡ Some (Some atom)) × (slice_get terms atom ≡ Some t)

-- whether the atom of a term stands at a place: at one alone
abbrev pub IsHeld : Bool → List Term → List (Option ℕ) → Term → Type 0
IsHeld true terms places t = (i : ℕ) × HoldsAt terms places t i × ((j : ℕ) → HoldsAt terms places t j → j ≡ i)
IsHeld false terms places t = (i : ℕ) → HoldsAt terms places t i → ⊥
