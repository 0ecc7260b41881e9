-- What says a term: a pattern, and an atom where the term is one.
use Rattle.std.specs.Prelude.{◌≡◌, Bool, false, true, List, map, Option, None, Some}
use Rattle.std.specs.List.{All}
use Rattle.hp_syntax.specs.declared.pattern.AtomPat.{AtomPat}
use Rattle.hp_syntax.specs.GroundPatterns.{IsGroundAtom, IsGroundPattern, atom_said, term_said}
use Rattle.hp_syntax.specs.Syntax as syntax
use Rattle.hp_syntax.specs.Terms.{Term, Terms, Symbol, Number, Listed, NoTerm, More}
use Rattle.hp_syntax.specs.Views.{atom_of}

-- ---- terms that are atoms

abbrev pub begins_with_symbol : Terms → Bool
begins_with_symbol NoTerm = false
begins_with_symbol (More (Symbol name) ts) = true
begins_with_symbol (More (Number n) ts) = false
begins_with_symbol (More (Listed us) ts) = false

-- an atom is a list that begins with a symbol
abbrev pub is_atom : Term → Bool
is_atom (Symbol name) = false
is_atom (Number n) = false
is_atom (Listed ts) = begins_with_symbol ts

-- ---- patterns that say terms

-- a pattern holds no variable and no call, and says this term
pub record Says (p : syntax.Pattern) (t : Term) : Type 0 where
  pub is_ground : IsGroundPattern p
  pub term : term_said p ≡ t

-- patterns say these terms
pub record AllSay (ps : List syntax.Pattern) (ts : List Term) : Type 0 where
  pub are_ground : All IsGroundPattern ps
  pub terms : map term_said ps ≡ ts

-- an atom says this term
pub record SaysAtom (a : syntax.Atom) (t : Term) : Type 0 where
  pub is_ground : IsGroundAtom a
  pub term : atom_said a ≡ t

-- there is an atom that says this term, where it is one
abbrev pub SaysIfAtom : Option AtomPat → Term → Type 0
SaysIfAtom None t = is_atom t ≡ false
SaysIfAtom (Some a) t = (is_atom t ≡ true) × SaysAtom (atom_of a) t
