-- The facts of a name.
use Rattle.std.specs.Prelude.{ℕ, Bool, false, List, length, map, take}
use Rattle.std.specs.List.{filter}
use Rattle.hp_cells.specs.Compared.{is_symbol}
use Rattle.hp_syntax.specs.Events.{State}
use Rattle.hp_syntax.specs.GroundViews.{ground_of}
use Rattle.hp_syntax.specs.Terms.{Term, Listed, NoTerm, More, Number, Symbol}
use Rattle.hp_syntax.specs.Walk.{count_told}
use Rattle.hp_obstacles.specs.declared.facts.Facts as made
use Rattle.hp_obstacles.specs.declared.facts.TheConstants.{FACTS_SHOWN}

-- a fact begins with its name
abbrev pub is_fact_of : List ℕ → Term → Bool
is_fact_of name (Symbol own) = false
is_fact_of name (Number n) = false
is_fact_of name (Listed NoTerm) = false
is_fact_of name (Listed (More t ts)) = is_symbol name t

abbrev pub facts_of : List ℕ → State → List Term
facts_of name s = filter (is_fact_of name) s

-- the first facts of some, at most so many as are shown, and how many there are
pub record Facts : Type 0 where
  pub first : List Term
  pub count : ℕ

abbrev pub shown : List Term → Facts
shown all = record { first = take FACTS_SHOWN all; count = count_told (length all) }

-- as they are kept
abbrev pub kept : made.Facts → Facts
kept f = record { first = map ground_of f.first.items; count = f.count }
