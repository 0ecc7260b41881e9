-- Tables of names and keys, and the terms that their keys stand for.
use Rattle.std.specs.Prelude.{◌≡◌, ℕ, List}
use Rattle.hp_syntax.specs.Terms.{Term, term_nesting}
use Rattle.hp_cells.specs.Keys.{Stands, terms_of, AreInterned}
use Rattle.hp_cells.specs.declared.keys.Key.{Key}
use Rattle.hp_cells.specs.declared.table.Table.{Table}

-- the terms of a table
abbrev pub terms_in : Table → List Term
terms_in table = terms_of table.names.keys table.keys.keys

-- the key stands for the term in a table
abbrev pub StandsIn : Table → Key → Term → Type 0
StandsIn table key t = Stands table.names.keys (terms_in table) key t

-- the key stands in a table for a term that nests so deep
pub record StandsAtDepth (table : Table) (key : Key) (depth : ℕ) : Type 0 where
  pub term : Term
  pub stands : StandsIn table key term
  pub nests : depth ≡ term_nesting term

-- the names, keys and depths of a table belong together
abbrev pub IsSound : Table → Type 0
IsSound table = AreInterned table.names.keys table.keys.keys table.depths.items
