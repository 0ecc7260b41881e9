-- What remarks in memory, lists of atoms and tables say.
use Rattle.std.specs.Prelude.{◌≡◌, ℕ, Bool, ◌||◌, ◌&&◌, not, Option, None, Some, List, [], ◌++◌, map, bytes_eq, nat_eq, nat_le, Vec}
use Rattle.std.specs.Global.{Global}
use Rattle.std.specs.Borrow.{Bor}
use Rattle.std.specs.List.{list_any}
use Rattle.indexmap.specs.IndexMap.{get}
use Rattle.indexmap.specs.IndexSet.{contains}
use Rattle.hp_syntax.specs.declared.pattern.AtomPat.{AtomPat}
use Rattle.hp_syntax.specs.Syntax as syntax
use Rattle.hp_syntax.specs.Views.{atom_of}
use Rattle.hp_lint.specs.declared.report.Remark.{Remark}
use Rattle.hp_lint.specs.declared.table.Width.{Width}
use Rattle.hp_lint.specs.declared.table.Table.{Table}
use Rattle.hp_lint.specs.declared.uses.Use.{Use}
use Rattle.hp_lint.specs.declared.variables.Counts.{Counts}
use Rattle.hp_lint.specs.Remarked as plain
use Rattle.hp_lint.specs.Fitting.{agree, any_width, fits_as, width}
use Rattle.hp_lint.specs.Variables.{times}

abbrev pub remark_of : Remark → plain.Remark
remark_of r = record { concern = r.concern; in_problem = r.in_problem; span = r.span; name = r.name }

-- behind some remarks came these
abbrev pub Told : List plain.Remark → List Remark → List Remark → Type 0
Told more old new = map remark_of new ≡ map remark_of old ++ more

-- ---- lists of atoms

abbrev pub lent : Bor AtomPat → syntax.Atom
lent a = atom_of a.now

abbrev pub lent_atoms : List (Bor AtomPat) → List syntax.Atom
lent_atoms as' = map lent as'

-- behind some atoms came these
abbrev pub Lists : List syntax.Atom → List (Bor AtomPat) → List (Bor AtomPat) → Type 0
Lists more old new = lent_atoms new ≡ lent_atoms old ++ more

-- ---- tables

abbrev pub listed : Option (Vec Width Global) → List Width
listed None = []
listed (Some widths) = widths.items

-- whether a number of arguments agrees with one that stands under the name
abbrev pub accepts : Table → List ℕ → Width → Bool
accepts table name w = list_any (agree w) (listed (get bytes_eq table.widths name))

abbrev pub accepts_atom : Table → syntax.Atom → Bool
accepts_atom table a = accepts table a.name (width a)

abbrev pub accepts_name : Table → List ℕ → Bool
accepts_name table name = accepts table name any_width

-- these atoms came to those that a table knows
abbrev pub Learns : List syntax.Atom → Table → Table → Type 0
Learns more old new =
    (name : List ℕ) (w : Width) → accepts new name w ≡ (accepts old name w || list_any (fits_as name w) more)

-- a table knows these atoms and no others
abbrev pub Knows : List syntax.Atom → Table → Type 0
Knows atoms table = (name : List ℕ) (w : Width) → accepts table name w ≡ list_any (fits_as name w) atoms

-- ---- variables

-- the variables of these places are those that were seen, and those of more than one place those that were seen again
abbrev pub Counted : List Use → Counts → Type 0
Counted uses counts =
    (v : ℕ) → (contains nat_eq counts.seen v ≡ nat_le 1 (times v uses))
    × (contains nat_eq counts.again v ≡ nat_le 2 (times v uses))

abbrev pub is_seen : Counts → ℕ → Bool
is_seen counts v = contains nat_eq counts.seen v

abbrev pub is_seen_once : Counts → ℕ → Bool
is_seen_once counts v = is_seen counts v && not (contains nat_eq counts.again v)

-- what is known around a part, and what it binds itself
abbrev pub either_seen : Counts → Counts → ℕ → Bool
either_seen around own v = is_seen around v || is_seen own v
