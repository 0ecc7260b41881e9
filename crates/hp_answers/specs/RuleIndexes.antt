-- The rules of a domain by their names and their places.
use Rattle.std.specs.Prelude.{◌≡◌, ℕ, ◌+◌, ◌≤◌, cond, List, [], ◌∷◌, length, Option, slice_get}
use Rattle.std.specs.Option.{option_and_then}
use Rattle.std.specs.List.{All}
use Rattle.hp_syntax.specs.declared.limits.TheConstants.{MOST_VARIABLES}
use Rattle.hp_syntax.specs.Syntax.{Rule, Axiom}
use Rattle.hp_syntax.specs.Events.{axiom_if}
use Rattle.hp_laws.specs.RulesByName.{is_name}
use Rattle.hp_tables.specs.declared.Kind.{Kind}
use Rattle.hp_tables.specs.declared.Table.{Table}
use Rattle.hp_tables.specs.Tables.{name_as, places_in}

-- the axiom that is the rule of a place
abbrev pub axiom_at : List Rule → ℕ → Option Axiom
axiom_at rules i = option_and_then axiom_if (slice_get rules i)

-- each axiom has few variables
abbrev pub AreFew : List Axiom → Type 0
AreFew axioms = All (λ x. length x.vars ≤ MOST_VARIABLES) axioms

-- the places of the rules of a kind that have a name, where the first of these rules has this place
abbrev pub places_from : Kind → List ℕ → ℕ → List Rule → List ℕ
places_from kind name i [] = []
places_from kind name i (r ∷ rs) =
    cond (is_name name (name_as kind r)) (i ∷ places_from kind name (i + 1) rs) (places_from kind name (i + 1) rs)

-- a table has the rules of a kind by their names
abbrev pub IsTableOf : Kind → List Rule → Table → Type 0
IsTableOf kind rules table = (name : List ℕ) → places_in table name ≡ places_from kind name 0 rules
