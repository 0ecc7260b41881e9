-- Tables of rules by the names of their heads.
use Rattle.std.specs.Prelude.{◌≡◌, ℕ, Bool, true, false, cond, List, [], ◌∷◌, ◌++◌, Option, None, Some, Result, Ok, Err, bytes_eq, Vec}
use Rattle.std.specs.Global.{Global}
use Rattle.indexmap.specs.IndexMap.{get}
use Rattle.hp_syntax.specs.Syntax.{Rule}
use Rattle.hp_laws.specs.RulesByName.{task_head, axiom_head, is_name}
use Rattle.hp_tables.specs.declared.Kind.{Kind}
use Rattle.hp_tables.specs.declared.Kind.TheVariants.{Task, Axiom}
use Rattle.hp_tables.specs.declared.Table.{Table}

-- the name of a rule's head, where the rule is of a kind
abbrev pub name_as : Kind → Rule → Option (List ℕ)
name_as Task = task_head
name_as Axiom = axiom_head

-- the places of the rules of a kind that have a name, where each rule has the place of its number
abbrev pub places_of : Kind → List ℕ → List ℕ → List Rule → List ℕ
places_of kind name [] rs = []
places_of kind name (i ∷ is) [] = []
places_of kind name (i ∷ is) (r ∷ rs) =
    cond (is_name name (name_as kind r)) (i ∷ places_of kind name is rs) (places_of kind name is rs)

abbrev pub listed : Option (Vec ℕ Global) → List ℕ
listed None = []
listed (Some places) = places.items

-- the places that a table has for a name
abbrev pub places_in : Table → List ℕ → List ℕ
places_in table name = listed (get bytes_eq table.places name)

-- places with one more behind them, or as they are
abbrev pub with_place : Bool → ℕ → List ℕ → List ℕ
with_place true i places = places ++ i ∷ []
with_place false i places = places

-- a place is put behind those of a name, if there is one; after want of memory each name has the places that it had
abbrev pub Adds : {A E : Type 0} → Result A E → Option (List ℕ) → ℕ → Table → Table → Type 0
Adds (Ok _) name i old new = (q : List ℕ) → places_in new q ≡ with_place (is_name q name) i (places_in old q)
Adds (Err _) name i old new = (q : List ℕ) → places_in new q ≡ places_in old q
