-- The normal form of a tree of tasks as entries.
use Rattle.std.specs.Prelude.{◌≡◌, ℕ, nat_lt, cond, List, [], ◌∷◌, ◌++◌, length, slice_set}
use Rattle.std.specs.List.{remove}
use Rattle.hp_syntax.specs.Terms.{Term}
use Rattle.hp_syntax.specs.Networks as plain
use Rattle.hp_syntax.specs.Networks.{Network}
use Rattle.hp_eval.specs.declared.tasks.TaskTree.{TaskTree}
use Rattle.hp_eval.specs.GoalViews.{network_of, networks_of}
use Rattle.hp_links.specs.declared.entry.Order.{Order}
use Rattle.hp_links.specs.declared.entry.Entry.{Entry}
use Rattle.hp_links.specs.declared.entry.Entry.TheVariants.{List as Parts}
use Rattle.hp_links.specs.Labelled.{listed}
use Rattle.hp_links.specs.Entries.{forest, AreClosed}

-- a network, or nothing where it is empty
abbrev pub shown : Network → List Network
shown n = cond (plain.is_empty n) [] (n ∷ [])

-- the normal form of a tree, if it isn't empty
unfoldable pub kept : TaskTree → List Term → List Network
kept t terms = shown (plain.normal (network_of terms t))

-- the normal form of a list, if it isn't empty
unfoldable pub kept_list : Order → List TaskTree → List Term → List Network
kept_list order ts terms = shown (plain.normal (listed order (networks_of terms ts)))

-- the normal forms of trees, without the empty ones
abbrev pub all_kept : List TaskTree → List Term → List Network
all_kept [] terms = []
all_kept (t ∷ ts) terms = kept t terms ++ all_kept ts terms

-- entries before any others add so many networks, each list with all its parts
pub record Reads (networks : List Term → List Network) (many : ℕ) (added : List Entry) : Type 0 where
  pub forest : (terms : List Term) (rest : List Entry)
      → forest terms (added ++ rest) ≡ networks terms ++ forest terms rest
  pub count : (terms : List Term) → length (networks terms) ≡ many
  pub full : (rest : List Entry) → AreClosed rest → AreClosed (added ++ rest)

-- such entries were put behind others
pub record Adds (networks : List Term → List Network) (count : ℕ) (old new : List Entry) : Type 0 where
  pub added : List Entry
  pub is : new ≡ old ++ added
  pub reads : Reads networks count added

-- the entries once the list of this number is known to have so many parts: it goes where it has fewer than two
abbrev pub closed : ℕ → Order → ℕ → List Entry → List Entry
closed at order count es = cond (nat_lt count 2) (remove es at) (slice_set es at (Parts order count))
