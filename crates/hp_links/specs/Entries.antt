-- Networks in reading order: a list is followed by its parts.
use Rattle.std.specs.Prelude.{ℕ, ◌<◌, ◌≤◌, List, [], ◌∷◌, length, take, drop}
use Rattle.hp_syntax.specs.Terms.{Term}
use Rattle.hp_syntax.specs.Networks as plain
use Rattle.hp_syntax.specs.Networks.{Network}
use Rattle.hp_eval.specs.GoalViews.{term_at, as_networks}
use Rattle.hp_links.specs.declared.entry.Entry.{Entry}
use Rattle.hp_links.specs.declared.entry.Entry.TheVariants.{Task, List as Parts}
use Rattle.hp_links.specs.Labelled.{listed}

-- the networks of entries, one behind another; a list takes its parts from the networks behind it
abbrev pub forest : List Term → List Entry → List Network
forest terms [] = []
forest terms (Task cell immediate ∷ es) = plain.Task (term_at terms cell) immediate ∷ forest terms es
forest terms (Parts order n ∷ es) =
    listed order (as_networks (take n (forest terms es))) ∷ drop n (forest terms es)

-- each list has two parts or more behind it
abbrev pub AreClosed : List Entry → Type 0
AreClosed [] = Unit {0}
AreClosed (Task cell immediate ∷ es) = AreClosed es
AreClosed (Parts order n ∷ es) = (2 ≤ n) × (n ≤ length (forest [] es)) × AreClosed es

-- each task's cell is below a count
abbrev pub EntryBelow : ℕ → Entry → Type 0
EntryBelow n (Task cell immediate) = cell < n
EntryBelow n (Parts order m) = Unit {0}
