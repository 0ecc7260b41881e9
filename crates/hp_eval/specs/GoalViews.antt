-- The plain goal that a goal in memory stands for among some terms, and the network that a tree of tasks stands for.
use Rattle.std.specs.Prelude.{◌≡◌, ℕ, Bool, true, nat_lt, List, [], ◌∷◌, map, Option, Some, None, slice_get}
use Rattle.std.specs.List.{All, list_all}
use Rattle.hp_syntax.specs.Terms.{Term, Terms, Listed, NoTerm, More}
use Rattle.hp_syntax.specs.Goals as plain
use Rattle.hp_syntax.specs.Networks as networks
use Rattle.hp_syntax.specs.Networks.{Network, Networks}
use Rattle.hp_eval.specs.declared.goals.Filled.{Filled}
use Rattle.hp_eval.specs.declared.goals.Filled.TheOpen.{Filled-F}
use Rattle.hp_eval.specs.declared.goals.Filled.TheOpen as open_filled
use Rattle.hp_eval.specs.declared.goals.Filled.TheFolds.{fold-Filled}
use Rattle.hp_eval.specs.declared.goals.Goal.{Goal}
use Rattle.hp_eval.specs.declared.tasks.TaskTree.{TaskTree}
use Rattle.hp_eval.specs.declared.tasks.TaskTree.TheOpen.{TaskTree-F}
use Rattle.hp_eval.specs.declared.tasks.TaskTree.TheOpen as open_trees
use Rattle.hp_eval.specs.declared.tasks.TaskTree.TheFolds.{fold-TaskTree}

abbrev pub term_or_nil : Option Term → Term
term_or_nil None = Listed NoTerm
term_or_nil (Some t) = t

-- the term that a cell names
abbrev pub term_at : List Term → ℕ → Term
term_at terms cell = term_or_nil (slice_get terms cell)

-- terms in a row, as the parts of a list
abbrev pub row_of : List Term → Terms
row_of [] = NoTerm
row_of (t ∷ ts) = More t (row_of ts)

-- ---- goals

abbrev pub as_fillings : List plain.Filled → plain.Fillings
as_fillings [] = plain.NoFilling
as_fillings (f ∷ fs) = plain.Then f (as_fillings fs)

abbrev pub filled_layer : List Term → Filled-F plain.Filled → plain.Filled
filled_layer terms (open_filled.Known cell) = plain.Known (term_at terms cell)
filled_layer terms (open_filled.Free v) = plain.Free v
filled_layer terms (open_filled.List parts tail) = plain.Partly (as_fillings parts.items) tail

unfoldable pub filled_of : List Term → Filled → plain.Filled
filled_of terms = fold-Filled plain.Filled (filled_layer terms)

abbrev pub fillings_of : List Term → List Filled → plain.Fillings
fillings_of terms fs = as_fillings (map (filled_of terms) fs)

abbrev pub goal_of : List Term → Goal → plain.Goal
goal_of terms q = record { name = q.name; parts = fillings_of terms q.args.items; tail = q.tail }

-- each cell of a part is below a count
abbrev pub below_layer : ℕ → Filled-F Bool → Bool
below_layer n (open_filled.Known cell) = nat_lt cell n
below_layer n (open_filled.Free v) = true
below_layer n (open_filled.List parts tail) = list_all (λ b. b) parts.items

unfoldable pub is_below : ℕ → Filled → Bool
is_below n = fold-Filled Bool (below_layer n)

abbrev pub GoalBelow : ℕ → Goal → Type 0
GoalBelow n q = All (λ f. is_below n f ≡ true) q.args.items

-- ---- trees of tasks

abbrev pub as_networks : List Network → Networks
as_networks [] = networks.NoNetwork
as_networks (n ∷ ns) = networks.And n (as_networks ns)

abbrev pub tree_layer : List Term → TaskTree-F Network → Network
tree_layer terms (open_trees.Task cell immediate) = networks.Task (term_at terms cell) immediate
tree_layer terms (open_trees.Ordered parts) = networks.Ordered (as_networks parts.items)
tree_layer terms (open_trees.Unordered parts) = networks.Unordered (as_networks parts.items)

unfoldable pub network_of : List Term → TaskTree → Network
network_of terms = fold-TaskTree Network (tree_layer terms)

abbrev pub networks_of : List Term → List TaskTree → Networks
networks_of terms ts = as_networks (map (network_of terms) ts)

-- each cell of a tree is below a count
abbrev pub tree_below_layer : ℕ → TaskTree-F Bool → Bool
tree_below_layer n (open_trees.Task cell immediate) = nat_lt cell n
tree_below_layer n (open_trees.Ordered parts) = list_all (λ b. b) parts.items
tree_below_layer n (open_trees.Unordered parts) = list_all (λ b. b) parts.items

unfoldable pub is_tree_below : ℕ → TaskTree → Bool
is_tree_below n = fold-TaskTree Bool (tree_below_layer n)

abbrev pub TreeBelow : ℕ → TaskTree → Type 0
TreeBelow n t = is_tree_below n t ≡ true

abbrev pub TreesBelow : ℕ → List TaskTree → Type 0
TreesBelow n ts = list_all (λ b. b) (map (is_tree_below n) ts) ≡ true
