-- The networks that trees of tasks stand for.
use Rattle.std.proofs.Common.{◌≡◌, ℕ, ◌<◌, Bool, true, nat_lt, List, [], ◌∷◌, ◌++◌, length, map, refl, ap, ap₂, sym, ◌∙◌, subst, Vec, arith}
use Rattle.std.specs.Global.{Global}
use Rattle.std.specs.List.{list_all}
use Rattle.std.proofs.lemmas.Bool.{and_parts, and_from}
use Rattle.std.proofs.lemmas.Bool.Decides.{nat_tests}
use Rattle.std.proofs.lemmas.List.{map_push}
use Rattle.std.proofs.lemmas.List.Folds.{list_all-append}
use Rattle.hp_syntax.specs.Networks as networks
use Rattle.hp_syntax.specs.Networks.{Network}
use Rattle.hp_syntax.specs.Terms.{Term}
use Rattle.hp_eval.specs.declared.tasks.TaskTree.{TaskTree, out-TaskTree}
use Rattle.hp_eval.specs.declared.tasks.TaskTree.TheVariants as trees
use Rattle.hp_eval.specs.declared.tasks.TaskTree.TheVariants.{outs-Task, outs-Ordered, outs-Unordered}
use Rattle.hp_eval.specs.declared.tasks.TaskTree.TheViews.{roll-TaskTree}
use Rattle.hp_eval.specs.declared.tasks.TaskTree.TheOpen.{TaskTree-F}
use Rattle.hp_eval.specs.declared.tasks.TaskTree.TheOpen as open_trees
use Rattle.hp_eval.specs.declared.tasks.TaskTree.TheFolds.{fold_out-TaskTree, fold-roll-TaskTree, ind-TaskTree, map-TaskTree}
use Rattle.hp_eval.specs.GoalViews.{term_or_nil, term_at, tree_layer, network_of, networks_of, tree_below_layer, is_tree_below, TreeBelow, TreesBelow}
use Rattle.hp_eval.specs.Growth.{Grows}
use Rattle.hp_eval.proofs.GrowthLemmas.{stays, grows_length}

-- ---- variant by variant

network_stands : List Term → TaskTree-F TaskTree → Network
network_stands terms x = tree_layer terms (map-TaskTree TaskTree Network (network_of terms) x)

by_tree : (terms : List Term) (t : TaskTree) (x : TaskTree-F TaskTree) → out-TaskTree t ≡ x
    → network_of terms t ≡ network_stands terms x
unfolding network_stands network_of
by_tree terms t x h = fold_out-TaskTree Network (tree_layer terms) t ∙ ap (network_stands terms) h

-- a task stands for the task that its cell names
pub network_of-task : (terms : List Term) (cell : ℕ) (immediate : Bool)
    → network_of terms (trees.Task cell immediate) ≡ networks.Task (term_at terms cell) immediate
unfolding network_stands
network_of-task terms cell immediate = by_tree terms (trees.Task cell immediate) _ (outs-Task cell immediate)

-- an ordered list stands for that of what its parts stand for
pub network_of-ordered : (terms : List Term) (parts : Vec TaskTree Global)
    → network_of terms (trees.Ordered parts) ≡ networks.Ordered (networks_of terms parts.items)
unfolding network_stands
network_of-ordered terms parts = by_tree terms (trees.Ordered parts) _ (outs-Ordered parts)

-- an unordered list stands for that of what its parts stand for
pub network_of-unordered : (terms : List Term) (parts : Vec TaskTree Global)
    → network_of terms (trees.Unordered parts) ≡ networks.Unordered (networks_of terms parts.items)
unfolding network_stands
network_of-unordered terms parts = by_tree terms (trees.Unordered parts) _ (outs-Unordered parts)

below_stands : ℕ → TaskTree-F TaskTree → Bool
below_stands n x = tree_below_layer n (map-TaskTree TaskTree Bool (is_tree_below n) x)

by_below : (n : ℕ) (t : TaskTree) (x : TaskTree-F TaskTree) → out-TaskTree t ≡ x → is_tree_below n t ≡ below_stands n x
unfolding below_stands is_tree_below
by_below n t x h = fold_out-TaskTree Bool (tree_below_layer n) t ∙ ap (below_stands n) h

over : (m n : ℕ) → m < n → nat_lt m n ≡ true
over m n h = grind (arith, nat_tests)

-- a task is below what its cell is below
pub below-task : (n cell : ℕ) (immediate : Bool) → cell < n → TreeBelow n (trees.Task cell immediate)
unfolding below_stands
below-task n cell immediate h =
    by_below n (trees.Task cell immediate) _ (outs-Task cell immediate) ∙ over cell n h

-- an ordered list is below what its parts are below
pub below-ordered : (n : ℕ) (parts : Vec TaskTree Global) → TreesBelow n parts.items → TreeBelow n (trees.Ordered parts)
unfolding below_stands
below-ordered n parts h = by_below n (trees.Ordered parts) _ (outs-Ordered parts) ∙ h

-- an unordered list is below what its parts are below
pub below-unordered : (n : ℕ) (parts : Vec TaskTree Global) → TreesBelow n parts.items
    → TreeBelow n (trees.Unordered parts)
unfolding below_stands
below-unordered n parts h = by_below n (trees.Unordered parts) _ (outs-Unordered parts) ∙ h

-- ---- as terms are added

module _ (old new : List Term) (g : Grows old new) where
  -- a tree stands for the same network, and its cells stay below
  abbrev Keeps : TaskTree → Type 0
  Keeps t = TreeBelow (length old) t → (network_of new t ≡ network_of old t) × TreeBelow (length new) t

  abbrev Kept : Type 0
  Kept = (t : TaskTree) × Keeps t

  -- trees that keep their networks keep them as a list
  all_kept : (ts : List Kept) → TreesBelow (length old) (map (λ t. t.0) ts)
      → (networks_of new (map (λ t. t.0) ts) ≡ networks_of old (map (λ t. t.0) ts))
      × TreesBelow (length new) (map (λ t. t.0) ts)
  all_kept [] h = (refl, refl)
  all_kept (t ∷ ts) h =
      let p = and_parts (is_tree_below (length old) t.0) _ h in
      let first = t.1 p.0 in
      let others = all_kept ts p.1 in
      (ap₂ networks.And first.0 others.0, and_from (is_tree_below (length new) t.0) _ first.1 others.1)

  -- one layer stands for the same network, and its cells stay below
  abbrev KeepsLayer : TaskTree-F TaskTree → Type 0
  KeepsLayer x = below_stands (length old) x ≡ true
      → (network_stands new x ≡ network_stands old x) × (below_stands (length new) x ≡ true)

  under : (m : ℕ) → nat_lt m (length old) ≡ true → m < length old
  under m h = grind (arith, nat_tests)

  layer_kept : (y : TaskTree-F Kept) → KeepsLayer (map-TaskTree Kept TaskTree (λ t. t.0) y)
  unfolding network_stands below_stands
  layer_kept (open_trees.Task cell immediate) h =
      let before = under cell h in (
        ap (λ t. networks.Task t immediate) (ap term_or_nil (stays old new g cell before)),
        over cell (length new) (omega (arith, before, grows_length old new g)),
      )
  layer_kept (open_trees.Ordered parts) h =
      let k = all_kept parts.items h in
      (ap networks.Ordered k.0, k.1)
  layer_kept (open_trees.Unordered parts) h =
      let k = all_kept parts.items h in
      (ap networks.Unordered k.0, k.1)

  network_rolled : (terms : List Term) (x : TaskTree-F TaskTree)
      → network_of terms (roll-TaskTree x) ≡ network_stands terms x
  unfolding network_stands network_of
  network_rolled terms x = fold-roll-TaskTree Network (tree_layer terms) x

  below_rolled : (n : ℕ) (x : TaskTree-F TaskTree) → is_tree_below n (roll-TaskTree x) ≡ below_stands n x
  unfolding below_stands is_tree_below
  below_rolled n x = fold-roll-TaskTree Bool (tree_below_layer n) x

  -- a tree goes on standing for its network
  pub tree_keeps : (t : TaskTree) → Keeps t
  tree_keeps =
      ind-TaskTree Keeps
      (λ x y is h.
      let k = subst KeepsLayer is (layer_kept y) (sym (below_rolled (length old) x) ∙ h) in
      (network_rolled new x ∙ (k.0 ∙ sym (network_rolled old x)), below_rolled (length new) x ∙ k.1))

  -- trees go on standing for their networks
  pub trees_stay : (ts : List TaskTree) → TreesBelow (length old) ts
      → (map (network_of new) ts ≡ map (network_of old) ts) × TreesBelow (length new) ts
  trees_stay [] h = (refl, refl)
  trees_stay (t ∷ ts) h =
      let p = and_parts (is_tree_below (length old) t) _ h in
      let first = tree_keeps t p.0 in
      let others = trees_stay ts p.1 in
      (ap₂ ◌∷◌ first.0 others.0, and_from (is_tree_below (length new) t) _ first.1 others.1)

  module _ (found pushed : List TaskTree) (tree : TaskTree) (below : TreesBelow (length old) found)
      (is : pushed ≡ found ++ tree ∷ []) where
    -- trees to which one more was added stand for the networks before and one more
    pub trees_pushed : map (network_of new) pushed ≡ map (network_of old) found ++ network_of new tree ∷ []
    trees_pushed =
        ap (map (network_of new)) is
        ∙ (map_push (network_of new) found tree
        ∙ ap (λ ns. ns ++ network_of new tree ∷ []) (trees_stay found below).0)

    -- trees to which one more was added are below the number of terms
    pub trees_below_pushed : TreeBelow (length new) tree → TreesBelow (length new) pushed
    trees_below_pushed h =
        ap (λ ts. list_all (λ b. b) (map (is_tree_below (length new)) ts)) is
        ∙ (ap (list_all (λ b. b)) (map_push (is_tree_below (length new)) found tree)
        ∙ (list_all-append (λ b. b) (map (is_tree_below (length new)) found) (is_tree_below (length new) tree ∷ [])
        ∙ and_from _ _ (trees_stay found below).1 (and_from _ _ h refl)))
