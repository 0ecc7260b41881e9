-- Networks in place whose cells are below a count.
use Rattle.std.proofs.Common.{◌≡◌, ℕ, ◌-◌, ◌<◌, zero, suc, List, [], ◌∷◌, map, take, drop, Option, Some, None, refl, ap, ap₂}
use Rattle.std.specs.Prelude.{slice_index_or}
use Rattle.std.specs.List.{All}
use Rattle.std.proofs.lemmas.List.Elements.{All-nil, All-cons, All-head, All-tail}
use Rattle.hp_syntax.specs.Networks as plain
use Rattle.hp_syntax.specs.Terms.{Term}
use Rattle.hp_eval.specs.GoalViews.{term_at}
use Rattle.hp_links.specs.declared.links.Part.{Part}
use Rattle.hp_links.specs.declared.links.Part.TheVariants.{Task, Row}
use Rattle.hp_links.specs.Labelled.{Tree, Trees, Gone, Leaf, Branch, NoTree, With, listed, network, networks}
use Rattle.hp_links.specs.Linked.{Linked, as_trees, tree_over, trees_from, tree_of, tree_if, whole, PartBelow}

-- the cells of a tree's tasks are below a count
abbrev mutual
  pub CellsBelow : ℕ → Tree → Type 0
  CellsBelow n Gone = Unit {0}
  CellsBelow n (Leaf k cell immediate) = cell < n
  CellsBelow n (Branch k order ts) = AllCellsBelow n ts

  pub AllCellsBelow : ℕ → Trees → Type 0
  AllCellsBelow n NoTree = Unit {0}
  AllCellsBelow n (With t ts) = CellsBelow n t × AllCellsBelow n ts

-- one of some trees, or nothing, has its cells below what all have
tree_below : (n : ℕ) (ts : List Tree) (i : ℕ) → All (CellsBelow n) ts → CellsBelow n (slice_index_or ts i Gone)
tree_below n [] i h = tt
tree_below n (t ∷ ts) zero h = All-head (CellsBelow n) t ts h
tree_below n (t ∷ ts) (suc i) h = tree_below n ts i (All-tail (CellsBelow n) t ts h)

-- so have those of some numbers
row_below : (n k : ℕ) (above : List Tree) (js : List ℕ) → All (CellsBelow n) above
    → AllCellsBelow n (as_trees (map (λ j. slice_index_or above (j - suc k) Gone) js))
row_below n k above [] h = tt
row_below n k above (j ∷ js) h = (tree_below n above (j - suc k) h, row_below n k above js h)

-- the tree of a part has its cells below what the part and the trees of the later parts have
part_tree_below : (n : ℕ) (rows : List ℕ) (k : ℕ) (p : Part) (above : List Tree) → PartBelow n p
    → All (CellsBelow n) above → CellsBelow n (tree_over rows k p above)
part_tree_below n rows k (Task cell immediate) above h g = h
part_tree_below n rows k (Row order start many) above h g = row_below n k above (take many (drop start rows)) g

-- so have the trees of all parts
trees_below : (n : ℕ) (rows : List ℕ) (k : ℕ) (ps : List Part) → All (PartBelow n) ps
    → All (CellsBelow n) (trees_from rows k ps)
trees_below n rows k [] h = All-nil (CellsBelow n)
trees_below n rows k (p ∷ ps) h =
    let above = trees_from rows (suc k) ps in
    let g = trees_below n rows (suc k) ps (All-tail (PartBelow n) p ps h) in
    All-cons (CellsBelow n) (tree_over rows k p above) above
    (part_tree_below n rows k p above (All-head (PartBelow n) p ps h) g) g

-- the whole network has its cells below what all parts have
pub whole_below : (n : ℕ) (s : Linked) → All (PartBelow n) s.parts → CellsBelow n (whole s)
unfolding whole tree_of
whole_below n s h = by_root s.root
  where
    by_root : (root : Option ℕ) → CellsBelow n (tree_if s root)
    by_root None = tt
    by_root (Some k) = tree_below n (trees_from s.rows 0 s.parts) k (trees_below n s.rows 0 s.parts h)

-- terms that agree below a count are the same network, where all cells are below it
module _ (old new : List Term) (n : ℕ) (agree : (cell : ℕ) → cell < n → term_at new cell ≡ term_at old cell) where
  mutual
    pub network_agrees : (t : Tree) → CellsBelow n t → network new t ≡ network old t
    network_agrees Gone h = refl
    network_agrees (Leaf k cell immediate) h = ap (λ u. plain.Task u immediate) (agree cell h)
    network_agrees (Branch k order ts) h = ap (listed order) (networks_agree ts h)

    networks_agree : (ts : Trees) → AllCellsBelow n ts → networks new ts ≡ networks old ts
    networks_agree NoTree h = refl
    networks_agree (With t ts) h = ap₂ plain.And (network_agrees t h.0) (networks_agree ts h.1)
