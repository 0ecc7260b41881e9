-- A network in place: its parts by number, and each list's parts in a row.
use Rattle.std.specs.Prelude.{◌≡◌, ℕ, suc, ◌-◌, ◌<◌, Bool, List, [], ◌∷◌, map, take, drop, Option, Some, None, Contains, slice_get, slice_index_or}
use Rattle.std.specs.Option.{option_and_then}
use Rattle.hp_syntax.specs.Terms.{Term}
use Rattle.hp_syntax.specs.Networks.{Network, Place}
use Rattle.hp_links.specs.declared.links.Part.{Part}
use Rattle.hp_links.specs.declared.links.Part.TheVariants.{Task, Row}
use Rattle.hp_links.specs.Labelled.{Tree, Trees, Gone, Leaf, Branch, NoTree, With, network, numbers, place_in}

-- the parts by number, the list that each is a part of, the rows of the lists, and the numbers of the whole, of the
-- newest subtasks and of the part below which all first tasks stand
pub record Linked : Type 0 where
  pub parts : List Part
  pub owners : List (Option ℕ)
  pub rows : List ℕ
  pub root : Option ℕ
  pub focus : Option ℕ
  pub front : Option ℕ

abbrev pub as_trees : List Tree → Trees
as_trees [] = NoTree
as_trees (t ∷ ts) = With t (as_trees ts)

-- the numbers of the parts of a list
abbrev pub row_of : List ℕ → Part → List ℕ
row_of rows (Task cell immediate) = []
row_of rows (Row order start many) = take many (drop start rows)

-- the tree of a part of this number, where the parts with greater numbers are these trees
abbrev pub tree_over : List ℕ → ℕ → Part → List Tree → Tree
tree_over rows k (Task cell immediate) above = Leaf k cell immediate
tree_over rows k (Row order start many) above =
    Branch k order (as_trees (map (λ j. slice_index_or above (j - suc k) Gone) (take many (drop start rows))))

-- the trees of parts, of which the first has this number; a list's parts have greater numbers than the list
abbrev pub trees_from : List ℕ → ℕ → List Part → List Tree
trees_from rows k [] = []
trees_from rows k (p ∷ ps) = tree_over rows k p (trees_from rows (suc k) ps) ∷ trees_from rows (suc k) ps

-- the tree of the part of a number
unfoldable pub tree_of : Linked → ℕ → Tree
tree_of s k = slice_index_or (trees_from s.rows 0 s.parts) k Gone

abbrev pub tree_if : Linked → Option ℕ → Tree
tree_if s None = Gone
tree_if s (Some k) = tree_of s k

-- the whole network
unfoldable pub whole : Linked → Tree
whole s = tree_if s s.root

-- the place of the part of a number in the whole network
unfoldable pub place_of : Linked → ℕ → Option Place
place_of s id = place_in id (whole s)

-- the network and its focus
abbrev pub focused : List Term → Linked → Network × Option Place
focused terms s = (network terms (whole s), option_and_then (place_of s) s.focus)

-- the number of a task of the network
pub record NamesTask (s : Linked) (id : ℕ) : Type 0 where
  pub cell : ℕ
  pub immediate : Bool
  pub is : slice_get s.parts id ≡ Some (Task cell immediate)
  pub among : Contains (numbers (whole s)) id

-- a task's cell is below a count
abbrev pub PartBelow : ℕ → Part → Type 0
PartBelow n (Task cell immediate) = cell < n
PartBelow n (Row order start many) = Unit {0}
