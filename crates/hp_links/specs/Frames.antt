-- The trees that stand in numbered parts.
use Rattle.std.specs.Prelude.{◌≡◌, ℕ, ◌+◌, ◌<◌, List, [], ◌∷◌, length, Option, Some, None, slice_get}
use Rattle.hp_links.specs.declared.links.Links.{Links}
use Rattle.hp_links.specs.declared.links.Part.{Part}
use Rattle.hp_links.specs.declared.links.Part.TheVariants.{Task, Row}
use Rattle.hp_links.specs.Labelled.{Tree, Trees, Gone, Leaf, Branch, NoTree, With, count, number_of, IsFull}
use Rattle.hp_links.specs.Linked.{Linked, tree_of}

-- the parts by number, the list that each is a part of, and the rows of the lists
pub record Frame : Type 0 where
  pub parts : List Part
  pub owners : List (Option ℕ)
  pub rows : List ℕ

abbrev pub frame_of : Linked → Frame
frame_of s = record { parts = s.parts; owners = s.owners; rows = s.rows }

abbrev pub frame_in : Links → Frame
frame_in l = record { parts = l.parts.items; owners = l.owners.items; rows = l.rows.items }

-- the number of a tree that is something
abbrev pub top : Tree → ℕ
top Gone = 0
top (Leaf k cell immediate) = k
top (Branch k order ts) = k

abbrev pub tops : Trees → List ℕ
tops NoTree = []
tops (With t ts) = top t ∷ tops ts

-- the part of a number, and the list that it is a part of
pub record HasPart (f : Frame) (list : Option ℕ) (k : ℕ) (p : Part) : Type 0 where
  pub part : slice_get f.parts k ≡ Some p
  pub owner : slice_get f.owners k ≡ Some list

-- these numbers stand in a row from a place on
pub record StandFrom (rows : List ℕ) (start : ℕ) (js : List ℕ) : Type 0 where
  pub at : (i : ℕ) → i < length js → slice_get rows (start + i) ≡ slice_get js i

-- the tree stands in the frame, as a part of a list or of none; a list's parts have greater numbers than the list
abbrev mutual
  pub Stands : Frame → Option ℕ → Tree → Type 0
  Stands f o Gone = ⊥
  Stands f o (Leaf k cell immediate) = HasPart f o k (Task cell immediate)
  Stands f o (Branch k order ts) = (start : ℕ) × HasPart f o k (Row order start (count ts))
      × StandFrom f.rows start (tops ts) × AllStand f k ts

  pub AllStand : Frame → ℕ → Trees → Type 0
  AllStand f k NoTree = Unit {0}
  AllStand f k (With t ts) = (k < top t) × Stands f (Some k) t × AllStand f k ts

-- the tree is nothing, or stands in the frame as a part of no list
abbrev pub StandsAlone : Frame → Tree → Type 0
StandsAlone f Gone = Unit {0}
StandsAlone f (Leaf k cell immediate) = Stands f None (Leaf k cell immediate)
StandsAlone f (Branch k order ts) = Stands f None (Branch k order ts)

-- the tree stands in the frame, and its number is that of the root
pub record IsWhole (f : Frame) (root : Option ℕ) (t : Tree) : Type 0 where
  pub is : root ≡ number_of t
  pub stands : StandsAlone f t

-- the tree of the part of a number
unfoldable pub tree_at : Frame → ℕ → Tree
tree_at f k =
    tree_of
    (record { parts = f.parts; owners = f.owners; rows = f.rows; root = None; focus = None; front = None }) k

-- the tree of the part of this number stands in the frame, and each list in it has two parts or more
pub record IsHeld (f : Frame) (k : ℕ) : Type 0 where
  pub list : Option ℕ
  pub stands : Stands f list (tree_at f k)
  pub full : IsFull (tree_at f k)
  pub top : top (tree_at f k) ≡ k
