-- The front of a network after a change.
use Rattle.std.specs.Prelude.{ℕ, ◌==◌, Bool, false, ◌||◌, cond, Option, Some, None}
use Rattle.hp_links.specs.declared.entry.Order.TheVariants.{Ordered, Unordered}
use Rattle.hp_links.specs.Frames.{Frame, top, tree_at}
use Rattle.hp_links.specs.Labelled.{Tree, Gone, Leaf, Branch, NoTree, With, front_of}

-- whether this is the number
abbrev pub is_number : Option ℕ → ℕ → Bool
is_number None k = false
is_number (Some j) k = j == k

-- the front, where it was one of two parts; else it stays
abbrev pub settled : ℕ → ℕ → Option ℕ → Option ℕ → Option ℕ
settled part list new front = cond (is_number front part || is_number front list) new front

-- the number of the first part of an ordered list
abbrev pub first_of : Tree → Option ℕ
first_of Gone = None
first_of (Leaf k cell immediate) = None
first_of (Branch k Ordered NoTree) = None
first_of (Branch k Ordered (With t ts)) = Some (top t)
first_of (Branch k Unordered ts) = None

-- the front of the tree of a number, if there is one
abbrev pub front_at : Frame → Option ℕ → Option ℕ
front_at f None = None
front_at f (Some k) = front_of (tree_at f k)
