-- Networks in reading order become trees of numbered parts.
use Rattle.std.specs.Prelude.{◌≡◌, ℕ, suc, ◌+◌, ◌-◌, ◌<◌, ◌≤◌, List, [], ◌∷◌, ◌++◌, length, map, take, drop, reverse, Option, Some, None, option_map, slice_get, slice_set}
use Rattle.hp_links.specs.declared.entry.Entry.{Entry}
use Rattle.hp_links.specs.declared.entry.Entry.TheVariants.{Task, List as Parts}
use Rattle.hp_links.specs.declared.links.Part.{Part}
use Rattle.hp_links.specs.declared.links.Part.TheVariants as part
use Rattle.hp_links.specs.Frames.{Frame, top, Stands}
use Rattle.hp_links.specs.Labelled.{Tree, Leaf, Branch}
use Rattle.hp_links.specs.Linked.{as_trees}

-- the trees of entries, of which the first has this number; a list takes its parts from the trees behind it
abbrev pub trees_at : ℕ → List Entry → List Tree
trees_at k [] = []
trees_at k (Task cell immediate ∷ es) = Leaf k cell immediate ∷ trees_at (suc k) es
trees_at k (Parts order n ∷ es) =
    Branch k order (as_trees (take n (trees_at (suc k) es))) ∷ drop n (trees_at (suc k) es)

-- the part of an entry, before its parts are known
abbrev pub part_of : Entry → Part
part_of (Task cell immediate) = part.Task cell immediate
part_of (Parts order n) = part.Row order 0 0

-- each tree stands in the frame, as a part of no list
abbrev pub AllAlone : Frame → List Tree → Type 0
AllAlone f [] = Unit {0}
AllAlone f (t ∷ ts) = Stands f None t × AllAlone f ts

-- owners with this one for each of some numbers
abbrev pub own_all : Option ℕ → List ℕ → List (Option ℕ) → List (Option ℕ)
own_all o [] os = os
own_all o (j ∷ js) os = own_all o js (slice_set os j o)

-- what stood in the frame before stands there
pub record KeepsFirst (old new : Frame) : Type 0 where
  pub parts : take (length old.parts) new.parts ≡ old.parts
  pub owners : take (length old.owners) new.owners ≡ old.owners
  pub rows : take (length old.rows) new.rows ≡ old.rows

-- the frame once the part of an entry has its parts, the last roots
abbrev pub linked : ℕ → Entry → List ℕ → Frame → Frame
linked k (Task cell immediate) js f = f
linked k (Parts order n) js f = record {
  parts = slice_set f.parts k (part.Row order (length f.rows) n);
  owners = own_all (Some k) (drop (length js - n) js) f.owners;
  rows = f.rows ++ reverse (drop (length js - n) js);
}

-- the roots that are left then, with that of the entry
abbrev pub roots_left : ℕ → Entry → List ℕ → List ℕ
roots_left k (Task cell immediate) js = js ++ k ∷ []
roots_left k (Parts order n) js = take (length js - n) js ++ k ∷ []

-- there are roots for the parts of an entry
abbrev pub HasRoots : Entry → List ℕ → Type 0
HasRoots (Task cell immediate) js = Unit {0}
HasRoots (Parts order n) js = (0 < n) × (n ≤ length js)

-- the entries from one on are planted behind the frame: their trees stand in it, and these are their numbers, the first
-- last
pub record Planting (es : List Entry) (n : ℕ) (js : List ℕ) (old new : Frame) : Type 0 where
  pub keeps : KeepsFirst old new
  pub parts : length new.parts ≡ length old.parts + length es
  pub owners : length new.owners ≡ length new.parts
  pub read : (i : ℕ) → i < n → slice_get new.parts (length old.parts + i) ≡ option_map part_of (slice_get es i)
  pub free : (i : ℕ) → i < n → slice_get new.owners (length old.parts + i) ≡ Some None
  pub roots : js ≡ reverse (map top (trees_at (length old.parts + n) (drop n es)))
  pub stand : AllAlone new (trees_at (length old.parts + n) (drop n es))
