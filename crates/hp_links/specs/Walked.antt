-- What is walked on the way to the first tasks.
use Rattle.std.specs.Prelude.{◌≡◌, ℕ, ◌+◌, ◌<◌, ◌≤◌, List, [], ◌∷◌, ◌++◌, take, drop, reverse, slice_get}
use Rattle.std.specs.List.{All, list_any}
use Rattle.hp_links.specs.declared.candidates.Gathered.{Gathered}
use Rattle.hp_links.specs.declared.candidates.Stretch.{Stretch}
use Rattle.hp_links.specs.declared.entry.Order.{Order}
use Rattle.hp_links.specs.declared.entry.Order.TheVariants.{Ordered, Unordered}
use Rattle.hp_links.specs.declared.links.Part.{Part}
use Rattle.hp_links.specs.Frames.{Frame, IsHeld, tree_at}
use Rattle.hp_links.specs.Labelled.{Tree, Trees, Gone, Leaf, Branch, NoTree, With, leads}
use Rattle.hp_links.specs.Placed.{immediate_first, is_immediate}

-- of a list in order the first part, else all parts
abbrev pub to_walk : Order → List ℕ → List ℕ
to_walk Ordered js = take 1 js
to_walk Unordered js = js

-- so many places from one on, one at least, are within the rows
pub record IsWithinRows (places start many : ℕ) : Type 0 where
  pub some : 0 < many
  pub within : start + many ≤ places

-- the first tasks of the trees of numbers
abbrev pub pending : Frame → List ℕ → List ℕ
pending f [] = []
pending f (k ∷ ks) = leads (tree_at f k) ++ pending f ks

-- how many parts a tree has
abbrev mutual
  pub size : Tree → ℕ
  size Gone = 1
  size (Leaf k cell immediate) = 1
  size (Branch k order ts) = 1 + sizes ts

  pub sizes : Trees → ℕ
  sizes NoTree = 0
  sizes (With t ts) = size t + sizes ts

-- how many parts the trees of numbers have
abbrev pub weight : Frame → List ℕ → ℕ
weight f [] = 0
weight f (k ∷ ks) = size (tree_at f k) + weight f ks

-- ---- without all parts in memory

-- the numbers that stand in stretches of the rows
abbrev pub numbers_in : List ℕ → List Stretch → List ℕ
numbers_in rows [] = []
numbers_in rows (s ∷ ss) = take s.many (drop s.start rows) ++ numbers_in rows ss

-- the numbers that are left to be walked: the newest stretch is the next
abbrev pub left_to_walk : List ℕ → List Stretch → List ℕ
left_to_walk rows ss = numbers_in rows (reverse ss)

-- a stretch is within the rows
abbrev pub IsStretch : ℕ → Stretch → Type 0
IsStretch places s = IsWithinRows places s.start s.many

-- of the first tasks of the trees of numbers, one is the first and those of other numbers are behind it
pub record LeadsTo (f : Frame) (ks : List ℕ) (task : ℕ) (js : List ℕ) : Type 0 where
  pub first : pending f ks ≡ task ∷ pending f js
  pub held : All (IsHeld f) js
  pub less : weight f js < weight f ks

-- of tasks that were looked at: whether one of them is immediate, and the first candidates among them, so many at most
pub record Gathers (parts : List Part) (ks : List ℕ) (g : Gathered) : Type 0 where
  pub immediate : g.immediate ≡ list_any (λ k. is_immediate (slice_get parts k)) ks
  pub found : g.found.items ≡ take g.limit (immediate_first parts ks)
