-- What one step changes, and what the steps on the way to a node change.
use Rattle.std.specs.Prelude.{ℕ, List, [], ◌∷◌, filter, map, not, Some, None}
use Rattle.hp_syntax.specs.Changes.{added}
use Rattle.hp_syntax.specs.GroundViews.{ground_of}
use Rattle.hp_syntax.specs.Syntax.{Rule}
use Rattle.hp_syntax.specs.Terms.{Term, member}
use Rattle.hp_syntax.specs.Walk.{Node, node_at}
use Rattle.hp_changes.specs.declared.comparing.Changed as made

-- ---- one step

-- the terms that are none of the others
abbrev pub apart : List Term → List Term → List Term
apart ts others = filter (λ t. not (member t others)) ts

-- each term once, where it comes first
abbrev pub once : List Term → List Term
once ts = added [] ts

-- what a step takes from the state, what it adds, and which atoms are protected or free only after it
pub record Changed : Type 0 where
  pub taken : List Term
  pub added : List Term
  pub protected : List Term
  pub freed : List Term

-- the changes from a node to another
abbrev pub between : Node → Node → Changed
between n m = record {
  taken = apart n.state m.state;
  added = apart m.state n.state;
  protected = apart (once m.guards) n.guards;
  freed = apart (once n.guards) m.guards;
}

-- ---- all steps on the way

-- the changes from a node to the first of others, and from each of these to the next
abbrev pub changes_over : Node → List Node → List Changed
changes_over n [] = []
changes_over n (m ∷ ms) = between n m ∷ changes_over m ms

module _ (rules : List Rule) (nest : ℕ) where
  -- the nodes that the first numbers of a path reach: one number, two numbers, and so on up to all
  abbrev pub nodes_on : Node → List ℕ → List Node
  nodes_on n [] = []
  nodes_on n (i ∷ p) = elim (node_at rules nest n (i ∷ [])) [ None ↦ [] | Some m ↦ m ∷ nodes_on m p ]

  -- the changes along a path from a node on, one for each number
  abbrev pub changes_along : Node → List ℕ → List Changed
  changes_along n p = changes_over n (nodes_on n p)

-- ---- as they are told

abbrev pub changed_of : made.Changed → Changed
changed_of c = record {
  taken = map ground_of c.taken.items;
  added = map ground_of c.added.items;
  protected = map ground_of c.protected.items;
  freed = map ground_of c.freed.items;
}
