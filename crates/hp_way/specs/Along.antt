-- What is told of the path of a walk, as far as it is told.
use Rattle.std.specs.Prelude.{◌≡◌, ◌+◌, ℕ, List, slice_get, take, Some}
use Rattle.hp_search.specs.Led.{node_on}
use Rattle.hp_search.specs.Planned.{Planned, stands_planned, tree_planned}
use Rattle.hp_syntax.specs.Terms.{Term}
use Rattle.hp_syntax.specs.Walk.{Node}
use Rattle.hp_way.specs.Ways.{Deed, IsDone, LeadAlong}

-- the deed leads from the node that so many numbers of a walk's path reach to the next one
pub record IsDeedAt (p : Planned) (k : ℕ) (d : Deed) : Type 0 where
  pub number : ℕ
  pub is : slice_get (stands_planned p).path k ≡ Some number
  pub above : Node
  pub there : node_on p k ≡ Some above
  pub reached : Node
  pub here : node_on p (k + 1) ≡ Some reached
  pub done : IsDone (tree_planned p).rules p.nest d number above reached

-- deeds lead along so many numbers of a walk's path, from the root on
pub record LeadSoFar (p : Planned) (k : ℕ) (ds : List Deed) : Type 0 where
  pub node : Node
  pub there : node_on p k ≡ Some node
  pub lead : LeadAlong (tree_planned p).rules p.nest ds (take k (stands_planned p).path) (tree_planned p).root node

-- these atoms hold at the node that so many numbers of a walk's path reach, in this order
pub record HasStateAt (p : Planned) (k : ℕ) (atoms : List Term) : Type 0 where
  pub node : Node
  pub there : node_on p k ≡ Some node
  pub state : atoms ≡ node.state
