-- A walk to a decomposition whose path is known.
use Rattle.std.specs.Prelude.{◌≡◌, ℕ, ◌-◌, ◌^◌, nat_lt, Bool, true, ◌==◌, cond, List, length, Some, IfSome, Contains}
use Rattle.std.specs.List.{list_all}
use Rattle.hp_net.specs.Standings.{Tree, Standing, node_reached, tree_visits}
use Rattle.hp_passes.specs.declared.passing.Turn.{Turn}
use Rattle.hp_passes.specs.declared.passing.Turn.TheVariants.{On, Past, Last}
use Rattle.hp_syntax.specs.Walk.{Node, Visit, Did, Plan, CutHere, FaultHere, begins, told}
use Rattle.hp_dead_ends.specs.declared.arriving.Arriving.{Arriving}
use Rattle.hp_dead_ends.specs.declared.searching.DeadEnds.{DeadEnds}
use Rattle.hp_dead_ends.specs.DeadEnds.{until_plan, with_root}
use Rattle.hp_dead_ends.specs.Finding.{items_of}

-- no number of a path is 2^64 - 1, which may mean a greater one
abbrev pub is_small : List ℕ → Bool
is_small p = list_all (λ i. nat_lt i (2 ^ 64 - 1)) p

-- a path is reported for a decomposition of a tree before the first plan or fault; the root counts as one
pub record IsHeld (t : Tree) (p : List ℕ) : Type 0 where
  pub visit : Visit
  pub did : visit.sight ≡ Did
  pub within : Contains (with_root t.root (until_plan (tree_visits t))) visit
  pub is_told : told visit.path ≡ p

-- the first cuts that were found, where there are any, are at nodes of such decompositions
pub record HasHeldCuts (t : Tree) (f : DeadEnds) : Type 0 where
  pub depth : IfSome (items_of f.depth_cut) (IsHeld t)
  pub level : IfSome (items_of f.level_cut) (IsHeld t)

-- a walk is at a path, and at the node that this reaches
pub record HasArrived (t : Tree) (s : Standing) (p : List ℕ) : Type 0 where
  pub path : s.path ≡ p
  pub node : Node
  pub at_node : node_reached t s ≡ Some node

-- ---- one visit

-- above a path the walk goes on; at it this is the last visit; what lies below any other decomposition is left out
abbrev pub did_turn : List ℕ → List ℕ → Turn
did_turn p q = cond (begins q p) (cond (length q == length p) Last On) Past

abbrev pub turn_to : List ℕ → Visit → Turn
turn_to p v = elim v.sight [ Did ↦ did_turn p v.path | Plan ↦ On | CutHere ↦ On | FaultHere f ↦ Last ]

-- so each visit turns a walk to a path of small numbers
pub record MeetsArriving (s : Arriving) (c : Unit {0}) (v : Visit) (x : Turn) (t : Arriving) (d : Unit {0}) : Type 0 where
  pub target : t.target.now ≡ s.target.now
  pub turn : is_small s.target.now ≡ true → x ≡ turn_to s.target.now v
