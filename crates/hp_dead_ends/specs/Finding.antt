-- What is told of dead ends.
use Rattle.std.specs.Prelude.{◌≡◌, ℕ, ◌≤◌, List, length, map, take, Option, Some, option_map, Contains, Vec}
use Rattle.std.specs.declared.alloc.Global.{Global}
use Rattle.std.specs.List.{All, find}
use Rattle.hp_net.specs.Standings.{Tree, Standing, node_reached, tree_visits}
use Rattle.hp_syntax.specs.declared.fault.RunFault.{RunFault}
use Rattle.hp_syntax.specs.Walk.{Node, Visit, FaultHere, count_told, node_at, told}
use Rattle.hp_dead_ends.specs.declared.searching.DeadEnd.{DeadEnd}
use Rattle.hp_dead_ends.specs.declared.searching.DeadEnds.{DeadEnds}
use Rattle.hp_dead_ends.specs.declared.searching.SearchEnd.TheVariants as ends
use Rattle.hp_dead_ends.specs.DeadEnds as dead
use Rattle.hp_dead_ends.specs.DeadEnds.{IsDeadEnd, Rank, rank, rank_of, dead_ends, decompositions_of, ending, is_depth_cut, is_level_cut, until_plan, with_root}

-- what is told of a dead end: its path, and how far it came
pub record Told : Type 0 where
  pub path : List ℕ
  pub rank : Rank

abbrev pub told_of : DeadEnd → Told
told_of e = record { path = e.path.items; rank = rank e.steps e.decompositions }

abbrev pub told_at : Visit → Told
told_at v = record { path = told v.path; rank = rank_of v }

-- the path of a visit, where there is one
abbrev pub path_told : Option Visit → Option (List ℕ)
path_told o = option_map (λ v. told v.path) o

-- the numbers of a path, where one is kept
abbrev pub items_of : Option (Vec ℕ Global) → Option (List ℕ)
items_of o = option_map (λ p. p.items) o

-- what was found is what is to be told of these dead ends and visits, at most so many of the furthest
pub record IsFound (most : ℕ) (f : DeadEnds) (ds vs : List Visit) : Type 0 where
  pub furthest : map told_of f.furthest.items ≡ map told_at (take most (dead.furthest ds))
  pub as_far : f.as_far ≡ count_told (length (dead.furthest ds))
  pub all : f.all ≡ count_told (length ds)
  pub depth_cut : items_of f.depth_cut ≡ path_told (find is_depth_cut vs)
  pub level_cut : items_of f.level_cut ≡ path_told (find is_level_cut vs)
  pub end : f.end ≡ ending ends.Whole vs
  pub expansions : f.expansions ≡ count_told (decompositions_of vs)

-- the dead ends of a tree up to the first plan or fault
abbrev pub ends_of : Tree → List Visit
ends_of t = dead_ends (with_root t.root (until_plan (tree_visits t)))

abbrev pub IsFoundIn : Tree → ℕ → DeadEnds → Type 0
IsFoundIn t most f = IsFound most f (ends_of t) (until_plan (tree_visits t))

-- a dead end that is told is a node of the tree that is one, and none of these has more steps
pub record IsFurthest (t : Tree) (e : DeadEnd) : Type 0 where
  pub path : List ℕ
  pub node : Node
  pub is_told : e.path.items ≡ told path
  pub steps : e.steps ≡ length node.steps
  pub decompositions : e.decompositions ≡ length path
  pub at_node : node_at t.rules t.nest t.root path ≡ Some node
  pub dead : IsDeadEnd t.rules t.nest node
  pub most : All (λ w. length w.node.steps ≤ e.steps) (ends_of t)

-- a walk is at a node at which the visits of a tree have a fault
pub record HasMet (t : Tree) (s : Standing) (x : RunFault) : Type 0 where
  pub visit : Visit
  pub sight : visit.sight ≡ FaultHere x
  pub within : Contains (until_plan (tree_visits t)) visit
  pub path : s.path ≡ visit.path
  pub at_node : node_reached t s ≡ Some visit.node
