-- A search for the least depth: what it comes to, and how far it is.
use Rattle.std.specs.Prelude.{◌≡◌, ◌+◌, ◌-◌, ℕ, suc, Bool, true, false, List, []}
use Rattle.hp_syntax.specs.Walk.{Visit, count_told}
use Rattle.hp_net.specs.Standings.{Tree, tree_visits}
use Rattle.hp_search.specs.Planned.{stands_planned, tree_planned}
use Rattle.hp_shallow.specs.declared.deepening.Least.{Least}
use Rattle.hp_shallow.specs.declared.walking.ShallowEnd.{ShallowEnd}
use Rattle.hp_shallow.specs.declared.walking.ShallowEnd.TheVariants as ends
use Rattle.hp_shallow.specs.LeastDepth.{StandsAtPlan, deciding, expansions_below, first_end, least_depth, shallow_end}

-- the search came to the least depth up to the limit, by the visits at each depth: it answers how the walk of that
-- depth ends, and has counted the decompositions of all depths up to it
pub record IsLeast (l : Least) (at : ℕ → List Visit) (limit : ℕ) : Type 0 where
  pub depth : l.depth ≡ least_depth at limit
  pub answer : l.answer ≡ shallow_end (first_end (at l.depth)).ending
  pub expansions : l.expansions ≡ count_told (expansions_below at (suc l.depth))

-- an answer says that a walk was cut short
abbrev pub is_cut : ShallowEnd → Bool
is_cut ends.Plan = false
is_cut ends.End = false
is_cut ends.Cut = true
is_cut (ends.Fault f) = false

-- a search is at a depth: the least depth is among those from it on, and the decompositions of those before are counted
pub record IsAtDepth (at : ℕ → List Visit) (limit depth counted : ℕ) : Type 0 where
  pub least : deciding at depth (limit - depth) ≡ least_depth at limit
  pub expansions : counted ≡ count_told (expansions_below at depth)

-- the walk of a tree was made up to its first plan, where so many decompositions were counted before it; where it was
-- cut short it stands at the root
pub record HasWalked (l : Least) (t : Tree) (before : ℕ) : Type 0 where
  pub tree : tree_planned l.walk ≡ t
  pub answer : l.answer ≡ shallow_end (first_end (tree_visits t)).ending
  pub expansions : l.expansions ≡ count_told (before + (first_end (tree_visits t)).tally.expansions)
  pub plan : l.answer ≡ ends.Plan → StandsAtPlan (tree_planned l.walk) (stands_planned l.walk) (tree_visits t)
  pub root : l.answer ≡ ends.Cut → (stands_planned l.walk).path ≡ []
  pub live : l.walk.live ≡ true
