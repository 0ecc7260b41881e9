-- A walk to a plan whose path is known, and what is left behind it.
use Rattle.std.specs.Prelude.{◌≡◌, ℕ, ◌+◌, nat_lt, cond, List, [], ◌∷◌, ◌++◌, Some, None}
use Rattle.std.specs.List.{All}
use Rattle.hp_laws.specs.TreeLaws.{IsFaultless}
use Rattle.hp_net.specs.Standings.{Tree, Standing, node_reached, tree_visits}
use Rattle.hp_passes.specs.Passes.{Turn, On, Past, Last, Passed, pass}
use Rattle.hp_syntax.specs.Walk.{Node, Visit, Did, Plan, CutHere, FaultHere, visit, count_told}
use Rattle.hp_after.specs.declared.reaching.Arrival.{Arrival}
use Rattle.hp_after.specs.declared.reaching.Reached.{Reached}
use Rattle.hp_after.specs.declared.reaching.Reached.TheVariants as reached
use Rattle.hp_after.specs.declared.reaching.Side.{Side}
use Rattle.hp_after.specs.declared.reaching.Side.TheVariants as sides

-- ---- paths

-- where a path lies beside another one: before it where its number is less at the first place in which they differ,
-- beyond it where that is greater or where it goes on below the other, else above it or here
abbrev pub side_of : List ℕ → List ℕ → Side
side_of [] [] = sides.Here
side_of [] (j ∷ p) = sides.Above
side_of (i ∷ q) [] = sides.Beyond
side_of (i ∷ q) (j ∷ p) = cond (nat_lt i j) sides.Before (cond (nat_lt j i) sides.Beyond (side_of q p))

-- ---- the walk

-- the answer that is known, and how many decompositions were visited
pub record Coming : Type 0 where
  pub answer : Reached
  pub expansions : ℕ

abbrev pub coming : Reached → ℕ → Coming
coming a n = record { answer = a; expansions = n }

-- the plan is absent as long as it isn't met
abbrev pub nothing_met : Coming
nothing_met = coming reached.Absent 0

abbrev pub with_did : Coming → Coming
with_did s = coming s.answer (s.expansions + 1)

abbrev pub answered : Reached → Coming → Coming
answered a s = coming a s.expansions

-- what lies at or below a decomposition before the path is left out, and one beyond it is the last visit
abbrev pub did_turn : Side → Coming → Turn Coming
did_turn sides.Before s = Past s
did_turn sides.Above s = On s
did_turn sides.Here s = On s
did_turn sides.Beyond s = Last s

-- the plan at the path is the last visit
abbrev pub plan_turn : Side → Coming → Turn Coming
plan_turn sides.Before s = On s
plan_turn sides.Above s = On s
plan_turn sides.Here s = Last (answered reached.At s)
plan_turn sides.Beyond s = On s

-- what is made of a visit on the way to a path; a fault is the last one
abbrev pub reach_turn : List ℕ → Coming → Visit → Turn Coming
reach_turn p s v =
    elim v.sight [
      | Did ↦ did_turn (side_of v.path p) (with_did s)
      | Plan ↦ plan_turn (side_of v.path p) s
      | CutHere ↦ On s
      | FaultHere f ↦ Last (answered (reached.Fault f) s)
    ]

-- the walk to a path over all visits of a tree
abbrev pub reaching : List ℕ → List Visit → Passed Coming
reaching p vs = pass (reach_turn p) None nothing_met vs

-- ---- what is told

-- what is told is what the walk to a path over these visits comes to
pub record IsArrival (a : Arrival) (p : List ℕ) (vs : List Visit) : Type 0 where
  pub answer : a.answer ≡ (reaching p vs).knows.answer
  pub expansions : a.expansions ≡ count_told (reaching p vs).knows.expansions

-- a walk stands at the plan of a path, and what is left for it is what the walk to the path left: all visits behind
pub record IsThere (t : Tree) (s : Standing) (p : List ℕ) : Type 0 where
  pub path : s.path ≡ p
  pub node : Node
  pub at_node : node_reached t s ≡ Some node
  pub before : List Visit
  pub plan : tree_visits t ≡ before ++ visit p node Plan ∷ s.rest
  pub left : s.rest ≡ (reaching p (tree_visits t)).left

-- visits hold a plan at a path
abbrev pub HoldsPlan : List ℕ → List Visit → Type 0
HoldsPlan p vs = (n : Node) × (before : List Visit) × (after : List Visit) × (vs ≡ before ++ visit p n Plan ∷ after)

-- the walk to a path comes to a plan where visits hold one there and no fault before it, whatever follows, and leaves
-- what follows; and where it comes to a plan, visits hold that one
pub record ComesToPlan (p : List ℕ) (vs : List Visit) : Type 0 where
  pub found : (n : Node) (before after : List Visit) → vs ≡ before ++ visit p n Plan ∷ after
      → All (λ v. IsFaultless v.sight) before
      → ((reaching p vs).knows.answer ≡ reached.At) × ((reaching p vs).left ≡ after)
  pub only : (reaching p vs).knows.answer ≡ reached.At
      → (n : Node) × (before : List Visit) × (vs ≡ before ++ visit p n Plan ∷ (reaching p vs).left)
