-- The first visits of a tree, each with what is seen at it.
use Rattle.std.specs.Prelude.{◌≡◌, ◌≢◌, ℕ, suc, ◌-◌, ◌||◌, cond, filter, nat_le, nat_lt, Bool, true, List, [], ◌∷◌, ◌++◌, length, map, take, Option, Some, None}
use Rattle.hp_net.specs.Standings.{Tree, tree_visits}
use Rattle.hp_passes.specs.Passes as passes
use Rattle.hp_passes.specs.declared.passing.Turn.{Turn}
use Rattle.hp_passes.specs.declared.passing.Turn.TheVariants.{On, Past, Last}
use Rattle.hp_dead_ends.specs.DeadEnds.{IsDeadEnd}
use Rattle.hp_obstacles.specs.Obstacles.{all_stuck, stuck_of}
use Rattle.hp_syntax.specs.Syntax.{Rule}
use Rattle.hp_syntax.specs.Walk.{Node, Sight, Visit, Did, Plan, CutHere, FaultHere, begins, node_at}
use Rattle.hp_way.specs.Ways.{Deed, IsDone, deed_of}
use Rattle.hp_trace.specs.declared.tracing.Seen.{Seen}
use Rattle.hp_trace.specs.declared.tracing.Seen.TheVariants as seen
use Rattle.hp_trace.specs.declared.tracing.TracedVisit.{TracedVisit}

-- the deed leads to the node of a visit from the one above it
pub record IsDeedOf (t : Tree) (v : Visit) (d : Deed) : Type 0 where
  pub above : List ℕ
  pub number : ℕ
  pub path : v.path ≡ above ++ number ∷ []
  pub node : Node
  pub there : node_at t.rules t.nest t.root above ≡ Some node
  pub done : IsDone t.rules t.nest d number node v.node

-- what is seen at a visit: a cut is one of the depth at a node without any, and else one of the axiom levels
abbrev pub IsSeen : Tree → Visit → Seen → Type 0
IsSeen t v (seen.Did d) = (v.sight ≡ Did) × IsDeedOf t v (deed_of d)
IsSeen t v seen.Plan = v.sight ≡ Plan
IsSeen t v seen.DepthCut = (v.sight ≡ CutHere) × (v.node.depth ≡ 0)
IsSeen t v seen.LevelCut = (v.sight ≡ CutHere) × (v.node.depth ≢ 0)
IsSeen t v (seen.Fault f) = v.sight ≡ FaultHere f

-- a visit is a decomposition that leads to a dead end
pub record IsDead (t : Tree) (v : Visit) : Type 0 where
  pub did : v.sight ≡ Did
  pub dead : IsDeadEnd t.rules t.nest v.node

-- so many decompositions are above those that count; at a dead end is known what keeps the tasks there from being done, by
-- these rules
pub record IsTraced (rules : List Rule) (t : Tree) (above : ℕ) (v : Visit) (x : TracedVisit) : Type 0 where
  pub level : x.level ≡ length v.path - above
  pub seen : IsSeen t v x.seen
  pub stuck : IsDead t v → map stuck_of x.stuck.items ≡ all_stuck rules t.nest v.node
  pub none : (IsDead t v → ⊥) → x.stuck.items ≡ []

-- one by one
abbrev pub AreTraced : List Rule → Tree → ℕ → List Visit → List TracedVisit → Type 0
AreTraced rules t above [] [] = Unit {0}
AreTraced rules t above [] (x ∷ xs) = ⊥
AreTraced rules t above (v ∷ vs) [] = ⊥
AreTraced rules t above (v ∷ vs) (x ∷ xs) = IsTraced rules t above v x × AreTraced rules t above vs xs

-- ---- the visits at or below a path

-- how a walk to a path goes on: what lies below a decomposition that is neither above the path nor at or below it is left
-- out, and a fault is the last visit
abbrev pub turn_by : List ℕ → List ℕ → Sight → Turn
turn_by p q Did = cond (begins p q || begins q p) On Past
turn_by p q Plan = On
turn_by p q CutHere = On
turn_by p q (FaultHere f) = Last

abbrev pub known : Turn → passes.Turn (Unit {0})
known On = passes.On tt
known Past = passes.Past tt
known Last = passes.Last tt

abbrev pub turn_to : List ℕ → Unit {0} → Visit → passes.Turn (Unit {0})
turn_to p s v = known (turn_by p v.path v.sight)

-- the visits of a walk to a path, and of these the ones at or below it
abbrev pub visits_from : List ℕ → List Visit → List Visit
visits_from p vs = filter (λ v. begins p v.path) (passes.pass (turn_to p) None tt vs).made

-- these are so many of the first visits of a tree at or below a path, and one more where there is one; the decompositions
-- of the path count as one
abbrev pub IsTrace : List Rule → Tree → List ℕ → ℕ → List TracedVisit → Type 0
IsTrace rules t from most xs =
    AreTraced rules t (length from - 1) (take (suc most) (visits_from from (tree_visits t))) xs

-- ---- dead ends

-- a visit isn't at or below the decomposition before it, by their levels
abbrev pub is_over : Seen → ℕ → ℕ → Bool
is_over (seen.Did d) here last = nat_le here last
is_over seen.Plan here last = nat_lt here last
is_over seen.DepthCut here last = nat_lt here last
is_over seen.LevelCut here last = nat_lt here last
is_over (seen.Fault f) here last = nat_lt here last

-- nothing comes after a decomposition, or nothing at or below it
abbrev pub is_dead_end : ℕ → Option TracedVisit → Bool
is_dead_end level None = true
is_dead_end level (Some next) = is_over next.seen next.level level
