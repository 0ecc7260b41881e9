-- What is made of one visit of a trace.
use Rattle.std.specs.Prelude.{◌≡◌, ℕ, ◌+◌, ◌-◌, ◌==◌, true, ◌&&◌, cond, List, [], length, map, Option, Some}
use Rattle.hp_dead_ends.specs.DeadEnds.{IsDeadEnd, ends_at}
use Rattle.hp_net.specs.Standings.{Standing, Tree, left_after, node_reached}
use Rattle.hp_obstacles.specs.declared.obstacles.Stuck as made
use Rattle.hp_obstacles.specs.Obstacles.{Stuck, all_stuck, stuck_of}
use Rattle.hp_passes.specs.Passing.{at_visit}
use Rattle.hp_syntax.specs.Syntax.{Rule}
use Rattle.hp_syntax.specs.Walk.{Sight, Visit, Did, begins, is_did}
use Rattle.hp_trace.specs.declared.tracing.Seen.{Seen}
use Rattle.hp_trace.specs.declared.tracing.Seen.TheVariants as seen
use Rattle.hp_trace.specs.declared.tracing.TracedVisit.{TracedVisit}
use Rattle.hp_trace.specs.Reaching.{ComesNext}
use Rattle.hp_trace.specs.Traces.{IsTraced}

-- a cut at so many decompositions below the root of a tree of a depth
abbrev pub seen_cut : ℕ → ℕ → Seen
seen_cut level depth = cond (level == depth) seen.DepthCut seen.LevelCut

-- a decomposition is a dead end exactly where no visit comes next at or below it
pub record TellsDead (t : Tree) (v : Visit) (ws : List Visit) : Type 0 where
  pub dead : ends_at v.path ws ≡ true → IsDeadEnd t.rules t.nest v.node
  pub over : IsDeadEnd t.rules t.nest v.node → ends_at v.path ws ≡ true

-- a walk stands at a visit at or below a path, where this is seen and these visits are left
pub record IsHere (t : Tree) (p : List ℕ) (x : Sight) (s : Standing) (v : Visit) (ws : List Visit) : Type 0 where
  pub stands : s ≡ at_visit v ws
  pub sight : v.sight ≡ x
  pub below : begins p v.path ≡ true
  pub node : node_reached t s ≡ Some v.node
  pub depth : v.node.depth + length v.path ≡ t.root.depth
  pub tells : v.sight ≡ Did → TellsDead t v ws

-- what keeps the tasks there from being done is known where no visit comes next at or below a decomposition
abbrev pub stuck_at : List Rule → ℕ → Visit → List Visit → List Stuck
stuck_at rules nest v ws = cond (is_did v.sight && ends_at v.path ws) (all_stuck rules nest v.node) []

-- that is asked, and the walk goes on to the next visit at or below the path
pub record GoesOn (rules : List Rule) (t : Tree) (p : List ℕ) (v : Visit) (ws : List Visit)
    (asked : List made.Stuck) (to : Option Sight) (s : Standing) : Type 0 where
  pub stuck : map stuck_of asked ≡ stuck_at rules t.nest v ws
  pub next : ComesNext p (left_after v ws) to s

-- the visit is traced
pub record Traces (rules : List Rule) (t : Tree) (p : List ℕ) (v : Visit) (ws : List Visit) (x : TracedVisit)
    (to : Option Sight) (s : Standing) : Type 0 where
  pub traced : IsTraced rules t (length p - 1) v x
  pub next : ComesNext p (left_after v ws) to s
