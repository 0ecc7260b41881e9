-- What is known of why a pair has no plan.
use Rattle.std.specs.Prelude.{ℕ, List, map}
use Rattle.hp_syntax.specs.GroundViews.{ground_of}
use Rattle.hp_syntax.specs.Syntax.{Rule}
use Rattle.hp_syntax.specs.Terms.{Term}
use Rattle.hp_syntax.specs.Walk.{Node}
use Rattle.hp_obstacles.specs.Obstacles.{Stuck, all_stuck, stuck_of}
use Rattle.hp_doctor_why.specs.declared.reasons.Cut as made
use Rattle.hp_doctor_why.specs.declared.reasons.Reason as held

-- the steps before a node, the atoms that are protected there, and what keeps its tasks from being done
pub record Reason : Type 0 where
  pub steps : List Term
  pub guards : List Term
  pub tasks : List Stuck

abbrev pub reason_at : List Rule → ℕ → Node → Reason
reason_at rules nest n = record { steps = n.steps; guards = n.guards; tasks = all_stuck rules nest n }

-- as they are kept
abbrev pub kept : held.Reason → Reason
kept r = record {
  steps = map ground_of r.steps.items;
  guards = map ground_of r.guards.items;
  tasks = map stuck_of r.tasks.items;
}

-- what is known of a node that the depth cut: the tasks of the decompositions that lead there, and those that may be
-- done next
pub record Cut : Type 0 where
  pub way : List Term
  pub left : List Term

abbrev pub cut_of : made.Cut → Cut
cut_of c = record { way = map ground_of c.way.items; left = map ground_of c.left.items }
