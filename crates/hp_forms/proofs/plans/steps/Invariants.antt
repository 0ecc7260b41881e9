use Rattle.std.proofs.Common.{◌≡◌, drop, map}
use Rattle.hp_syntax.specs.GroundViews.{ground_of}
use Rattle.hp_text.specs.Nodes.{nodes_of}
use Rattle.hp_forms.specs.PlanForms.{plan_form}
use Rattle.hp_forms.proofs.PlanSteps.{prepend}
use Rattle.hp_forms.proofs.plans.steps.Given as goal

-- the steps so far and those from here on are the steps of all nodes
abbrev pub invariant-loop-node : goal.invariant-loop-node
invariant-loop-node l =
    plan_form (nodes_of l.nodes)
    ≡ prepend (map ground_of l.steps.items) (plan_form (nodes_of (drop l.node-index l.nodes)))
