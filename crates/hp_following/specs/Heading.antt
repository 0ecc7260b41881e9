-- One visit of a walk along a plan to a path.
use Rattle.std.specs.Prelude.{◌≡◌, ◌⊎◌, Bool, true, false, cond, List, map}
use Rattle.hp_following.specs.declared.standing.Heading.{Heading}
use Rattle.hp_passes.specs.declared.passing.Turn.{Turn}
use Rattle.hp_passes.specs.declared.passing.Turn.TheVariants.{On, Past, Last}
use Rattle.hp_syntax.specs.GroundViews.{ground_of}
use Rattle.hp_syntax.specs.Terms.{Term}
use Rattle.hp_syntax.specs.Walk.{Sight, Visit, Did, Plan, CutHere, FaultHere, told}
use Rattle.hp_verify.specs.Kept.{steps_are, steps_begin}

-- the plan that is followed
abbrev pub plan_of : Heading → List Term
plan_of s = map ground_of s.plan.now

abbrev pub IsThere : Heading → Visit → Type 0
IsThere s v = told v.path ≡ s.target.now

-- a decomposition whose steps begin the plan ends the walk at the path; what lies below one whose steps don't is left
-- out
abbrev pub Begins : Bool → Heading → Visit → Turn → Type 0
Begins true s v x = (IsThere s v × (x ≡ Last)) ⊎ ((IsThere s v → ⊥) × (x ≡ On))
Begins false s v x = x ≡ Past

-- what a visit makes of a walk along a plan to a path, by its sight
abbrev pub Comes : Sight → Heading → Visit → Turn → Type 0
Comes Did s v x = Begins (steps_begin v.node.steps (plan_of s)) s v x
Comes Plan s v x = x ≡ cond (steps_are v.node.steps (plan_of s)) Last On
Comes CutHere s v x = x ≡ On
Comes (FaultHere f) s v x = x ≡ Last

abbrev pub MeetsHeading : Heading → Unit {0} → Visit → Turn → Heading → Unit {0} → Type 0
MeetsHeading s c v x t d = (t ≡ s) × Comes v.sight s v x
