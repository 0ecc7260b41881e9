-- One visit of a walk along a plan.
use Rattle.std.specs.Prelude.{◌≡◌, ◌+◌, ◌-◌, ◌^◌, min, cond, List, map}
use Rattle.std.specs.declared.convert.Infallible.{Infallible}
use Rattle.hp_passes.specs.declared.passing.Turn.{Turn}
use Rattle.hp_passes.specs.declared.passing.Turn.TheVariants.{On, Past, Last}
use Rattle.hp_syntax.specs.GroundViews.{ground_of}
use Rattle.hp_syntax.specs.Terms.{Term}
use Rattle.hp_syntax.specs.Walk.{Sight, Visit, Did, Plan, CutHere, FaultHere}
use Rattle.hp_verify.specs.Kept.{steps_are, steps_begin}
use Rattle.hp_verify.specs.declared.verifying.Answer.TheVariants as answers
use Rattle.hp_verify.specs.declared.verifying.Keeping.{Keeping}
use Rattle.hp_verify.specs.declared.verifying.Verdict.{Verdict}

-- the plan that is looked for
abbrev pub plan_of : Keeping → List Term
plan_of s = map ground_of s.steps.now

-- what a walk along a plan has come to after a visit, by its sight: a decomposition more, which it goes past where its
-- steps don't begin the plan; a plan, which ends it where its steps are those; a cut; or a fault, which ends it
abbrev pub Comes : Sight → Keeping → Visit → Turn → Verdict → Type 0
Comes Did s v x w =
    (x ≡ cond (steps_begin v.node.steps (plan_of s)) On Past)
    × (w ≡ record s.verdict { expansions = min (s.verdict.expansions + 1) (2 ^ 64 - 1) })
Comes Plan s v x w =
    (x ≡ cond (steps_are v.node.steps (plan_of s)) Last On)
    × (w ≡ cond (steps_are v.node.steps (plan_of s)) (record s.verdict { answer = answers.Derived }) s.verdict)
Comes CutHere s v x w = (x ≡ On) × (w ≡ record s.verdict { answer = answers.NoCut })
Comes (FaultHere f) s v x w = (x ≡ Last) × (w ≡ record s.verdict { answer = answers.Fault f })

abbrev pub meets_keeping : Keeping → Unit {0} → Visit → Turn → Keeping → Unit {0} → Type 0
meets_keeping s c v x t d = (t.steps ≡ s.steps) × Comes v.sight s v x t.verdict

-- no visit fails
abbrev pub fails_keeping : Keeping → Unit {0} → Visit → Infallible → Unit {0} → Type 0
fails_keeping s c v e d = ⊥
