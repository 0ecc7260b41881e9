-- What one visit makes of a walk to its first plan.
use Rattle.std.specs.Prelude.{◌≡◌, ◌+◌, ◌-◌, ◌^◌, min}
use Rattle.hp_passes.specs.declared.passing.Turn.{Turn}
use Rattle.hp_passes.specs.declared.passing.Turn.TheVariants.{On, Last}
use Rattle.hp_syntax.specs.Walk.{Visit, Did, Plan, CutHere, FaultHere}
use Rattle.hp_shallow.specs.declared.walking.ShallowEnd.TheVariants as ends
use Rattle.hp_shallow.specs.declared.walking.Walked.{Walked}

-- a decomposition is counted, a cut is the answer so far, and a plan or a fault is the answer and the last visit
abbrev pub meets_walked : Walked → Unit {0} → Visit → Turn → Walked → Unit {0} → Type 0
meets_walked s c v x t d =
    elim v.sight [
      | Did ↦ (x ≡ On) × (t.answer ≡ s.answer) × (t.expansions ≡ min (s.expansions + 1) (2 ^ 64 - 1))
      | Plan ↦ (x ≡ Last) × (t.answer ≡ ends.Plan) × (t.expansions ≡ s.expansions)
      | CutHere ↦ (x ≡ On) × (t.answer ≡ ends.Cut) × (t.expansions ≡ s.expansions)
      | FaultHere f ↦ (x ≡ Last) × (t.answer ≡ ends.Fault f) × (t.expansions ≡ s.expansions)
    ]
