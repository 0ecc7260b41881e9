-- The telling of a walk: the text of a plan, what a visit makes of the telling, and how it stops in the middle.
use Rattle.std.specs.Prelude.{◌≡◌, ℕ, ◌+◌, ◌≤◌, Bool, true, cond, nat_le, List, Result, Ok, Err}
use Rattle.hp_io.specs.Rules.{Rose}
use Rattle.hp_out.specs.Writing.{SinkRun, Wrote, WrotePrefix, WroteProperPrefix}
use Rattle.hp_out.specs.declared.ending.Ending.TheVariants as endings
use Rattle.hp_passes.specs.declared.passing.Turn.{Turn}
use Rattle.hp_passes.specs.declared.passing.Turn.TheVariants.{On, Last}
use Rattle.hp_syntax.specs.Report.{Answer, line_of, plan_of, shown}
use Rattle.hp_syntax.specs.Walk.{Visit, Did, Plan, CutHere, FaultHere, count_told}
use Rattle.hp_syntax.specs.declared.status.Status.{Status}
use Rattle.hp_telling.specs.declared.planning.Detail.{Detail}
use Rattle.hp_telling.specs.declared.planning.Detail.TheVariants as details
use Rattle.hp_telling.specs.declared.planning.Telling.{Telling}
use Rattle.hp_telling.specs.declared.halt.Halt.{Halt}
use Rattle.hp_telling.specs.declared.halt.Halt.TheVariants.{NoMemory, Failed}

-- the text that tells a plan
abbrev pub telling : Detail → ℕ → Visit → List ℕ
telling details.Line = line_of
telling (details.Steps states paths) = plan_of (shown states paths)

-- the telling of a text stops: for want of memory, with a prefix of it written, or because the sink's
-- count rose, with a proper prefix
abbrev pub Halts : Halt → List ℕ → SinkRun → Type 0
Halts NoMemory text r = WrotePrefix text r.before r.after
Halts Failed text r = Rose r.faults_before r.faults_after × WroteProperPrefix text r.before r.after

-- an answer was told: its text was written and its status answered, or the telling stopped in it
abbrev pub IsTold : Answer → Result Status Halt → SinkRun → Type 0
IsTold a (Ok s) r = (s ≡ a.1) × Wrote a.0 r.before r.after
IsTold a (Err h) r = Halts h a.0 r

-- ---- a visit

-- the number of the next plan, whether that is the last that is asked, and its text
abbrev pub next_number : Telling → ℕ
next_number s = count_told (s.progress.plans + 1)

abbrev pub is_last : Telling → Bool
is_last s = nat_le s.plans (next_number s)

abbrev pub next_text : Telling → Visit → List ℕ
next_text s v = telling s.detail (next_number s) v

-- what a visit makes of a telling: a plan is written and counted, and ends the telling where it is the last that is
-- asked; a fault ends it; a decomposition is counted and a cut is marked, and nothing is written
abbrev pub Tells : Telling → Visit → Turn → Telling → SinkRun → Type 0
Tells s v t u r =
    (r.faults_before ≤ r.faults_after)
    × (elim v.sight [
      | Did ↦ (t ≡ On)
          × (u ≡ record s { progress = record s.progress { expansions = count_told (s.progress.expansions + 1) } })
          × (r.after ≡ r.before)
      | Plan ↦ (t ≡ cond (is_last s) Last On)
          × (u ≡ record s {
            progress = record s.progress { plans = next_number s };
            ending = cond (is_last s) endings.Stopped s.ending;
          })
          × Wrote (next_text s v) r.before r.after
      | CutHere ↦ (t ≡ On)
          × (u ≡ record s { progress = record s.progress { is_cut = true }; ending = endings.Cut })
          × (r.after ≡ r.before)
      | FaultHere f ↦ (t ≡ Last) × (u ≡ record s { ending = endings.Fault f }) × (r.after ≡ r.before)
    ])

-- a telling stops at a visit: in the text of a plan
abbrev pub StopsAt : Telling → Visit → Halt → SinkRun → Type 0
StopsAt s v h r = (r.faults_before ≤ r.faults_after) × (v.sight ≡ Plan) × Halts h (next_text s v) r
