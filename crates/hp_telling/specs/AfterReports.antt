-- What is told of the walk to a path, and of the visits behind the plan there.
use Rattle.std.specs.Prelude.{ℕ, List}
use Rattle.hp_after.specs.Reach.{Coming, reaching}
use Rattle.hp_after.specs.declared.reaching.Reached.TheVariants as reached
use Rattle.hp_out.specs.Lines.{absent_text}
use Rattle.hp_syntax.specs.Report.{Answer, AtFault, ending_text, nothing_seen, report}
use Rattle.hp_syntax.specs.declared.status.Status.TheVariants as status
use Rattle.hp_syntax.specs.Walk.{Visit, count_told, heard_visits}

-- the report of the visits that are heard, for so many plans, given what is told of a plan
abbrev pub heard_report : (ℕ → Visit → List ℕ) → ℕ → List Visit → Answer
heard_report tell k vs = report tell k nothing_seen (heard_visits vs)

-- what is told of a walk to a path: what is told of the visits behind the plan there, where it came to one; else that
-- there is none, or the fault that was met
abbrev pub told_arrival : (List Visit → Answer) → Coming → List Visit → Answer
told_arrival tell s left =
    elim s.answer [
      | reached.At ↦ tell left
      | reached.Absent ↦ (absent_text (count_told s.expansions), status.NoSuchPath)
      | reached.Fault f ↦ (ending_text (AtFault f) 0 s.expansions, status.RunFault)
    ]

-- what is told of the visits of a tree behind a path
abbrev pub after_report : (List Visit → Answer) → List ℕ → List Visit → Answer
after_report tell p vs = told_arrival tell (reaching p vs).knows (reaching p vs).left
