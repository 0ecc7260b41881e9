-- What is told of a bounded walk, by what was found.
use Rattle.std.proofs.Common.{ℕ, ◌≤◌, Bool, List, Option, Result}
use Rattle.hp_best.specs.Bounded.{IsFound, bounded, chosen_plan, last_of, end_told}
use Rattle.hp_best.specs.declared.bounding.Found.{Found}
use Rattle.hp_out.specs.Writing.{sink_run, Wrote}
use Rattle.hp_syntax.specs.declared.status.Status.{Status}
use Rattle.hp_syntax.specs.Report.{ending_text, nothing_seen, status_of}
use Rattle.hp_syntax.specs.Walk.{Visit}
use Rattle.hp_telling.specs.declared.halt.Halt.{Halt}
use Rattle.hp_telling.specs.BestReports.{best_report, chosen_text, unless_fault}
use Rattle.hp_telling.specs.Telling.{IsTold}
use Rattle.hp_telling.proofs.ReportLemmas.{ending_saturates}
use Rattle.hp_telling.proofs.TellingLemmas.{told_behind}

-- where what was found was written, and the ending line is told after it, the bounded walk is told
pub found_told : (priced : Bool) (f : Found) (vs : List Visit) (o : Result Status Halt) (i j k : ℕ)
    (old mid new : Option (List ℕ)) → IsFound priced f vs → i ≤ j
    → Wrote (unless_fault (end_told f.ending) (chosen_text (chosen_plan (bounded priced vs)))) old mid
    → IsTold (ending_text (end_told f.ending) f.plans f.expansions, status_of (end_told f.ending) f.plans) o
    (sink_run j k mid new) → IsTold (best_report priced vs) o (sink_run i k old new)
found_told priced f vs o i j k old mid new h l w t =
    let e = last_of nothing_seen (bounded priced vs) in
    rw (
      ← h.ending,
      ← h.plans,
      ← ending_saturates (end_told f.ending) f.plans e.tally.expansions,
      ← h.expansions,
    )
    (told_behind (unless_fault (end_told f.ending) (chosen_text (chosen_plan (bounded priced vs)))) _ o i j k old mid
    new l w t)
