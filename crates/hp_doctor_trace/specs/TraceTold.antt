-- What `trace` writes of two files: what they are refused for, or the first visits of the planner's walk.
use Rattle.std.specs.Prelude.{◌≡◌, ◌-◌, ℕ, min, Bool, true, false, cond, List, [], ◌∷◌, length, Option, Some, None, slice_get}
use Rattle.hp_code.specs.Lowered.{lowered_rules}
use Rattle.hp_net.specs.Standings.{Tree}
use Rattle.hp_out.specs.RefusalTexts.{refusal_text}
use Rattle.hp_out.specs.Writing.{SinkRun}
use Rattle.hp_out.specs.declared.refusal.Refusal.{Refusal}
use Rattle.hp_out.specs.declared.refusal.Refusal.TheVariants.{NoPair}
use Rattle.hp_syntax.specs.declared.status.Status.{Status}
use Rattle.hp_syntax.specs.declared.status.Status.TheVariants as status
use Rattle.hp_syntax.specs.Report.{Answer}
use Rattle.hp_syntax.specs.Syntax.{Domain, Pair, Problem, Rule}
use Rattle.hp_syntax.specs.Walk.{root}
use Rattle.hp_trace.specs.declared.tracing.Seen.{Seen}
use Rattle.hp_trace.specs.declared.tracing.Seen.TheVariants as seen
use Rattle.hp_trace.specs.declared.tracing.TracedVisit.{TracedVisit}
use Rattle.hp_trace.specs.Traces.{IsTrace}
use Rattle.hp_doctor.specs.Accepting.{AreRefused, IsAccepted, refusal_status}
use Rattle.hp_doctor.specs.Explained.{explained}
use Rattle.hp_doctor.specs.Texts.{Texts}
use Rattle.hp_doctor_tree.specs.TreeTold.{TellsOf, pair_at}
use Rattle.hp_doctor_trace.specs.declared.traces.Asked.{Asked}
use Rattle.hp_doctor_trace.specs.declared.traces.TheConstants as says
use Rattle.hp_doctor_trace.specs.Lines.{trace_text}

-- ---- the status

abbrev pub seen_status : Seen → Status
seen_status (seen.Did d) = status.Done
seen_status seen.Plan = status.Done
seen_status seen.DepthCut = status.Done
seen_status seen.LevelCut = status.Done
seen_status (seen.Fault f) = status.RunFault

abbrev pub status_by : Option TracedVisit → Status
status_by None = status.Done
status_by (Some v) = seen_status v.seen

-- that of the last visit that is told: a fault is always the last of a walk
abbrev pub trace_status : ℕ → List TracedVisit → Status
trace_status most vs = status_by (slice_get vs (min most (length vs) - 1))

-- ---- what is told of a pair

-- below the root there is a visit at a path, its decomposition, if there is any at or below it
abbrev pub is_absent : List ℕ → List TracedVisit → Bool
is_absent [] vs = false
is_absent (i ∷ from) [] = true
is_absent (i ∷ from) (v ∷ vs) = false

abbrev pub trace_answer : Texts → List Rule → List ℕ → ℕ → List TracedVisit → Answer
trace_answer t rules from most vs =
    cond (is_absent from vs) (says.NO_DECOMPOSITION.now, status.NoSuchPath)
    (trace_text t rules most vs, trace_status most vs)

-- the tree of a pair by the lowered rules, which is that of the rules
abbrev pub tree_of : Asked → List Rule → Pair → Tree
tree_of a rules pair = record { rules = lowered_rules rules; nest = a.nest; root = root pair a.depth }

-- the first visits of the tree at or below the path: so many, and one more to know whether there are others; at dead ends
-- with what keeps the tasks there from being done, by the rules of the domain
pub record IsTraceOf (t : Texts) (a : Asked) (rules : List Rule) (pair : Pair) (answer : Answer) : Type 0 where
  pub visits : List TracedVisit
  pub are : IsTrace rules (tree_of a rules pair) a.from.now a.most visits
  pub is : answer ≡ trace_answer t rules a.from.now a.most visits

-- ---- what is told of the files

-- the line by which the planner refuses the files, as it is explained; or that there is no such pair; or what is told
-- of the pair
pub data IsTold (t : Texts) (a : Asked) (answer : Answer) : Type 0 where
  Refused : (r : Refusal) → AreRefused t r → answer ≡ (explained t (refusal_text r), refusal_status r)
      → IsTold t a answer
  Pairless : (d : Domain) (p : Problem) → IsAccepted t d p → pair_at a.pair p.pairs ≡ None
      → answer ≡ (explained t (refusal_text (NoPair a.pair (length p.pairs))), status.ProblemRefused)
      → IsTold t a answer
  Accepted : (d : Domain) (p : Problem) (pair : Pair) → IsAccepted t d p → pair_at a.pair p.pairs ≡ Some pair
      → IsTraceOf t a d.rules pair answer → IsTold t a answer

-- that is told, or memory ran out before it was known, and nothing was written
abbrev pub TellsTrace : Texts → Asked → Status → SinkRun → Type 0
TellsTrace t a s r = TellsOf (IsTold t a) s r
