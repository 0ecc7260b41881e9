-- What `lint` writes of two files: what they are refused for, or all remarks on them and how many there are.
use Rattle.std.specs.Prelude.{◌≡◌, ℕ, List, [], ◌++◌, length, Option, Some, None, Result, Ok, Err, codes, decimal}
use Rattle.std.specs.List.{flat_map}
use Rattle.hp_io.specs.Rules.{Rose}
use Rattle.hp_lint.specs.declared.report.Concern.{Concern}
use Rattle.hp_lint.specs.declared.report.Concern.TheVariants as concerns
use Rattle.hp_lint.specs.Remarked.{Remark}
use Rattle.hp_lint.specs.Remarks.{remarks}
use Rattle.hp_out.specs.Lines.{text_of}
use Rattle.hp_out.specs.RefusalTexts.{refusal_text}
use Rattle.hp_out.specs.Writing.{SinkRun, Wrote, WrotePrefix, WroteProperPrefix}
use Rattle.hp_out.specs.declared.refusal.Refusal.{Refusal}
use Rattle.hp_syntax.specs.Report.{Answer}
use Rattle.hp_syntax.specs.Syntax.{Domain, Problem}
use Rattle.hp_syntax.specs.declared.status.Status.{Status}
use Rattle.hp_syntax.specs.declared.status.Status.TheVariants as status
use Rattle.hp_doctor.specs.declared.remarking.TheConstants as says
use Rattle.hp_doctor.specs.declared.telling.Halt.{Halt}
use Rattle.hp_doctor.specs.declared.telling.Halt.TheVariants.{NoMemory, Failed}
use Rattle.hp_doctor.specs.Accepting.{AreRefused, IsAccepted, refusal_status}
use Rattle.hp_doctor.specs.Explained.{explained, told_in}
use Rattle.hp_doctor.specs.Texts.{Texts, chosen}

-- ---- a remark

-- what stands in its sentence before the name, and behind it
abbrev pub opening : Concern → List ℕ
opening concerns.NothingGives = says.GIVES.now
opening concerns.NoRule = says.DOES.now
opening concerns.StandsOnce = says.VARIABLE.now
opening concerns.Unbound = says.VARIABLE.now
opening concerns.NamedLikeCall = says.GIVES.now
opening concerns.NeverReached = says.BRANCH.now
opening concerns.NeverAsked = says.ASKS.now

abbrev pub closing : Concern → List ℕ
closing concerns.NothingGives = says.WITH_ARGUMENTS.now
closing concerns.NoRule = says.WITH_ARGUMENTS.now
closing concerns.StandsOnce = says.ONCE.now
closing concerns.Unbound = says.UNBOUND.now
closing concerns.NamedLikeCall = says.LIKE_CALL.now
closing concerns.NeverReached = says.HIDDEN.now
closing concerns.NeverAsked = says.WITH_ARGUMENTS.now

abbrev pub quoted : Option (List ℕ) → List ℕ
quoted None = []
quoted (Some name) = codes " `" ++ name ++ codes "`"

abbrev pub remark_sentence : Remark → List ℕ
remark_sentence r = opening r.concern ++ quoted r.name ++ closing r.concern

-- the sentence at its place in the file that it is about
abbrev pub remark_text : Texts → Remark → List ℕ
remark_text t r = told_in (chosen t (text_of r.in_problem)) (Some r.span) (remark_sentence r)

-- ---- all of it

abbrev pub count_line : ℕ → List ℕ
count_line count = codes "remarks " ++ decimal count ++ codes "\n"

abbrev pub remarks_text : Texts → List Remark → List ℕ
remarks_text t rs = flat_map (remark_text t) rs ++ count_line (length rs)

-- the line by which the planner refuses the files, as it is explained, or the remarks on what is accepted
pub data IsLinted (t : Texts) (a : Answer) : Type 0 where
  Refused : (r : Refusal) → AreRefused t r → a ≡ (explained t (refusal_text r), refusal_status r) → IsLinted t a
  Accepted : (d : Domain) (p : Problem) → IsAccepted t d p → a ≡ (remarks_text t (remarks d p), status.Done)
      → IsLinted t a

-- ---- how it is told

-- a text was written and the status answered, or a prefix of it for want of memory, or a proper prefix by a fault of
-- the sink
pub data Tells (a : Answer) (s : Status) (r : SinkRun) : Type 0 where
  Whole : s ≡ a.1 → Wrote a.0 r.before r.after → Tells a s r
  WithoutMemory : s ≡ status.NoMemory → WrotePrefix a.0 r.before r.after → Tells a s r
  Unwritten : s ≡ status.WriteFault → Rose r.faults_before r.faults_after → WroteProperPrefix a.0 r.before r.after
      → Tells a s r

-- what `lint` has to write was told, or memory was wanting before it was known, and nothing was written
pub data Lints (t : Texts) (s : Status) (r : SinkRun) : Type 0 where
  Told : (a : Answer) → IsLinted t a → Tells a s r → Lints t s r
  Unknown : s ≡ status.NoMemory → Wrote [] r.before r.after → Lints t s r

-- the status of a telling that came to its end, or stopped
abbrev pub status_told : {A : Type 0} → Result A Halt → Status → Status
status_told (Ok x) s = s
status_told (Err NoMemory) s = status.NoMemory
status_told (Err Failed) s = status.WriteFault
