-- How a run ends that is to tell an answer.
use Rattle.std.specs.Prelude.{◌≡◌, Result, Ok, Err}
use Rattle.hp_io.specs.Rules.{Rose}
use Rattle.hp_out.specs.Writing.{SinkRun, Wrote, WrotePrefix, WroteProperPrefix}
use Rattle.hp_syntax.specs.Report.{Answer}
use Rattle.hp_syntax.specs.declared.status.Status.{Status}
use Rattle.hp_syntax.specs.declared.status.Status.TheVariants as status
use Rattle.hp_telling.specs.declared.halt.Halt.{Halt}
use Rattle.hp_telling.specs.declared.halt.Halt.TheVariants.{NoMemory, Failed}

-- how a run ends that is to write a text and to end with a status: as it is to, or for want of memory
-- after a prefix of the text, or by a fault of the sink after a proper prefix
pub data Tells (a : Answer) (s : Status) (r : SinkRun) : Type 0 where
  WithoutMemory : s ≡ status.NoMemory → WrotePrefix a.0 r.before r.after → Tells a s r
  Unwritten : s ≡ status.WriteFault → Rose r.faults_before r.faults_after
      → WroteProperPrefix a.0 r.before r.after → Tells a s r
  Written : s ≡ a.1 → Wrote a.0 r.before r.after → Tells a s r

-- the status of a run whose answer was told, or whose telling stopped
abbrev pub status_told : Result Status Halt → Status
status_told (Ok s) = s
status_told (Err NoMemory) = status.NoMemory
status_told (Err Failed) = status.WriteFault
