-- The promises of the top call.
use Rattle.std.specs.Prelude.{◌≡◌, ◌⊎◌, ℕ, List, ◌++◌, Option, Some, Err}
use Rattle.hp_io.specs.declared.folder.Input.{Input}
use Rattle.hp_syntax.specs.declared.status.Status.{Status}
use Rattle.hp_syntax.specs.declared.status.Status.TheVariants as status
use Rattle.hp_words.specs.Command.{Request, OnFiles, Verifying, Listing, Making, accepts, file_named}
use Rattle.hp_top.specs.Outcome.{Files, Outcome}
use Rattle.hp_top.specs.Loading.{ToldFile, FolderRun, IsUnread, LoadsAlone, LoadsBoth, LoadsThree}
use Rattle.hp_out.specs.declared.refusal.Refusal.TheVariants as refusals
use Rattle.hp_top.specs.declared.loading.LoadError.{LoadError}
use Rattle.hp_top.specs.declared.loading.LoadError.TheVariants as causes
use Rattle.hp_out.specs.Lines.{refused_usage, refused_read}
use Rattle.hp_out.specs.Writing.{SinkRun, Wrote, WrotePrefix, WroteProperPrefix}

-- the folder tells these files
abbrev pub TellsFiles : (List ℕ → ToldFile) → Files → Type 0
TellsFiles file files = (name : List ℕ) → file name ≡ Some (files name)

-- the words come to this status with these files, and the whole text of that was written
pub record IsOutcome (words : List (List ℕ)) (files : Files) (s : Status) (before : List ℕ)
    (now : Option (List ℕ)) : Type 0 where
  pub text : List ℕ
  pub outcome : Outcome words files (text, s)
  pub written : now ≡ Some (before ++ text)

-- words that are no command: the line of usage was written, unless the sink failed
abbrev pub RefusesWords : Status → SinkRun → Type 0
RefusesWords s r = ((s ≡ status.Usage) × Wrote refused_usage r.before r.after) ⊎ (s ≡ status.WriteFault)

-- the files that a request names aren't loaded, for this cause
abbrev pub IsStopped : FolderRun → Request → LoadError → Type 0
IsStopped folder (OnFiles c) cause = LoadsBoth folder c.domain c.problem (Err cause)
IsStopped folder (Verifying v) cause = LoadsThree folder v (Err cause)
IsStopped folder (Listing domain) cause = LoadsAlone folder domain (Err cause)
IsStopped folder (Making seed packages) cause = ⊥

-- the line of an input that couldn't be read: the words name it, and what they name before it was loaded
pub record IsReadLine (words : List (List ℕ)) (folder : FolderRun) (line : List ℕ) : Type 0 where
  pub request : Request
  pub accepted : accepts words ≡ Some request
  pub which : Input
  pub name : List ℕ
  pub has_name : file_named request which ≡ Some name
  pub unread : IsUnread which (folder.file name) folder.before folder.now
  pub loads : IsStopped folder request (causes.Refused (refusals.Read which))
  pub line_is : line ≡ refused_read which

-- an input that the words name couldn't be read, and the one line says so
pub record ReadFails (words : List (List ℕ)) (folder : FolderRun) (r : SinkRun) : Type 0 where
  pub line : List ℕ
  pub cause : IsReadLine words folder line
  pub written : Wrote line r.before r.after

-- a text that a run could write: the outcome's, or the line of an input that couldn't be read
pub data CouldWrite (words : List (List ℕ)) (files : Files) (folder : FolderRun) (text : List ℕ) : Type 0 where
  OfOutcome : (s : Status) → Outcome words files (text, s) → CouldWrite words files folder text
  OfReading : IsReadLine words folder text → CouldWrite words files folder text

-- of a text that the run could write so much was written
pub record WritesSome (much : List ℕ → Option (List ℕ) → Option (List ℕ) → Type 0) (words : List (List ℕ))
    (files : Files) (folder : FolderRun) (r : SinkRun) : Type 0 where
  pub text : List ℕ
  pub could : CouldWrite words files folder text
  pub written : much text r.before r.after

-- a prefix of a text that the run could write was written, maybe all of it; or a proper prefix
abbrev pub WritesPrefix : List (List ℕ) → Files → FolderRun → SinkRun → Type 0
WritesPrefix = WritesSome WrotePrefix

abbrev pub WritesProperPrefix : List (List ℕ) → Files → FolderRun → SinkRun → Type 0
WritesProperPrefix = WritesSome WroteProperPrefix
