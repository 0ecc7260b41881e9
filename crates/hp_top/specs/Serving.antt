-- How a run ends, and why.
use Rattle.std.specs.Prelude.{◌≡◌, ℕ, List, Some, None, Result, codes}
use Rattle.hp_io.specs.declared.folder.Input.{Input}
use Rattle.hp_out.specs.Writing.{SinkRun}
use Rattle.hp_out.specs.declared.refusal.Refusal.TheVariants as refusals
use Rattle.hp_syntax.specs.Report.{Answer}
use Rattle.hp_syntax.specs.declared.status.Status.{Status}
use Rattle.hp_syntax.specs.declared.status.Status.TheVariants as status
use Rattle.hp_top.specs.declared.loading.LoadError.{LoadError}
use Rattle.hp_top.specs.declared.loading.LoadError.TheVariants as causes
use Rattle.hp_words.specs.Command.{Command, Verification, OnFiles, Verifying, Listing, Making, accepts}
use Rattle.hp_top.specs.Making.{made_files, made_command}
use Rattle.hp_top.specs.Outcome.{refusal_answer, answer_of_pair, answer_of_plan, answer_to, listing_answer}
use Rattle.hp_top.specs.Loading.{FolderRun, folder_run, LoadsAlone, LoadsBoth, LoadsThree}
use Rattle.hp_top.specs.Telling.{Tells}

-- the answer where the files aren't read
abbrev pub load_answer : LoadError → Answer
load_answer causes.NoMemory = (codes "", status.NoMemory)
load_answer (causes.Refused r) = refusal_answer r

-- something is loaded, and what comes of it is told
pub record Serves {X : Type 0} (Loads : Result X LoadError → Type 0) (answer : X → Answer) (s : Status) (r : SinkRun)
    : Type 0 where
  pub loaded : Result X LoadError
  pub loads : Loads loaded
  pub tells : Tells (answer_to load_answer answer loaded) s r

-- how a command over two files ends
abbrev pub ServesCommand : Command → FolderRun → Status → SinkRun → Type 0
ServesCommand c folder = Serves (LoadsBoth folder c.domain c.problem) (answer_of_pair c)

-- how the verification of a plan ends
abbrev pub ServesVerification : Verification → FolderRun → Status → SinkRun → Type 0
ServesVerification v folder = Serves (LoadsThree folder v) (answer_of_plan v)

-- how the listing of a domain ends
abbrev pub ServesListing : List ℕ → FolderRun → Status → SinkRun → Type 0
ServesListing domain folder = Serves (LoadsAlone folder domain) listing_answer

-- no input has met a fault
abbrev pub no_faults : Input → ℕ
no_faults which = 0

-- the files that are made are told whole, and none fails
abbrev pub made_run : ℕ → ℕ → FolderRun
made_run seed packages = folder_run (λ name. Some (made_files seed packages name)) no_faults no_faults

-- how a run ends: the words are no command, or they are one, which is served, or what they ask to be made is
pub data Ends (words : List (List ℕ)) (folder : FolderRun) (s : Status) (r : SinkRun) : Type 0 where
  NoCommand : accepts words ≡ None → Tells (refusal_answer refusals.Usage) s r → Ends words folder s r
  ByCommand : (c : Command) → accepts words ≡ Some (OnFiles c) → ServesCommand c folder s r → Ends words folder s r
  ByVerifying : (v : Verification) → accepts words ≡ Some (Verifying v) → ServesVerification v folder s r
      → Ends words folder s r
  ByListing : (domain : List ℕ) → accepts words ≡ Some (Listing domain) → ServesListing domain folder s r
      → Ends words folder s r
  ByMaking : (seed packages : ℕ) → accepts words ≡ Some (Making seed packages)
      → ServesCommand (made_command seed packages) (made_run seed packages) s r → Ends words folder s r
