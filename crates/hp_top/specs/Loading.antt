-- The load of files, and the causes for which a run goes no further.
use Rattle.std.specs.Prelude.{◌≡◌, ◌⊎◌, ℕ, ◌+◌, List, Option, Some, None, Result, Ok, Err, map, take}
use Rattle.hp_io.specs.declared.folder.Input.{Input}
use Rattle.hp_io.specs.declared.folder.Input.TheVariants as inputs
use Rattle.hp_io.specs.Rules.{Rose}
use Rattle.hp_forms.specs.declared.texts.FileRefusal.{FileRefusal}
use Rattle.hp_forms.specs.declared.texts.FileRefusal.TheVariants as files
use Rattle.hp_terms.specs.declared.refusal.FormRefusal.{FormRefusal}
use Rattle.hp_terms.specs.declared.refusal.FormRefusal.TheVariants as forms
use Rattle.hp_text.specs.declared.forest.TextRefusal.{TextRefusal}
use Rattle.hp_text.specs.declared.forest.TextRefusal.TheVariants as texts
use Rattle.hp_syntax.specs.declared.limits.TheConstants.{LARGEST_TEXT}
use Rattle.hp_syntax.specs.Grammar.{domain_form, problem_form}
use Rattle.hp_syntax.specs.Syntax.{Domain, Problem}
use Rattle.hp_out.specs.declared.refusal.Refusal.TheVariants as refusals
use Rattle.hp_top.specs.declared.loading.LoadError.{LoadError}
use Rattle.hp_top.specs.declared.loading.LoadError.TheVariants as causes
use Rattle.hp_top.specs.declared.loading.Loaded.{Loaded}
use Rattle.hp_top.specs.declared.loading.LoadedPlan.{LoadedPlan}
use Rattle.hp_syntax.specs.GroundViews.{ground_of}
use Rattle.hp_syntax.specs.Terms.{Term}
use Rattle.hp_words.specs.Command.{Verification}
use Rattle.hp_syntax.specs.Views.{domain_of, problem_of}
use Rattle.hp_syntax.specs.TextForms.{Form, IsRead}
use Rattle.hp_top.specs.Outcome.{Why, IsUnreadable, refusal_of, Both, steps_form}

-- a file as a folder tells it: nothing, that there is none, or its bytes
abbrev pub ToldFile : Type 0
ToldFile = Option (Option (List ℕ))

-- the run of a folder through a call: its files, which stay as they are told, and each input's count of faults before
-- and after
pub record FolderRun : Type 0 where
  pub file : List ℕ → ToldFile
  pub before : Input → ℕ
  pub now : Input → ℕ

abbrev pub folder_run : (List ℕ → ToldFile) → (Input → ℕ) → (Input → ℕ) → FolderRun
folder_run file before now = record { file = file; before = before; now = now }

-- the prefix of a told file, up to one byte past the longest text
abbrev pub ReadsFile : List ℕ → ToldFile → Type 0
ReadsFile bytes None = Unit {0}
ReadsFile bytes (Some None) = ⊥
ReadsFile bytes (Some (Some text)) = bytes ≡ take (LARGEST_TEXT + 1) text

-- a fact of a told file's text; a file that is told to be missing has none
abbrev pub Holds : (List ℕ → Type 0) → ToldFile → Type 0
Holds P None = Unit {0}
Holds P (Some None) = ⊥
Holds P (Some (Some text)) = P text

-- ---- one file

-- some text is read as this by a grammar
abbrev pub HasText : {A : Type 0} → Form A → A → Type 0
HasText form x = (text : List ℕ) × IsRead form text x

-- a told file is read as this by a grammar
abbrev pub Reads : {A : Type 0} → Form A → ToldFile → A → Type 0
Reads form file x = Holds (λ text. IsRead form text x) file

-- an input is unread only where its count of faults rose, or where its file is told to be missing
abbrev pub IsUnread : Input → ToldFile → (Input → ℕ) → (Input → ℕ) → Type 0
IsUnread which file before now = Rose (before which) (now which) ⊎ (file ≡ Some None)

-- the cause that tells why a text is read as nothing
abbrev pub cause_of : Input → Why → LoadError
cause_of which why = causes.Refused (refusal_of which why)

-- the cause of a refused text, and of a forest without a form
abbrev pub of_text : Input → TextRefusal → LoadError
of_text which (texts.Bad kind offset) = causes.Refused (refusals.Text which kind offset)
of_text which texts.NoMemory = causes.NoMemory

abbrev pub of_form : Input → FormRefusal → LoadError
of_form which (forms.Expected what span) = causes.Refused (refusals.Form which what span)
of_form which forms.NoMemory = causes.NoMemory

-- the cause of either
abbrev pub of_file : Input → FileRefusal → LoadError
of_file which (files.Text refusal) = of_text which refusal
of_file which (files.Form refusal) = of_form which refusal

-- bytes are read as nothing for this cause, or there is too little memory to know
pub data IsRefusedFor {A : Type 0} (which : Input) (form : Form A) (bytes : List ℕ) (cause : LoadError) : Type 0 where
  WithoutMemory : cause ≡ causes.NoMemory → IsRefusedFor which form bytes cause
  Unreadable : (why : Why) → cause ≡ cause_of which why → IsUnreadable form bytes why
      → IsRefusedFor which form bytes cause

-- a file is read as nothing for this cause
pub data StopsAt {A : Type 0} (which : Input) (form : Form A) (cause : LoadError) (file : ToldFile)
    (before now : Input → ℕ) : Type 0 where
  WithoutMemory : cause ≡ causes.NoMemory → StopsAt which form cause file before now
  Unread : cause ≡ causes.Refused (refusals.Read which) → IsUnread which file before now
      → StopsAt which form cause file before now
  Unreadable : (why : Why) → cause ≡ cause_of which why → Holds (λ text. IsUnreadable form text why) file
      → StopsAt which form cause file before now

-- the load of a told file: its reading, or the cause for which there is none
abbrev pub LoadsTold : {A : Type 0} → Input → Form A → ToldFile → (Input → ℕ) → (Input → ℕ) → Result A LoadError
    → Type 0
LoadsTold which form file before now (Ok x) = Reads form file x
LoadsTold which form file before now (Err cause) = StopsAt which form cause file before now

-- ---- the files of a request

-- a domain is loaded of the file of one name, and then a problem of that of another
abbrev pub LoadsBoth : FolderRun → List ℕ → List ℕ → Result (Domain × Problem) LoadError → Type 0
LoadsBoth folder domain problem loaded =
    Both (LoadsTold inputs.Domain domain_form (folder.file domain) folder.before folder.now)
    (LoadsTold inputs.Problem problem_form (folder.file problem) folder.before folder.now) loaded

-- and then the steps of a plan, of that of a third
abbrev pub LoadsThree : FolderRun → Verification → Result ((Domain × Problem) × List Term) LoadError → Type 0
LoadsThree folder v loaded =
    Both (LoadsBoth folder v.domain v.problem)
    (LoadsTold inputs.Plan steps_form (folder.file v.plan) folder.before folder.now) loaded

-- a domain is loaded of the file of one name
abbrev pub LoadsAlone : FolderRun → List ℕ → Result Domain LoadError → Type 0
LoadsAlone folder name = LoadsTold inputs.Domain domain_form (folder.file name) folder.before folder.now

-- the view of a load in memory
abbrev pub plain_of : Result Loaded LoadError → Result (Domain × Problem) LoadError
plain_of (Ok l) = Ok (domain_of l.domain, problem_of l.problem)
plain_of (Err cause) = Err cause

-- with the steps of a plan
abbrev pub plain_with_plan : Result LoadedPlan LoadError → Result ((Domain × Problem) × List Term) LoadError
plain_with_plan (Ok l) =
    Ok ((domain_of l.files.domain, problem_of l.files.problem), map ground_of l.steps.items)
plain_with_plan (Err cause) = Err cause
