-- How the texts of a domain and a problem are read and checked, and as what they are refused.
use Rattle.std.specs.Prelude.{◌≡◌, ℕ, List, ◌++◌, length, Option, Some, None, Err}
use Rattle.hp_io.specs.declared.folder.Input.{Input}
use Rattle.hp_io.specs.declared.folder.Input.TheVariants as inputs
use Rattle.hp_out.specs.Lines.{text_of}
use Rattle.hp_out.specs.declared.refusal.Refusal.{Refusal}
use Rattle.hp_out.specs.declared.refusal.Refusal.TheVariants as refusals
use Rattle.hp_syntax.specs.declared.check.CheckFault.{CheckFault}
use Rattle.hp_syntax.specs.declared.form.What.{What}
use Rattle.hp_syntax.specs.declared.pattern.Span.{Span}
use Rattle.hp_syntax.specs.declared.status.Status.{Status}
use Rattle.hp_syntax.specs.declared.status.Status.TheVariants as status
use Rattle.hp_syntax.specs.Checks.{first_of, domain_faults, problem_faults}
use Rattle.hp_syntax.specs.Forest.{Forest, IsForest}
use Rattle.hp_syntax.specs.Grammar.{domain_form, problem_form}
use Rattle.hp_syntax.specs.Refusal as texts
use Rattle.hp_syntax.specs.Refusal.{IsRefused}
use Rattle.hp_syntax.specs.Steps.{Expected}
use Rattle.hp_syntax.specs.Syntax.{Domain, Problem}
use Rattle.hp_syntax.specs.TextForms.{Form, IsRead}
use Rattle.hp_forms.specs.declared.texts.FileRefusal.{FileRefusal}
use Rattle.hp_forms.specs.declared.texts.FileRefusal.TheVariants as files
use Rattle.hp_terms.specs.declared.refusal.FormRefusal.{FormRefusal}
use Rattle.hp_terms.specs.declared.refusal.FormRefusal.TheVariants as forms
use Rattle.hp_text.specs.declared.forest.TextRefusal.{TextRefusal}
use Rattle.hp_text.specs.declared.forest.TextRefusal.TheVariants as reads
use Rattle.hp_doctor.specs.declared.accepting.Stop.{Stop}
use Rattle.hp_doctor.specs.declared.accepting.Stop.TheVariants as stops
use Rattle.hp_doctor.specs.Texts.{Texts}

-- ---- one file

-- the text of a file is read as this by a grammar
abbrev pub Has : {A : Type 0} → Form A → Option (List ℕ) → A → Type 0
Has form None x = ⊥
Has form (Some text) x = IsRead form text x

-- a text is read as nothing by a grammar, and refused so: its text is refused, or its form
pub data IsMisread {A : Type 0} (which : Input) (form : Form A) (text : List ℕ) (r : Refusal) : Type 0 where
  ByText : (why : texts.Refusal) → IsRefused text why → r ≡ refusals.Text which why.kind why.offset
      → IsMisread which form text r
  ByForm : (f : Forest) (what : What) (span : Span) → IsForest text f
      → form (length text) f ≡ Err (Expected what span) → r ≡ refusals.Form which what span
      → IsMisread which form text r

-- a file is refused so: it has no text, or one that is read as nothing
abbrev pub Refuses : {A : Type 0} → Input → Form A → Option (List ℕ) → Refusal → Type 0
Refuses which form None r = r ≡ refusals.Read which
Refuses which form (Some text) r = IsMisread which form text r

-- ---- both files

-- all faults that the checks find
abbrev pub faults : Domain → Problem → List CheckFault
faults d p = domain_faults d ++ problem_faults d p

-- both are read, and the checks find nothing
pub record IsAccepted (t : Texts) (d : Domain) (p : Problem) : Type 0 where
  pub domain : Has domain_form t.domain.text d
  pub problem : Has problem_form t.problem.text p
  pub checked : first_of (faults d p) ≡ None

-- the files are refused so: the domain, or else the problem, or else what the checks find first
pub data AreRefused (t : Texts) (r : Refusal) : Type 0 where
  OfDomain : Refuses inputs.Domain domain_form t.domain.text r → AreRefused t r
  OfProblem : (d : Domain) → Has domain_form t.domain.text d → Refuses inputs.Problem problem_form t.problem.text r
      → AreRefused t r
  OfChecks : (d : Domain) (p : Problem) (fault : CheckFault) → Has domain_form t.domain.text d
      → Has problem_form t.problem.text p → first_of (faults d p) ≡ Some fault → r ≡ refusals.Check fault
      → AreRefused t r

-- ---- the status of a refusal

abbrev pub refused_status : Input → Status
refused_status inputs.Domain = status.DomainRefused
refused_status inputs.Problem = status.ProblemRefused
refused_status inputs.Plan = status.PlanRefused

abbrev pub refusal_status : Refusal → Status
refusal_status refusals.Usage = status.Usage
refusal_status (refusals.Read which) = status.ReadFault
refusal_status (refusals.Text which kind offset) = refused_status which
refusal_status (refusals.Form which what span) = refused_status which
refusal_status (refusals.Check fault) = refused_status (text_of fault.in_problem)
refusal_status (refusals.NoPair number count) = status.ProblemRefused

-- ---- as the code tells it

-- why a text, or the forest of one, is no domain and no problem
abbrev pub of_text : Input → TextRefusal → Stop
of_text which (reads.Bad kind offset) = stops.Refused (refusals.Text which kind offset)
of_text which reads.NoMemory = stops.NoMemory

abbrev pub of_form : Input → FormRefusal → Stop
of_form which (forms.Expected what span) = stops.Refused (refusals.Form which what span)
of_form which forms.NoMemory = stops.NoMemory

-- why a text isn't read that is refused, or of which the forest has no form
abbrev pub of_file : Input → FileRefusal → Stop
of_file which (files.Text refusal) = of_text which refusal
of_file which (files.Form refusal) = of_form which refusal

-- a file isn't read for this reason; without memory nothing is known
abbrev pub Stops : {A : Type 0} → Input → Form A → Option (List ℕ) → Stop → Type 0
Stops which form text (stops.Refused r) = Refuses which form text r
Stops which form text stops.NoMemory = Unit {0}

-- the files aren't accepted for this reason
abbrev pub StopBoth : Texts → Stop → Type 0
StopBoth t (stops.Refused r) = AreRefused t r
StopBoth t stops.NoMemory = Unit {0}

-- the checks stop at their first fault
abbrev pub StopsAtCheck : Stop → Option CheckFault → Type 0
StopsAtCheck stop first = (fault : CheckFault) × (first ≡ Some fault) × (stop ≡ stops.Refused (refusals.Check fault))
