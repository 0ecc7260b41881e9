-- The outcome of the words and the files of a run: the text that is written, and the status.
use Rattle.std.specs.Prelude.{◌≡◌, Bool, ℕ, ◌-◌, slice_get, List, [], ◌++◌, length, map, Option, Some, None, Result, Ok, Err}
use Rattle.hp_io.specs.declared.folder.Input.{Input}
use Rattle.hp_io.specs.declared.folder.Input.TheVariants as inputs
use Rattle.hp_code.specs.CodeViews.{compiled}
use Rattle.hp_code.specs.Listing.{listing_text}
use Rattle.hp_forms.specs.PlanForms.{plan_form}
use Rattle.hp_out.specs.Lines.{text_of}
use Rattle.hp_out.specs.RefusalTexts.{refusal_text}
use Rattle.hp_out.specs.declared.refusal.Refusal.{Refusal}
use Rattle.hp_out.specs.declared.refusal.Refusal.TheVariants as refusals
use Rattle.hp_syntax.specs.declared.check.CheckFault.{CheckFault}
use Rattle.hp_syntax.specs.declared.limits.TheConstants.{MADE_DEPTH, USUAL_LEVELS}
use Rattle.hp_syntax.specs.declared.status.Status.{Status}
use Rattle.hp_syntax.specs.declared.status.Status.TheVariants as status
use Rattle.hp_syntax.specs.declared.status.Status.TheVariants.{Done, DomainRefused, ProblemRefused, PlanRefused}
use Rattle.hp_syntax.specs.Checks.{first_of, domain_faults, problem_faults}
use Rattle.hp_syntax.specs.Forest.{Forest, IsForest}
use Rattle.hp_syntax.specs.Grammar.{domain_form, problem_form}
use Rattle.hp_syntax.specs.Refusal as texts
use Rattle.hp_syntax.specs.Refusal.{IsRefused}
use Rattle.hp_syntax.specs.Report.{Answer, behind, line_report, plan_report, shown, told_pairs}
use Rattle.hp_syntax.specs.Steps.{Misform, Expected}
use Rattle.hp_syntax.specs.Syntax.{Domain, Pair, Problem, Rule}
use Rattle.hp_syntax.specs.Terms.{Term}
use Rattle.hp_syntax.specs.TextForms.{Form, IsRead}
use Rattle.hp_syntax.specs.Walk.{Visit, heard_visits, root, visits}
use Rattle.hp_syntax.specs.Written.{domain_text, problem_text}
use Rattle.hp_best.specs.Bounded.{is_priced}
use Rattle.hp_telling.specs.AfterReports.{after_report}
use Rattle.hp_telling.specs.BestReports.{best_report}
use Rattle.hp_top.specs.CheckTexts.{check_text}
use Rattle.hp_words.specs.Command.{Command, Verification, Job, Options, Planning, Choosing, Deepening, Continuing, Checking, Showing, Summing, OnFiles, Verifying, Listing, Making, accepts}
use Rattle.hp_top.specs.Making.{made_files, made_command, made_lines}
use Rattle.hp_top.specs.ShallowReports.{shallow_report}
use Rattle.hp_telling.specs.VerifyReports.{verify_report}

-- the bytes of each file, by its name; there may be no such file
abbrev pub Files : Type 0
Files = List ℕ → Option (List ℕ)

-- ---- a text that is read as nothing

-- why a text is read as nothing: its text is refused, or its form
pub data Why : Type 0 where
  InText : (refusal : texts.Refusal) → Why
  InForm : (misform : Misform) → Why

-- a text that is read as nothing by a grammar, for this reason
pub data IsUnreadable {A : Type 0} (form : Form A) (text : List ℕ) (why : Why) : Type 0 where
  ByText : (r : texts.Refusal) → IsRefused text r → why ≡ InText r → IsUnreadable form text why
  ByForm : (f : Forest) (m : Misform) → IsForest text f → form (length text) f ≡ Err m → why ≡ InForm m
      → IsUnreadable form text why

-- the refusal that tells why
abbrev pub refusal_of : Input → Why → Refusal
refusal_of which (InText r) = refusals.Text which r.kind r.offset
refusal_of which (InForm (Expected what s)) = refusals.Form which what s

-- ---- refusals

abbrev pub refused_status : Input → Status
refused_status inputs.Domain = DomainRefused
refused_status inputs.Problem = ProblemRefused
refused_status inputs.Plan = PlanRefused

-- the status of a run that is refused
abbrev pub refusal_status : Refusal → Status
refusal_status refusals.Usage = status.Usage
refusal_status (refusals.Read which) = status.ReadFault
refusal_status (refusals.Text which kind offset) = refused_status which
refusal_status (refusals.Form which what span) = refused_status which
refusal_status (refusals.Check fault) = refused_status (text_of fault.in_problem)
refusal_status (refusals.NoPair number count) = ProblemRefused

-- the line of a refusal, and its status
abbrev pub refusal_answer : Refusal → Answer
refusal_answer r = (refusal_text r, refusal_status r)

-- ---- plans

-- the visits of the tree of a pair, down to a depth
abbrev pub pair_visits : List Rule → ℕ → ℕ → Pair → List Visit
pair_visits rules nest depth pair = visits rules nest (root pair depth) []

-- what is told of pairs, by what is told of the visits of the tree of each
abbrev pub pairs_answer : (List Visit → Answer) → List Rule → ℕ → ℕ → List Pair → Answer
pairs_answer tell rules nest depth pairs = told_pairs (map (λ pair. tell (pair_visits rules nest depth pair)) pairs)

-- the report of the visits that are heard, for so many plans
abbrev pub plans_heard : ℕ → Options → List Visit → Answer
plans_heard k o vs = plan_report k (shown o.states o.paths) (heard_visits vs)

-- the line of the first plan of the visits that are heard, and their ending
abbrev pub line_heard : List Visit → Answer
line_heard vs = line_report (heard_visits vs)

-- the answer to a request for so many plans of each pair, down to a depth
abbrev pub plan_answer : ℕ → ℕ → Options → Domain → Problem → Answer
plan_answer k n o d p = pairs_answer (plans_heard k o) d.rules o.levels n p.pairs

-- the answer to a request for the cheapest plan of each pair, down to a depth
abbrev pub best_answer : ℕ → ℕ → Domain → Problem → Answer
best_answer n levels d p = pairs_answer (best_report (is_priced d.rules)) d.rules levels n p.pairs

-- what is told of a pair, where there is one
abbrev pub told_or : Answer → (Pair → Answer) → Option Pair → Answer
told_or other tell None = other
told_or other tell (Some pair) = tell pair

-- what is told of one of pairs, by its number from 1 on, or that there is no such pair
abbrev pub pair_answer : (Pair → Answer) → ℕ → List Pair → Answer
pair_answer tell number pairs =
    told_or (refusal_answer (refusals.NoPair number (length pairs))) tell (slice_get pairs (number - 1))

-- the answer to a request for the first plan of the least depth of each pair that has one, up to a limit
abbrev pub shallow_answer : ℕ → ℕ → Bool → Domain → Problem → Answer
shallow_answer limit levels states d p =
    told_pairs (map (λ pair. shallow_report states limit (λ n. pair_visits d.rules levels n pair)) p.pairs)

-- the answer to a request for so many plans of one pair behind the plan at a path, down to a depth
abbrev pub after_answer : ℕ → ℕ → List ℕ → Options → ℕ → Domain → Problem → Answer
after_answer k n path o number d p =
    pair_answer
    (λ pair. after_report (plans_heard k o) path (pair_visits d.rules o.levels n pair)) number p.pairs

-- the answer to the question whether steps are a plan of one pair
abbrev pub verify_answer : Verification → List Term → Domain → Problem → Answer
verify_answer v steps d p =
    pair_answer (λ pair. verify_report steps (pair_visits d.rules v.levels v.depth pair)) v.pair p.pairs

-- ---- a domain and a problem that are read

-- the answer of a job to a domain and a problem in which the checks find no fault
abbrev pub job_answer : Job → Domain → Problem → Answer
job_answer (Planning k n o) d p = plan_answer k n o d p
job_answer (Choosing n levels) d p = best_answer n levels d p
job_answer (Deepening limit levels states) d p = shallow_answer limit levels states d p
job_answer (Continuing k n path o number) d p = after_answer k n path o number d p
job_answer Checking d p = (check_text d p, Done)
job_answer Showing d p = (domain_text d ++ problem_text p, Done)
job_answer (Summing seed packages) d p =
    behind (made_lines seed packages p) (pairs_answer line_heard d.rules USUAL_LEVELS MADE_DEPTH p.pairs)

-- the first fault that the checks find, or else this
abbrev pub unless_faulty : Option CheckFault → Answer → Answer
unless_faulty (Some f) a = refusal_answer (refusals.Check f)
unless_faulty None a = a

abbrev pub first_fault : Domain → Problem → Option CheckFault
first_fault d p = first_of (domain_faults d ++ problem_faults d p)

-- the answer to a command, once its domain and its problem are read
abbrev pub answer_of_read : Command → Domain → Problem → Answer
answer_of_read c d p = unless_faulty (first_fault d p) (job_answer c.job d p)

abbrev pub answer_of_pair : Command → Domain × Problem → Answer
answer_of_pair c x = answer_of_read c x.0 x.1

-- the answer to a verification, once its domain, its problem and its plan are read
abbrev pub answer_of_plan : Verification → (Domain × Problem) × List Term → Answer
answer_of_plan v x = unless_faulty (first_fault x.0.0 x.0.1) (verify_answer v x.1 x.0.0 x.0.1)

-- the answer to a domain that is read and is to be listed
abbrev pub listing_answer : Domain → Answer
listing_answer d = unless_faulty (first_of (domain_faults d)) (listing_text (compiled d.rules), Done)

-- ---- files

-- the load of a file: the reading of its text by a grammar, or the refusal that tells why there is none
pub data LoadsFile {A : Type 0} (which : Input) (form : Form A) (file : Option (List ℕ))
    (loaded : Result A Refusal) : Type 0 where
  Missing : file ≡ None → loaded ≡ Err (refusals.Read which) → LoadsFile which form file loaded
  Bad : (text : List ℕ) (why : Why) → file ≡ Some text → IsUnreadable form text why
      → loaded ≡ Err (refusal_of which why) → LoadsFile which form file loaded
  Good : (text : List ℕ) (x : A) → file ≡ Some text → IsRead form text x → loaded ≡ Ok x
      → LoadsFile which form file loaded

-- something is loaded, and then something else; where the first isn't, the second isn't tried
pub data Then {A B E : Type 0} (first : Result A E → Type 0) (second : A → Result B E → Type 0)
    (loaded : Result B E) : Type 0 where
  Stopped : (e : E) → first (Err e) → loaded ≡ Err e → Then first second loaded
  Went : (x : A) → first (Ok x) → second x loaded → Then first second loaded

-- two things are loaded, one after the other
abbrev pub Both : {A B E : Type 0} → (Result A E → Type 0) → (Result B E → Type 0) → Result (A × B) E → Type 0
Both first second loaded = Then first (λ x. Then second (λ y both. both ≡ Ok (x, y))) loaded

-- the load of the files of these names: a domain, and then a problem
abbrev pub LoadsNamed : Files → List ℕ → List ℕ → Result (Domain × Problem) Refusal → Type 0
LoadsNamed files domain problem =
    Both (LoadsFile inputs.Domain domain_form (files domain)) (LoadsFile inputs.Problem problem_form (files problem))

-- the load of the files of a command
abbrev pub LoadsFiles : Files → Command → Result (Domain × Problem) Refusal → Type 0
LoadsFiles files c = LoadsNamed files c.domain c.problem

-- the form of a plan file, whatever its length
abbrev pub steps_form : Form (List Term)
steps_form length f = plan_form f

-- the load of the files of a verification: its domain, its problem, and then its plan
abbrev pub LoadsPlan : Files → Verification → Result ((Domain × Problem) × List Term) Refusal → Type 0
LoadsPlan files v =
    Both (LoadsNamed files v.domain v.problem) (LoadsFile inputs.Plan steps_form (files v.plan))

-- the load of the file of a domain alone
abbrev pub LoadsDomain : Files → List ℕ → Result Domain Refusal → Type 0
LoadsDomain files name = LoadsFile inputs.Domain domain_form (files name)

-- the answer to a load, or to the cause that refuses it
abbrev pub answer_to : {X E : Type 0} → (E → Answer) → (X → Answer) → Result X E → Answer
answer_to refuse answer (Err e) = refuse e
answer_to refuse answer (Ok x) = answer x

-- ---- outcomes

-- the answer to something that is loaded
pub record Comes {X : Type 0} (Loads : Result X Refusal → Type 0) (answer : X → Answer) (a : Answer) : Type 0 where
  pub loaded : Result X Refusal
  pub loads : Loads loaded
  pub comes : a ≡ answer_to refusal_answer answer loaded

-- the answer to a command with these files
abbrev pub CommandComes : Files → Command → Answer → Type 0
CommandComes files c = Comes (LoadsFiles files c) (answer_of_pair c)

-- the answer to words with these files
pub data Outcome (words : List (List ℕ)) (files : Files) (a : Answer) : Type 0 where
  NoCommand : accepts words ≡ None → a ≡ refusal_answer refusals.Usage → Outcome words files a
  ByCommand : (c : Command) → accepts words ≡ Some (OnFiles c) → CommandComes files c a → Outcome words files a
  ByVerifying : (v : Verification) → accepts words ≡ Some (Verifying v)
      → Comes (LoadsPlan files v) (answer_of_plan v) a → Outcome words files a
  ByListing : (domain : List ℕ) → accepts words ≡ Some (Listing domain)
      → Comes (LoadsDomain files domain) listing_answer a → Outcome words files a
  ByMaking : (seed packages : ℕ) → accepts words ≡ Some (Making seed packages)
      → CommandComes (made_files seed packages) (made_command seed packages) a → Outcome words files a
