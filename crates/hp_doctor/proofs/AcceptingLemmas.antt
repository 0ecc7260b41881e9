-- Why files aren't accepted.
use Rattle.std.proofs.Common.{◌≡◌, ℕ, List, length, Some, Result, Ok, Err, IfErr, refl}
use Rattle.hp_io.specs.declared.folder.Input.{Input}
use Rattle.hp_io.specs.declared.folder.Input.TheVariants as inputs
use Rattle.hp_out.specs.declared.refusal.Refusal.TheVariants as refusals
use Rattle.hp_syntax.specs.Checks.{first_of}
use Rattle.hp_syntax.specs.Forest.{Forest, IsForest}
use Rattle.hp_syntax.specs.Grammar.{domain_form, problem_form}
use Rattle.hp_syntax.specs.Syntax.{Domain, Problem}
use Rattle.hp_syntax.specs.TextForms.{Form}
use Rattle.hp_forms.specs.Files.{RefusesFile}
use Rattle.hp_forms.specs.declared.texts.FileRefusal.{FileRefusal}
use Rattle.hp_forms.specs.declared.texts.FileRefusal.TheVariants as files
use Rattle.hp_terms.specs.FormReads.{Refuses}
use Rattle.hp_terms.specs.declared.refusal.FormRefusal.{FormRefusal}
use Rattle.hp_terms.specs.declared.refusal.FormRefusal.TheVariants as forms
use Rattle.hp_text.specs.Refusals.{RefusesText}
use Rattle.hp_text.specs.declared.forest.TextRefusal.{TextRefusal}
use Rattle.hp_text.specs.declared.forest.TextRefusal.TheVariants as reads
use Rattle.hp_doctor.specs.declared.accepting.Stop.{Stop}
use Rattle.hp_doctor.specs.declared.accepting.Stop.TheVariants as stops
use Rattle.hp_doctor.specs.Accepting.{ByText, ByForm, Has, OfChecks, OfProblem, StopBoth, Stops, StopsAtCheck, faults, of_file, of_text, of_form}
use Rattle.hp_doctor.specs.Texts.{Texts}

module _ {A : Type 0} (which : Input) (form : Form A) where
  -- a text that is refused stops the reading of its file
  pub text_stops : (text : List ℕ) (e : TextRefusal) → RefusesText text e
      → Stops which form (Some text) (of_text which e)
  text_stops text (reads.Bad kind offset) r = ByText (record { kind = kind; offset = offset }) r refl
  text_stops text reads.NoMemory r = tt

  -- and so does a forest without a form
  pub form_stops : (text : List ℕ) (f : Forest) (e : FormRefusal) → IsForest text f
      → Refuses e (form (length text) f) → Stops which form (Some text) (of_form which e)
  form_stops text f (forms.Expected what span) s r = ByForm f what span s r refl
  form_stops text f forms.NoMemory s r = tt

  -- and so does a refusal of either kind
  pub file_stops : (text : List ℕ) (e : FileRefusal) → RefusesFile form text e
      → Stops which form (Some text) (of_file which e)
  file_stops text (files.Text refusal) r = text_stops text refusal r
  file_stops text (files.Form refusal) r = form_stops text r.0 refusal r.1 r.2

module _ (t : Texts) (d : Domain) (read : Has domain_form t.domain.text d) where
  -- a problem that isn't read behind its domain stops both
  pub problem_stops : (e : Stop) → Stops inputs.Problem problem_form t.problem.text e → StopBoth t e
  problem_stops (stops.Refused r) h = OfProblem d read h
  problem_stops stops.NoMemory h = tt

  -- and so does what the checks find in both
  pub check_stops : {A : Type 0} (p : Problem) (r : Result A Stop) → Has problem_form t.problem.text p
      → IfErr r (λ e. StopsAtCheck e (first_of (faults d p))) → IfErr r (StopBoth t)
  check_stops p (Ok x) q h = tt
  check_stops p (Err (stops.Refused r)) q h =
      OfChecks d p h.0 read q h.1
      (let same : stops.Refused r ≡ stops.Refused (refusals.Check h.0) = h.2 in cc)
  check_stops p (Err stops.NoMemory) q h = tt
