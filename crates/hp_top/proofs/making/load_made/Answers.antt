use Rattle.std.proofs.Common.{ℕ, List, Some, refl}
use Rattle.hp_io.specs.declared.folder.Input.{Input}
use Rattle.hp_io.specs.declared.folder.Input.TheVariants as inputs
use Rattle.hp_make.specs.Texts.{domain_text, problem_text}
use Rattle.hp_syntax.specs.Grammar.{domain_form, problem_form}
use Rattle.hp_syntax.specs.TextForms.{Form}
use Rattle.hp_syntax.specs.Views.{domain_of, problem_of}
use Rattle.hp_top.specs.declared.loading.LoadError.{LoadError}
use Rattle.hp_top.specs.declared.loading.LoadError.TheVariants as causes
use Rattle.hp_top.specs.Loading as loading
use Rattle.hp_top.specs.Loading.{IsRefusedFor, StopsAt}
use Rattle.hp_top.specs.Outcome.{Stopped, Went}
use Rattle.hp_top.specs.Serving.{no_faults}
use Rattle.hp_top.proofs.making.load_made.Goals as goal

-- a text that is refused stops a run at the file that holds it
refused_stops : {A : Type 0} (which : Input) (form : Form A) (text : List ℕ) (cause : LoadError)
    → IsRefusedFor which form text cause → StopsAt which form cause (Some (Some text)) no_faults no_faults
refused_stops which form text cause (loading.IsRefusedFor.WithoutMemory e) = loading.StopsAt.WithoutMemory e
refused_stops which form text cause (loading.IsRefusedFor.Unreadable why e h) = loading.StopsAt.Unreadable why e h

pub returns-in-Ok-problem_in-clause-loads : goal.returns-in-Ok-problem_in-clause-loads
returns-in-Ok-problem_in-clause-loads c =
    Went (domain_of c.in-Ok-domain_in.domain) (rw c.in-Ok.ensures.domain at c.in-Ok-domain_in.ensures.domain)
    (Went (problem_of c.in-Ok-problem_in.problem)
    (rw c.in-Ok.ensures.problem at c.in-Ok-problem_in.ensures.problem) refl)

pub returns-in-Err-clause-loads : goal.returns-in-Err-clause-loads
returns-in-Err-clause-loads c =
    Stopped c.in-Err.cause
    (refused_stops inputs.Domain domain_form domain_text c.in-Err.cause
    (rw c.in-Ok.ensures.domain at c.in-Err.ensures.refused)) refl

pub returns-in-Err-problem_in-clause-loads : goal.returns-in-Err-problem_in-clause-loads
returns-in-Err-problem_in-clause-loads c =
    Went (domain_of c.in-Ok-domain_in.domain) (rw c.in-Ok.ensures.domain at c.in-Ok-domain_in.ensures.domain)
    (Stopped c.in-Err-problem_in.cause
    (refused_stops inputs.Problem problem_form (problem_text c.args.seed c.args.packages) c.in-Err-problem_in.cause
    (rw c.in-Ok.ensures.problem at c.in-Err-problem_in.ensures.refused)) refl)

-- without memory nothing is made
pub returns-in_default-clause-loads : goal.returns-in_default-clause-loads
returns-in_default-clause-loads c = Stopped causes.NoMemory (loading.StopsAt.WithoutMemory refl) refl
