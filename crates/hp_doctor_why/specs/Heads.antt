-- Where the head of a rule differs from a task.
use Rattle.std.specs.Prelude.{ℕ, Bool, true, false, List, [], length, Option, Some, None, slice_get}
use Rattle.hp_syntax.specs.Syntax as syntax
use Rattle.hp_syntax.specs.Syntax.{Domain, Rule}
use Rattle.hp_syntax.specs.Terms.{Term, Terms, Symbol, Number, Listed, NoTerm, More}
use Rattle.hp_syntax.specs.Values.{unbound}
use Rattle.hp_mismatch.specs.declared.misfit.Misfit.{Misfit}
use Rattle.hp_mismatch.specs.declared.misfit.Misfit.TheVariants as misfits
use Rattle.hp_mismatch.specs.Mismatch.{mismatch, pattern_count, takes, term_count}
use Rattle.hp_doctor.specs.Explained.{told_in}
use Rattle.hp_doctor.specs.Texts.{Texts}
use Rattle.hp_doctor_why.specs.declared.phrases.TheConstants as says
use Rattle.hp_doctor_why.specs.Filled.{rule_names}

-- the arguments of a task
abbrev pub arguments : Term → Terms
arguments (Symbol name) = NoTerm
arguments (Number n) = NoTerm
arguments (Listed NoTerm) = NoTerm
arguments (Listed (More t ts)) = ts

abbrev pub count_sentence : Bool → List ℕ
count_sentence true = says.NO_MATCH.now
count_sentence false = says.OTHER_COUNT.now

-- an argument that doesn't match, at its place: the task has another value, or the variable has, or the list differs
abbrev pub misfit_text : Texts → Misfit → List ℕ
misfit_text t (misfits.Value s) = told_in (Some t.domain) (Some s) says.OTHER_VALUE.now
misfit_text t (misfits.Variable s) = told_in (Some t.domain) (Some s) says.OTHER_BOUND.now
misfit_text t (misfits.List s) = told_in (Some t.domain) (Some s) says.OTHER_PART.now

abbrev pub at_head : Texts → syntax.Atom → Terms → Option Misfit → List ℕ
at_head t a ts None =
    told_in (Some t.domain) (Some a.span) (count_sentence (takes a.tail (pattern_count a.args) (term_count ts)))
at_head t a ts (Some m) = misfit_text t m

-- of a rule with so many variables
abbrev pub mismatch_text : Texts → ℕ → syntax.Atom → Terms → List ℕ
mismatch_text t vars a ts = at_head t a ts (mismatch a.args a.tail ts (unbound vars))

abbrev pub head_of : Rule → syntax.Atom
head_of (syntax.Does o) = o.head
head_of (syntax.Refines m) = m.head
head_of (syntax.Concludes x) = x.head

abbrev pub mismatch_if : Texts → Terms → Option Rule → List ℕ
mismatch_if t ts None = []
mismatch_if t ts (Some r) = mismatch_text t (length (rule_names r)) (head_of r) ts

-- where the head of a rule first differs from a task, or that they have other numbers of arguments
abbrev pub mismatch_at : Texts → Domain → Term → ℕ → List ℕ
mismatch_at t d task rule = mismatch_if t (arguments task) (slice_get d.rules rule)
