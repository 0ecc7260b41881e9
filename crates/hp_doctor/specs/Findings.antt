-- What a line of the planner tells of a place: a refusal, a note or a fault. Other lines tell nothing.
use Rattle.std.specs.Prelude.{ℕ, Bool, true, false, ◌&&◌, cond, List, [], ◌∷◌, Option, Some, None, option_and_then, is_some, bytes_eq, codes}
use Rattle.hp_io.specs.declared.folder.Input.{Input}
use Rattle.hp_io.specs.declared.folder.Input.TheVariants as inputs
use Rattle.hp_out.specs.declared.refusal.Refusal.TheVariants as refusals
use Rattle.hp_out.specs.Lines.{check_word, input_word, kind_word, what_word}
use Rattle.hp_syntax.specs.declared.check.CheckKind.{CheckKind}
use Rattle.hp_syntax.specs.declared.check.CheckKind.TheVariants as checks
use Rattle.hp_syntax.specs.declared.fault.FaultKind.{FaultKind}
use Rattle.hp_syntax.specs.declared.fault.FaultKind.TheVariants as faults
use Rattle.hp_syntax.specs.declared.form.What.{What}
use Rattle.hp_syntax.specs.declared.form.What.TheVariants as wants
use Rattle.hp_syntax.specs.declared.text.TextKind.{TextKind}
use Rattle.hp_syntax.specs.declared.text.TextKind.TheVariants as texts
use Rattle.hp_syntax.specs.Report.{fault_word}
use Rattle.hp_doctor.specs.declared.finding.Finding.{Finding}
use Rattle.hp_doctor.specs.declared.finding.Finding.TheVariants.{Refused, Unserved, Met}
use Rattle.hp_doctor.specs.Words.{first_word, other_words, named, offset_of, count_of, span_of, behind_at}

-- ---- words

abbrev pub input_of : List ℕ → Option Input
input_of word = named input_word (inputs.Domain ∷ inputs.Problem ∷ inputs.Plan ∷ []) word

abbrev pub kind_of : List ℕ → Option TextKind
kind_of word =
    named kind_word
    (texts.BadByte ∷ texts.BadNumber ∷ texts.NumberRange ∷ texts.TokenLong ∷ texts.Unclosed ∷ texts.ExtraClose
    ∷ texts.TooNested ∷ texts.TooLarge ∷ [])
    word

-- the smaller parts that can be wanted
abbrev pub small_parts : List What
small_parts =
    wants.Variable ∷ wants.Term ∷ wants.Tail ∷ wants.Atom ∷ wants.Atoms ∷ wants.Effects ∷ wants.Tasks ∷ wants.Ground
    ∷ wants.End ∷ []

abbrev pub part_of : List ℕ → Option What
part_of word = named what_word small_parts word

abbrev pub what_of : List ℕ → Option What
what_of word =
    named what_word
    (wants.Domain ∷ wants.Problem ∷ wants.Name ∷ wants.Rules ∷ wants.Rule ∷ wants.Head ∷ wants.Pre ∷ wants.Expr
    ∷ small_parts)
    word

abbrev pub check_of : List ℕ → Option CheckKind
check_of word =
    named check_word
    (checks.OtherDomain ∷ checks.UnknownCall ∷ checks.CallArity ∷ checks.VariableInProblem ∷ checks.CallInHead
    ∷ checks.TooManyVariables ∷ checks.ExprNested ∷ checks.UnknownOrder ∷ [])
    word

abbrev pub fault_of : List ℕ → Option FaultKind
fault_of word =
    named fault_word
    (faults.NotGround ∷ faults.NotNumber ∷ faults.Overflow ∷ faults.ZeroDivisor ∷ faults.NegativePower
    ∷ faults.NotList ∷ faults.TooDeep ∷ faults.FractionPower ∷ [])
    word

-- whether it is the problem's text and not the domain's; of a plan there are no checks and notes
abbrev pub problem_of : Input → Option Bool
problem_of inputs.Domain = Some false
problem_of inputs.Problem = Some true
problem_of inputs.Plan = None

-- ---- refusals

-- `KIND at OFFSET`
abbrev pub text_refusal : Input → TextKind → List ℕ → Option Finding
text_refusal which kind words =
    option_and_then (λ offset. Some (Refused (refusals.Text which kind offset)))
    (option_and_then offset_of (behind_at words))

-- `Expected WHAT at FROM-TO`, from WHAT on
abbrev pub form_refusal : Input → List ℕ → Option Finding
form_refusal which words =
    option_and_then
    (λ what.
    option_and_then (λ span. Some (Refused (refusals.Form which what span)))
    (option_and_then span_of (behind_at (other_words words))))
    (what_of (first_word words))

-- `CHECK at FROM-TO`
abbrev pub check_refusal : Input → CheckKind → List ℕ → Option Finding
check_refusal which kind words =
    option_and_then
    (λ in_problem.
    option_and_then
    (λ span. Some (Refused (refusals.Check (record { kind = kind; in_problem = in_problem; span = span }))))
    (option_and_then span_of (behind_at words)))
    (problem_of which)

-- `NoPair I of M`, from I on; it is told of the problem alone
abbrev pub pair_refusal : Input → List ℕ → Option Finding
pair_refusal inputs.Domain words = None
pair_refusal inputs.Plan words = None
pair_refusal inputs.Problem words =
    cond (bytes_eq (first_word (other_words words)) (codes "of"))
    (option_and_then
    (λ number.
    option_and_then (λ count. Some (Refused (refusals.NoPair number count)))
    (count_of (other_words (other_words words))))
    (count_of (first_word words)))
    None

-- a text refusal by its kind, or else a check
abbrev pub kind_refusal : Input → Option TextKind → Option CheckKind → List ℕ → Option Finding
kind_refusal which (Some kind) check words = text_refusal which kind words
kind_refusal which None (Some check) words = check_refusal which check words
kind_refusal which None None words = None

-- what is refused in one of the texts
abbrev pub refusal_in : Input → List ℕ → List ℕ → Option Finding
refusal_in which word words =
    cond (bytes_eq word (codes "Expected")) (form_refusal which words)
    (cond (bytes_eq word (codes "NoPair")) (pair_refusal which words)
    (kind_refusal which (kind_of word) (check_of word) words))

-- what follows `refused`
abbrev pub refusal_of : List ℕ → Option Finding
refusal_of words =
    cond (bytes_eq words (codes "usage")) (Some (Refused refusals.Usage))
    (cond (bytes_eq (first_word words) (codes "read"))
    (option_and_then (λ which. Some (Refused (refusals.Read which))) (input_of (other_words words)))
    (option_and_then (λ which. refusal_in which (first_word (other_words words)) (other_words (other_words words)))
    (input_of (first_word words))))

-- ---- notes and faults

-- `in WHERE at FROM-TO`
abbrev pub note_place : List ℕ → Option Finding
note_place words =
    cond (bytes_eq (first_word words) (codes "in"))
    (option_and_then
    (λ in_problem.
    option_and_then (λ span. Some (Unserved in_problem span))
    (option_and_then span_of (behind_at (other_words (other_words words)))))
    (option_and_then problem_of (input_of (first_word (other_words words)))))
    None

-- what follows `note`
abbrev pub note_of : List ℕ → Option Finding
note_of words =
    cond (bytes_eq (first_word words) (codes "NoRule")) (note_place (other_words (other_words words))) None

-- `plans P expansions N`
abbrev pub are_counts : List ℕ → Bool
are_counts words =
    bytes_eq (first_word words) (codes "plans") && (is_some (count_of (first_word (other_words words)))
    && (bytes_eq (first_word (other_words (other_words words))) (codes "expansions")
    && is_some (count_of (other_words (other_words (other_words words))))))

-- what follows `fault`
abbrev pub fault_at : List ℕ → Option Finding
fault_at words =
    option_and_then
    (λ kind.
    option_and_then
    (λ place.
    option_and_then
    (λ span. cond (are_counts (other_words place)) (Some (Met (record { kind = kind; span = span }))) None)
    (span_of (first_word place)))
    (behind_at (other_words words)))
    (fault_of (first_word words))

-- ---- lines

-- what a line tells of a place, by its first word
abbrev pub finding_by : List ℕ → List ℕ → Option Finding
finding_by word words =
    cond (bytes_eq word (codes "refused")) (refusal_of words)
    (cond (bytes_eq word (codes "note")) (note_of words)
    (cond (bytes_eq word (codes "fault")) (fault_at words) None))

abbrev pub finding_of : List ℕ → Option Finding
finding_of line = finding_by (first_word line) (other_words line)
