-- The lines of refusals and notes, and the words of which they are made.
use Rattle.std.specs.Prelude.{ℕ, Bool, cond, ℤ, List, ◌++◌, codes, decimal}
use Rattle.hp_io.specs.declared.folder.Input.{Input}
use Rattle.hp_io.specs.declared.folder.Input.TheVariants as inputs
use Rattle.hp_syntax.specs.declared.check.CheckKind.{CheckKind}
use Rattle.hp_syntax.specs.declared.check.CheckKind.TheVariants as checks
use Rattle.hp_syntax.specs.declared.form.What.{What}
use Rattle.hp_syntax.specs.declared.form.What.TheVariants as wants
use Rattle.hp_syntax.specs.declared.pattern.Span.{Span}
use Rattle.hp_syntax.specs.declared.text.TextKind.{TextKind}
use Rattle.hp_syntax.specs.declared.text.TextKind.TheVariants as texts
use Rattle.hp_syntax.specs.Notes.{Note}
use Rattle.hp_syntax.specs.PlaceTexts.{span_text, at_span}
use Rattle.hp_syntax.specs.Report.{path_text}
use Rattle.hp_syntax.specs.TermTexts.{num_text}

-- ---- words

abbrev pub what_word : What → List ℕ
what_word wants.Domain = codes "Domain"
what_word wants.Problem = codes "Problem"
what_word wants.Name = codes "Name"
what_word wants.Rules = codes "Rules"
what_word wants.Rule = codes "Rule"
what_word wants.Head = codes "Head"
what_word wants.Pre = codes "Pre"
what_word wants.Expr = codes "Expr"
what_word wants.Variable = codes "Variable"
what_word wants.Term = codes "Term"
what_word wants.Tail = codes "Tail"
what_word wants.Atom = codes "Atom"
what_word wants.Atoms = codes "Atoms"
what_word wants.Effects = codes "Effects"
what_word wants.Tasks = codes "Tasks"
what_word wants.Ground = codes "Ground"
what_word wants.End = codes "End"

abbrev pub kind_word : TextKind → List ℕ
kind_word texts.BadByte = codes "BadByte"
kind_word texts.BadNumber = codes "BadNumber"
kind_word texts.NumberRange = codes "NumberRange"
kind_word texts.TokenLong = codes "TokenLong"
kind_word texts.Unclosed = codes "Unclosed"
kind_word texts.ExtraClose = codes "ExtraClose"
kind_word texts.TooNested = codes "TooNested"
kind_word texts.TooLarge = codes "TooLarge"

abbrev pub check_word : CheckKind → List ℕ
check_word checks.OtherDomain = codes "OtherDomain"
check_word checks.UnknownCall = codes "UnknownCall"
check_word checks.CallArity = codes "CallArity"
check_word checks.VariableInProblem = codes "VariableInProblem"
check_word checks.CallInHead = codes "CallInHead"
check_word checks.TooManyVariables = codes "TooManyVariables"
check_word checks.ExprNested = codes "ExprNested"
check_word checks.UnknownOrder = codes "UnknownOrder"

abbrev pub input_word : Input → List ℕ
input_word inputs.Domain = codes "domain"
input_word inputs.Problem = codes "problem"
input_word inputs.Plan = codes "plan"

-- the text of the problem, or of the domain
abbrev pub text_of : Bool → Input
text_of in_problem = cond in_problem inputs.Problem inputs.Domain

-- ---- why a text is refused

-- `Expected WHAT at FROM-TO`
abbrev pub expected_text : What → Span → List ℕ
expected_text what s = codes "Expected " ++ at_span (what_word what) s

-- ---- lines

abbrev pub refused_usage : List ℕ
refused_usage = codes "refused usage\n"

-- a file that isn't there or couldn't be read
abbrev pub refused_read : Input → List ℕ
refused_read inputs.Domain = codes "refused read domain\n"
refused_read inputs.Problem = codes "refused read problem\n"
refused_read inputs.Plan = codes "refused read plan\n"

-- a text that is refused, and why
abbrev pub refused_line : Input → List ℕ → List ℕ
refused_line which why = codes "refused " ++ input_word which ++ codes " " ++ why ++ codes "\n"

-- where the task of a note stands
abbrev pub note_place : Bool → Span → List ℕ
note_place in_problem s = codes " in " ++ input_word (text_of in_problem) ++ codes " at " ++ span_text s ++ codes "\n"

-- a task that no rule serves
abbrev pub note_text : Note → List ℕ
note_text n = codes "note NoRule " ++ n.name ++ note_place n.in_problem n.span

-- there is no pair of this number
unfoldable pub no_pair_line : ℕ → ℕ → List ℕ
no_pair_line number count =
    codes "refused problem NoPair " ++ decimal number ++ codes " of " ++ decimal count ++ codes "\n"

-- there is no plan at a path
unfoldable pub absent_text : ℕ → List ℕ
absent_text expansions = codes "no plan at path expansions " ++ decimal expansions ++ codes "\n"

-- a plan was derived: its cost, its path, and the decompositions on the way
unfoldable pub derived_text : ℤ → List ℕ → ℕ → List ℕ
derived_text cost path expansions =
    codes "derived cost " ++ num_text cost ++ codes " path " ++ path_text path
    ++ codes " expansions " ++ decimal expansions ++ codes "\n"

-- the word for what keeps a plan from being derived: a limit cut the tree somewhere, or all of it was seen
abbrev pub underived_word : Bool → List ℕ
underived_word is_cut = cond is_cut (codes "cut") (codes "end")

-- a plan wasn't derived
unfoldable pub underived_text : Bool → ℕ → List ℕ
underived_text is_cut expansions =
    codes "not derived " ++ underived_word is_cut ++ codes " expansions " ++ decimal expansions ++ codes "\n"

-- the depth that decides
unfoldable pub depth_text : ℕ → List ℕ
depth_text depth = codes "depth " ++ decimal depth ++ codes "\n"
