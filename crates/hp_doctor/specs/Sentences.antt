-- What each finding means, in one sentence, and what it is about. The sentences stand in the code, one for each kind.
use Rattle.std.specs.Prelude.{ℕ, List}
use Rattle.hp_out.specs.declared.refusal.Refusal.{Refusal}
use Rattle.hp_out.specs.declared.refusal.Refusal.TheVariants as refusals
use Rattle.hp_syntax.specs.declared.check.CheckKind.{CheckKind}
use Rattle.hp_syntax.specs.declared.check.CheckKind.TheVariants as checks
use Rattle.hp_syntax.specs.declared.fault.FaultKind.{FaultKind}
use Rattle.hp_syntax.specs.declared.fault.FaultKind.TheVariants as faults
use Rattle.hp_syntax.specs.declared.form.What.{What}
use Rattle.hp_syntax.specs.declared.form.What.TheVariants as wants
use Rattle.hp_syntax.specs.declared.text.TextKind.{TextKind}
use Rattle.hp_syntax.specs.declared.text.TextKind.TheVariants as texts
use Rattle.hp_doctor.specs.declared.finding.Finding.{Finding}
use Rattle.hp_doctor.specs.declared.finding.Finding.TheVariants.{Refused, Unserved, Met}
use Rattle.hp_doctor.specs.declared.sentences.TheConstants as says

-- ---- sentences

abbrev pub kind_sentence : TextKind → List ℕ
kind_sentence texts.BadByte = says.BAD_BYTE.now
kind_sentence texts.BadNumber = says.BAD_NUMBER.now
kind_sentence texts.NumberRange = says.NUMBER_RANGE.now
kind_sentence texts.TokenLong = says.TOKEN_LONG.now
kind_sentence texts.Unclosed = says.UNCLOSED.now
kind_sentence texts.ExtraClose = says.EXTRA_CLOSE.now
kind_sentence texts.TooNested = says.TOO_NESTED.now
kind_sentence texts.TooLarge = says.TOO_LARGE.now

abbrev pub what_sentence : What → List ℕ
what_sentence wants.Domain = says.DOMAIN.now
what_sentence wants.Problem = says.PROBLEM.now
what_sentence wants.Name = says.NAME.now
what_sentence wants.Rules = says.RULES.now
what_sentence wants.Rule = says.RULE.now
what_sentence wants.Head = says.HEAD.now
what_sentence wants.Pre = says.PRE.now
what_sentence wants.Expr = says.EXPR.now
what_sentence wants.Variable = says.VARIABLE.now
what_sentence wants.Term = says.TERM.now
what_sentence wants.Tail = says.TAIL.now
what_sentence wants.Atom = says.ATOM.now
what_sentence wants.Atoms = says.ATOMS.now
what_sentence wants.Effects = says.EFFECTS.now
what_sentence wants.Tasks = says.TASKS.now
what_sentence wants.Ground = says.GROUND.now
what_sentence wants.End = says.END.now

abbrev pub check_sentence : CheckKind → List ℕ
check_sentence checks.OtherDomain = says.OTHER_DOMAIN.now
check_sentence checks.UnknownCall = says.UNKNOWN_CALL.now
check_sentence checks.CallArity = says.CALL_ARITY.now
check_sentence checks.VariableInProblem = says.VARIABLE_IN_PROBLEM.now
check_sentence checks.CallInHead = says.CALL_IN_HEAD.now
check_sentence checks.TooManyVariables = says.TOO_MANY_VARIABLES.now
check_sentence checks.ExprNested = says.EXPR_NESTED.now
check_sentence checks.UnknownOrder = says.UNKNOWN_ORDER.now

abbrev pub fault_sentence : FaultKind → List ℕ
fault_sentence faults.NotGround = says.NOT_GROUND.now
fault_sentence faults.NotNumber = says.NOT_NUMBER.now
fault_sentence faults.Overflow = says.OVERFLOW.now
fault_sentence faults.ZeroDivisor = says.ZERO_DIVISOR.now
fault_sentence faults.NegativePower = says.NEGATIVE_POWER.now
fault_sentence faults.NotList = says.NOT_LIST.now
fault_sentence faults.TooDeep = says.TOO_DEEP.now
fault_sentence faults.FractionPower = says.FRACTION_POWER.now

abbrev pub refusal_sentence : Refusal → List ℕ
refusal_sentence refusals.Usage = says.USAGE.now
refusal_sentence (refusals.Read which) = says.UNREAD.now
refusal_sentence (refusals.Text which kind offset) = kind_sentence kind
refusal_sentence (refusals.Form which what span) = what_sentence what
refusal_sentence (refusals.Check fault) = check_sentence fault.kind
refusal_sentence (refusals.NoPair number count) = says.NO_PAIR.now

abbrev pub sentence : Finding → List ℕ
sentence (Refused r) = refusal_sentence r
sentence (Unserved in_problem span) = says.NO_RULE.now
sentence (Met f) = fault_sentence f.kind
