-- Tests of satisfiers.
use Rattle.std.specs.Prelude.{◌≡◌, ℕ, Bool, true, false, ◌&&◌, ◌==◌, Some, Result, Ok, Err}
use Rattle.hp_syntax.specs.declared.fault.FaultKind.{FaultKind}
use Rattle.hp_syntax.specs.declared.fault.FaultKind.TheVariants as kinds
use Rattle.hp_syntax.specs.declared.fault.RunFault.{RunFault}
use Rattle.hp_syntax.specs.Events.{Finding, Satisfied, Faulty, Undecided, Nothing, State, axioms_of, finding, sat}
use Rattle.hp_syntax.specs.Syntax.{Expression}
use Rattle.hp_syntax.specs.Terms.{Term}
use Rattle.hp_syntax.specs.Values.{Bindings, value}
use Rattle.hp_syntax.specs.Views.{pattern_of}
use Rattle.hp_code.specs.CodeViews.{CodeView, rules_in}
use Rattle.hp_suspended.specs.Fitting.{IsExpressionAt}
use Rattle.hp_suspended.specs.Nodes.{expression_at}
use Rattle.hp_choice.specs.declared.first.Test.{Test}
use Rattle.hp_choice.specs.declared.first.Test.TheVariants as tests

abbrev pub is_nothing : Finding → Bool
is_nothing Satisfied = false
is_nothing (Faulty f) = false
is_nothing Undecided = false
is_nothing Nothing = true

-- kinds of faults have different numbers
abbrev pub kind_number : FaultKind → ℕ
kind_number kinds.NotGround = 1
kind_number kinds.NotNumber = 2
kind_number kinds.Overflow = 3
kind_number kinds.ZeroDivisor = 4
kind_number kinds.NegativePower = 5
kind_number kinds.NotList = 6
kind_number kinds.TooDeep = 7
kind_number kinds.FractionPower = 8

-- faults are of one kind, at one place
abbrev pub are_alike : RunFault → RunFault → Bool
are_alike f g =
    (kind_number f.kind == kind_number g.kind) && ((f.span.from == g.span.from) && (f.span.to == g.span.to))

-- valuing came to this fault
abbrev pub is_fault_of : RunFault → Result Term RunFault → Bool
is_fault_of f (Ok t) = false
is_fault_of f (Err g) = are_alike f g

-- the satisfiers that pass a test: all; those under whose bindings nothing satisfies the expression of a node; or those
-- under whose bindings valuing a pattern is a fault
abbrev pub Passes : CodeView → ℕ → State → Test → (Bindings → Bool) → Type 0
Passes c nest st tests.Any passes = (e : Bindings) → passes e ≡ true
Passes c nest st (tests.Nothing node) passes =
    (E : Expression) → expression_at c node ≡ Some E → (e : Bindings)
    → passes e ≡ is_nothing (finding (sat (axioms_of (rules_in c)) nest st E e))
Passes c nest st (tests.Fault p f) passes = (e : Bindings) → passes e ≡ is_fault_of f (value (pattern_of p.now) e)

-- the node of a test is that of an expression
abbrev pub CanTest : CodeView → Test → Type 0
CanTest c tests.Any = Unit {0}
CanTest c (tests.Nothing node) = IsExpressionAt c node
CanTest c (tests.Fault p f) = Unit {0}
