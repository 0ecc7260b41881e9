-- The rows of the call table in code, and their values.
use Rattle.std.specs.Prelude.{ℕ, List, Option, Some, None, bytes_eq, ℤ, ◌+ℤ◌, ◌-ℤ◌, int_le, int_lt, pos, unsigned_abs, cond, not, codes, Result, Ok, Err}
use Rattle.std.specs.Int.{int_min, int_max}
use Rattle.hp_syntax.specs.declared.pattern.Span.{Span}
use Rattle.hp_syntax.specs.declared.fault.RunFault.{RunFault}
use Rattle.hp_syntax.specs.declared.fault.FaultKind.TheVariants.{Overflow, NotNumber}
use Rattle.hp_syntax.specs.Terms.{Term, Symbol, Number, Listed, NoTerm, same_term, is_part}
use Rattle.hp_syntax.specs.Calls as plain
use Rattle.hp_eval.specs.declared.arithmetic.Called.{Called}
use Rattle.hp_eval.specs.declared.arithmetic.Called.TheVariants as answers
use Rattle.hp_eval.specs.declared.arithmetic.Carried.{Carried}
use Rattle.hp_eval.specs.declared.arithmetic.Carried.TheVariants as steps
use Rattle.hp_eval.specs.declared.arithmetic.OfTwo.{OfTwo}
use Rattle.hp_eval.specs.declared.arithmetic.OfTwo.TheVariants as twos
use Rattle.hp_eval.specs.declared.arithmetic.OfNumbers.{OfNumbers}
use Rattle.hp_eval.specs.declared.arithmetic.OfNumbers.TheVariants as functions
use Rattle.hp_eval.specs.declared.rows.Row.{Row}
use Rattle.hp_eval.specs.declared.rows.Row.TheVariants as rows

-- the term that an answer stands for
abbrev pub answer_term : Called → Term
answer_term (answers.Number n) = Number n
answer_term answers.True = Symbol (codes "t")
answer_term answers.Nothing = Listed NoTerm

abbrev pub answered : Result Called RunFault → Result Term RunFault
answered (Ok a) = Ok (answer_term a)
answered (Err f) = Err f

abbrev pub as_number : Result ℤ RunFault → Result Term RunFault
as_number (Ok n) = Ok (Number n)
as_number (Err f) = Err f

-- a number that fits, or the fault of one that doesn't
abbrev pub fitted : Span → ℤ → Result ℤ RunFault
fitted s n = cond (plain.fits n) (Ok n) (Err (plain.fault_at Overflow s))

abbrev pub step_of : Carried → ℤ → ℤ → ℤ
step_of steps.Sum = λ m n. m +ℤ n
step_of steps.Product = plain.product

abbrev pub two_of : OfTwo → Span → ℤ → ℤ → Result Term RunFault
two_of twos.Difference = λ s m n. plain.number s (m -ℤ n)
two_of twos.Quotient = plain.quotient
two_of twos.Remainder = plain.remainder
two_of twos.Power = plain.power
two_of twos.Least = λ s m n. plain.number s (int_min m n)
two_of twos.Greatest = λ s m n. plain.number s (int_max m n)
two_of twos.Less = λ s m n. plain.truth (int_lt m n)
two_of twos.AtMost = λ s m n. plain.truth (int_le m n)
two_of twos.AtLeast = λ s m n. plain.truth (int_le n m)
two_of twos.Greater = λ s m n. plain.truth (int_lt n m)

-- the absolute value of a number
abbrev pub size_of : Span → ℤ → Result Term RunFault
size_of s n = plain.number s (pos (unsigned_abs n))

-- the value of a function of numbers
abbrev pub numbers_called : OfNumbers → Span → List ℤ → Result Term RunFault
numbers_called (functions.InTurn f) s ns = plain.from_left (step_of f) s (Some ns)
numbers_called (functions.OfTwo f) s ns = plain.of_two (two_of f) s (Some ns)
numbers_called functions.Absolute s ns = plain.of_one size_of s (Some ns)

abbrev pub numbers_row : OfNumbers → plain.Row
numbers_row (functions.InTurn f) = plain.InTurn (step_of f)
numbers_row (functions.OfTwo f) = plain.OfTwo (two_of f)
numbers_row functions.Absolute = plain.OfOne size_of

abbrev pub table_row : Row → plain.Row
table_row (rows.OfNumbers f) = numbers_row f
table_row rows.Equal = plain.OfTerms same_term
table_row rows.Unequal = plain.OfTerms (λ x y. not (same_term x y))
table_row rows.Member = plain.OfList is_part
table_row rows.Unknown = plain.Unknown

-- the row of a name that is no function of numbers with a number for its value
abbrev pub test_row : List ℕ → plain.Row
test_row name =
    cond (bytes_eq name (codes "<")) (plain.OfTwo (λ s m n. plain.truth (int_lt m n))) (
    cond (bytes_eq name (codes "<=")) (plain.OfTwo (λ s m n. plain.truth (int_le m n))) (
    cond (bytes_eq name (codes ">=")) (plain.OfTwo (λ s m n. plain.truth (int_le n m))) (
    cond (bytes_eq name (codes ">")) (plain.OfTwo (λ s m n. plain.truth (int_lt n m))) (
    cond (bytes_eq name (codes "=")) (plain.OfTerms same_term) (
    cond (bytes_eq name (codes "!=")) (plain.OfTerms (λ x y. not (same_term x y))) (
    cond (bytes_eq name (codes "member")) (plain.OfList is_part) plain.Unknown))))))

-- the number that a term is, or the fault of one that is none
abbrev pub number_of : Span → Term → Result ℤ RunFault
number_of s (Number n) = Ok n
number_of s (Symbol name) = Err (plain.fault_at NotNumber s)
number_of s (Listed ts) = Err (plain.fault_at NotNumber s)

abbrev pub all_numbers : Span → Option (List ℤ) → Result (List ℤ) RunFault
all_numbers s None = Err (plain.fault_at NotNumber s)
all_numbers s (Some ns) = Ok ns
