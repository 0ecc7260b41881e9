-- The call table: what a call gives for its arguments, over whole numbers of any size, each a count of thousandths.
use Rattle.std.specs.Prelude.{ℕ, ◌-◌, ◌^◌, Bool, ◌&&◌, not, ◌==◌, nat_le, cond, ℤ, pos, negsuc, ◌+ℤ◌, ◌-ℤ◌, ◌*ℤ◌, int_le, int_lt, int_div, int_rem, unsigned_abs, List, [], ◌∷◌, Option, Some, None, option_map, replicate, Result, Ok, Err, bytes_eq, codes}
use Rattle.std.specs.Int.{int_min, int_max}
use Rattle.std.specs.Ordering.{int_eq}
use Rattle.hp_syntax.specs.declared.pattern.Span.{Span}
use Rattle.hp_syntax.specs.declared.fault.RunFault.{RunFault}
use Rattle.hp_syntax.specs.declared.fault.FaultKind.{FaultKind}
use Rattle.hp_syntax.specs.declared.fault.FaultKind.TheVariants.{NotNumber, Overflow, ZeroDivisor, NegativePower, NotList, FractionPower}
use Rattle.hp_syntax.specs.Terms.{Term, Terms, Symbol, Number, Listed, NoTerm, More, same_term, is_part}

abbrev pub fault_at : FaultKind → Span → RunFault
fault_at kind span = record { kind = kind; span = span }

-- a number fits into 64 bits
abbrev pub fits : ℤ → Bool
fits n = int_le (negsuc (2 ^ 63 - 1)) n && int_le n (pos (2 ^ 63 - 1))

-- the result of a call: a number that must fit, `t` or the empty list
abbrev pub number : Span → ℤ → Result Term RunFault
number s n = cond (fits n) (Ok (Number n)) (Err (fault_at Overflow s))

abbrev pub truth : Bool → Result Term RunFault
truth b = Ok (cond b (Symbol (codes "t")) (Listed NoTerm))

-- the numbers that the arguments are, where all are numbers
abbrev pub numbers : Terms → Option (List ℤ)
numbers NoTerm = Some []
numbers (More (Number n) ts) = option_map (λ ns. n ∷ ns) (numbers ts)
numbers (More (Symbol name) ts) = None
numbers (More (Listed xs) ts) = None

-- a function of numbers, one after another from the left, each result of which must fit
abbrev pub in_turn : (ℤ → ℤ → ℤ) → Span → ℤ → List ℤ → Result Term RunFault
in_turn f s n [] = Ok (Number n)
in_turn f s n (m ∷ ms) = cond (fits (f n m)) (in_turn f s (f n m) ms) (Err (fault_at Overflow s))

-- thousandths that are left behind a product or a quotient are cut off, toward zero
abbrev pub product : ℤ → ℤ → ℤ
product m n = int_div (m *ℤ n) (pos 1000)

abbrev pub quotient : Span → ℤ → ℤ → Result Term RunFault
quotient s m n = cond (int_eq n (pos 0)) (Err (fault_at ZeroDivisor s)) (number s (int_div (m *ℤ pos 1000) n))

abbrev pub remainder : Span → ℤ → ℤ → Result Term RunFault
remainder s m n = cond (int_eq n (pos 0)) (Err (fault_at ZeroDivisor s)) (number s (int_rem m n))

-- 1 multiplied by a number so many times
abbrev pub whole_power : Span → ℤ → ℤ → Result Term RunFault
whole_power s m (pos k) = in_turn product s (pos 1000) (replicate k m)
whole_power s m (negsuc k) = Err (fault_at NegativePower s)

abbrev pub power : Span → ℤ → ℤ → Result Term RunFault
power s m n =
    cond (int_eq (int_rem n (pos 1000)) (pos 0)) (whole_power s m (int_div n (pos 1000))) (Err (fault_at FractionPower s))

-- a row of the table: numbers from the left on, two numbers, one number, two terms, or a term and a list
pub data Row : Type 0 where
  InTurn : (f : ℤ → ℤ → ℤ) → Row
  OfTwo : (f : Span → ℤ → ℤ → Result Term RunFault) → Row
  OfOne : (f : Span → ℤ → Result Term RunFault) → Row
  OfTerms : (f : Term → Term → Bool) → Row
  OfList : (f : Term → Terms → Bool) → Row
  Unknown : Row

abbrev pub row : List ℕ → Row
row name =
    cond (bytes_eq name (codes "+")) (InTurn (λ m n. m +ℤ n)) (
    cond (bytes_eq name (codes "*")) (InTurn product) (
    cond (bytes_eq name (codes "-")) (OfTwo (λ s m n. number s (m -ℤ n))) (
    cond (bytes_eq name (codes "/")) (OfTwo quotient) (
    cond (bytes_eq name (codes "mod")) (OfTwo remainder) (
    cond (bytes_eq name (codes "^")) (OfTwo power) (
    cond (bytes_eq name (codes "min")) (OfTwo (λ s m n. number s (int_min m n))) (
    cond (bytes_eq name (codes "max")) (OfTwo (λ s m n. number s (int_max m n))) (
    cond (bytes_eq name (codes "abs")) (OfOne (λ s n. number s (pos (unsigned_abs n)))) (
    cond (bytes_eq name (codes "<")) (OfTwo (λ s m n. truth (int_lt m n))) (
    cond (bytes_eq name (codes "<=")) (OfTwo (λ s m n. truth (int_le m n))) (
    cond (bytes_eq name (codes ">=")) (OfTwo (λ s m n. truth (int_le n m))) (
    cond (bytes_eq name (codes ">")) (OfTwo (λ s m n. truth (int_lt n m))) (
    cond (bytes_eq name (codes "=")) (OfTerms same_term) (
    cond (bytes_eq name (codes "!=")) (OfTerms (λ x y. not (same_term x y))) (
    cond (bytes_eq name (codes "member")) (OfList is_part) Unknown)))))))))))))))

-- how many arguments a name of the table takes
pub data Arity : Type 0 where
  One : Arity
  Two : Arity
  TwoOrMore : Arity

abbrev pub row_arity : Row → Option Arity
row_arity (InTurn f) = Some TwoOrMore
row_arity (OfTwo f) = Some Two
row_arity (OfOne f) = Some One
row_arity (OfTerms f) = Some Two
row_arity (OfList f) = Some Two
row_arity Unknown = None

abbrev pub arity_of : List ℕ → Option Arity
arity_of name = row_arity (row name)

abbrev pub takes : Arity → ℕ → Bool
takes One n = n == 1
takes Two n = n == 2
takes TwoOrMore n = nat_le 2 n

-- a call that no accepted domain has: with a name that the table lacks, or another number of arguments
abbrev pub no_call : Result Term RunFault
no_call = Ok (Listed NoTerm)

abbrev pub from_left : (ℤ → ℤ → ℤ) → Span → Option (List ℤ) → Result Term RunFault
from_left f s None = Err (fault_at NotNumber s)
from_left f s (Some []) = no_call
from_left f s (Some (n ∷ ns)) = in_turn f s n ns

abbrev pub of_two : (Span → ℤ → ℤ → Result Term RunFault) → Span → Option (List ℤ) → Result Term RunFault
of_two f s None = Err (fault_at NotNumber s)
of_two f s (Some (m ∷ n ∷ [])) = f s m n
of_two f s (Some _) = no_call

abbrev pub of_one : (Span → ℤ → Result Term RunFault) → Span → Option (List ℤ) → Result Term RunFault
of_one f s None = Err (fault_at NotNumber s)
of_one f s (Some (n ∷ [])) = f s n
of_one f s (Some _) = no_call

abbrev pub of_terms : (Term → Term → Bool) → Terms → Result Term RunFault
of_terms f (More x (More y NoTerm)) = truth (f x y)
of_terms f _ = no_call

abbrev pub of_list : (Term → Terms → Bool) → Span → Terms → Result Term RunFault
of_list f s (More x (More (Listed ys) NoTerm)) = truth (f x ys)
of_list f s (More x (More y NoTerm)) = Err (fault_at NotList s)
of_list f s _ = no_call

abbrev pub called : Row → Terms → Span → Result Term RunFault
called (InTurn f) ts s = from_left f s (numbers ts)
called (OfTwo f) ts s = of_two f s (numbers ts)
called (OfOne f) ts s = of_one f s (numbers ts)
called (OfTerms f) ts s = of_terms f ts
called (OfList f) ts s = of_list f s ts
called Unknown ts s = no_call

-- the value of a call of a name with these arguments, or its fault at the span of the call
unfoldable pub call : List ℕ → Terms → Span → Result Term RunFault
call name ts s = called (row name) ts s
