-- Functions of the call table, number by number.
use Rattle.std.proofs.Common.{◌≡◌, ℕ, zero, suc, ◌+◌, ◌-◌, ◌<◌, ◌≤◌, Bool, true, false, cond, ℤ, pos, neg_ℤ, unsigned_abs, FitsSigned, List, [], ◌∷◌, length, take, drop, get_or, Option, Some, None, Result, Ok, Err, refl, ap, sym, ◌∙◌, arith}
use Rattle.std.specs.Prelude.{negsuc}
use Rattle.std.specs.Int.{w64}
use Rattle.std.specs.Option.{SomeIff}
use Rattle.std.proofs.lemmas.Grind.{common_steps}
use Rattle.std.proofs.lemmas.List.{drop_more}
use Rattle.hp_syntax.specs.declared.pattern.Span.{Span}
use Rattle.hp_syntax.specs.declared.fault.RunFault.{RunFault}
use Rattle.hp_syntax.specs.declared.fault.FaultKind.TheVariants.{Overflow, NotNumber, ZeroDivisor}
use Rattle.hp_syntax.specs.Terms.{Term, Terms}
use Rattle.hp_syntax.specs.Calls.{fits, fault_at, quotient, numbers, in_turn, from_left, of_one, of_two, Row, row, called, call}
use Rattle.hp_eval.specs.declared.arithmetic.OfNumbers.{OfNumbers}
use Rattle.hp_eval.specs.declared.arithmetic.OfNumbers.TheVariants as functions
use Rattle.hp_eval.specs.CallRows.{step_of, two_of, size_of, numbers_called, numbers_row, all_numbers, fitted}

-- ---- functions carried through numbers

module _ (f : ℤ → ℤ → ℤ) (s : Span) (n m : ℤ) (ms : List ℤ) where
  -- a result that fits is gone on with
  pub goes_on : (t : ℤ) → Ok t ≡ fitted s (f n m) → in_turn f s n (m ∷ ms) ≡ in_turn f s t ms
  goes_on t h = by_case (f n m) (fits (f n m)) h
    where
      by_case : (v : ℤ) (b : Bool) → Ok t ≡ cond b (Ok v) (Err (fault_at Overflow s))
          → cond b (in_turn f s v ms) (Err (fault_at Overflow s)) ≡ in_turn f s t ms
      by_case v true h = let same : v ≡ t = cc in ap (λ x. in_turn f s x ms) same
      by_case v false h = absurd (cc)

  -- a result that doesn't fit is the fault of all
  pub ends_off : (e : RunFault) → Err e ≡ fitted s (f n m) → Err e ≡ in_turn f s n (m ∷ ms)
  ends_off e h = by_case (f n m) (fits (f n m)) h
    where
      by_case : (v : ℤ) (b : Bool) → Err e ≡ cond b (Ok v) (Err (fault_at Overflow s))
          → Err e ≡ cond b (in_turn f s v ms) (Err (fault_at Overflow s))
      by_case v true h = absurd (cc)
      by_case v false h = let same : e ≡ fault_at Overflow s = cc in ap Err same

module _ (f : ℤ → ℤ → ℤ) (s : Span) (ns : List ℤ) (i : ℕ) (m n : ℤ) (lt : i < length ns)
    (is : n ≡ get_or ns i (pos 0)) where
  -- the next number is first of those that are left
  next : in_turn f s m (drop i ns) ≡ in_turn f s m (n ∷ drop (i + 1) ns)
  next =
      ap (in_turn f s m) (drop_more ns i (pos 0) lt) ∙ ap (λ k. in_turn f s m (k ∷ drop (i + 1) ns)) (sym is)

  -- what fits of the numbers that are left is gone on with, and what doesn't is the fault of all
  pub turned_on : (t : ℤ) → Ok t ≡ fitted s (f m n) → in_turn f s m (drop i ns) ≡ in_turn f s t (drop (i + 1) ns)
  turned_on t h = next ∙ goes_on f s m n (drop (i + 1) ns) t h

  pub turned_off : (e : RunFault) → Err e ≡ fitted s (f m n) → Err e ≡ in_turn f s m (drop i ns)
  turned_off e h = ends_off f s m n (drop (i + 1) ns) e h ∙ sym next

-- a function carried from the left starts at the first number and goes on through those behind it
pub from_left_first : (f : ℤ → ℤ → ℤ) (s : Span) (ns : List ℤ) (m : ℤ) → 1 ≤ length ns → m ≡ get_or ns 0 (pos 0)
    → in_turn f s m (take (length ns - 1) (drop 1 ns)) ≡ from_left f s (Some ns)
from_left_first f s [] m h is = absurd (omega arith)
from_left_first f s (n ∷ ns) m h is =
    let others : take (length (n ∷ ns) - 1) (drop 1 (n ∷ ns)) ≡ ns = grind (arith, common_steps) in
    ap (λ k. in_turn f s k (take (length (n ∷ ns) - 1) (drop 1 (n ∷ ns)))) is ∙ ap (in_turn f s n) others

-- ---- absolute values

-- the opposite of a number that fits, fits where the number's size does
opposite_fits : (n : ℤ) → FitsSigned w64 n → FitsSigned w64 (neg_ℤ n) → FitsSigned w64 (pos (unsigned_abs n))
opposite_fits (pos n) f g = f
opposite_fits (negsuc n) f g = g

size_fits : (n : ℤ) → FitsSigned w64 n → FitsSigned w64 (pos (unsigned_abs n)) → FitsSigned w64 (neg_ℤ n)
size_fits (pos zero) f g = g
size_fits (pos (suc n)) f g = record { sfits = omega (arith, g.sfits) }
size_fits (negsuc n) f g = g

-- the size of a number fits where its opposite does
pub size_iff : (r : Option ℤ) (n : ℤ) → FitsSigned w64 n
    → SomeIff r (FitsSigned w64 (neg_ℤ n)) (pos (unsigned_abs n))
    → SomeIff r (FitsSigned w64 (pos (unsigned_abs n))) (pos (unsigned_abs n))
size_iff None n f h = λ g. h (size_fits n f g)
size_iff (Some x) n f h = (opposite_fits n f h.0, h.1)

-- a function of one number is of the first of a list of one
pub of_one_first : (f : Span → ℤ → Result Term RunFault) (s : Span) (ns : List ℤ) → 1 ≤ length ns → length ns < 2
    → of_one f s (Some ns) ≡ f s (get_or ns 0 (pos 0))
of_one_first f s [] h k = absurd (omega arith)
of_one_first f s (n ∷ []) h k = refl
of_one_first f s (n ∷ m ∷ ms) h k = absurd (omega arith)

-- ---- quotients

-- a quotient by zero is a fault
pub quotient_by_zero : (s : Span) (m n : ℤ) → n ≡ pos 0 → quotient s m n ≡ Err (fault_at ZeroDivisor s)
quotient_by_zero s m n e = rw e refl

-- ---- functions of numbers

-- the fault of terms that aren't numbers is that of a function of numbers
pub numbers_fault : (f : OfNumbers) (ts : Terms) (s : Span) (e : RunFault) → all_numbers s (numbers ts) ≡ Err e
    → called (numbers_row f) ts s ≡ Err e
numbers_fault (functions.InTurn g) ts s e h = by_numbers (numbers ts) h
  where
    by_numbers : (o : Option (List ℤ)) → all_numbers s o ≡ Err e → from_left (step_of g) s o ≡ Err e
    by_numbers None k = let q : fault_at NotNumber s ≡ e = cc in ap Err q
    by_numbers (Some ns) k = absurd (cc)
numbers_fault (functions.OfTwo g) ts s e h = by_numbers (numbers ts) h
  where
    by_numbers : (o : Option (List ℤ)) → all_numbers s o ≡ Err e → of_two (two_of g) s o ≡ Err e
    by_numbers None k = let q : fault_at NotNumber s ≡ e = cc in ap Err q
    by_numbers (Some ns) k = absurd (cc)
numbers_fault functions.Absolute ts s e h = by_numbers (numbers ts) h
  where
    by_numbers : (o : Option (List ℤ)) → all_numbers s o ≡ Err e → of_one size_of s o ≡ Err e
    by_numbers None k = let q : fault_at NotNumber s ≡ e = cc in ap Err q
    by_numbers (Some ns) k = absurd (cc)

-- of terms that are numbers a function of numbers gives what it gives for these
pub numbers_called_are : (f : OfNumbers) (ts : Terms) (s : Span) (ns ms : List ℤ) → ms ≡ ns
    → all_numbers s (numbers ts) ≡ Ok ns → called (numbers_row f) ts s ≡ numbers_called f s ms
numbers_called_are f ts s ns ms same h = by_function f ∙ ap (numbers_called f s) (sym same)
  where
    some : (o : Option (List ℤ)) → all_numbers s o ≡ Ok ns → o ≡ Some ns
    some None k = absurd (cc)
    some (Some xs) k = let e : xs ≡ ns = cc in ap Some e

    by_function : (f : OfNumbers) → called (numbers_row f) ts s ≡ numbers_called f s ns
    by_function (functions.InTurn g) = ap (from_left (step_of g) s) (some (numbers ts) h)
    by_function (functions.OfTwo g) = ap (of_two (two_of g) s) (some (numbers ts) h)
    by_function functions.Absolute = ap (of_one size_of s) (some (numbers ts) h)

-- ---- the call of a name

-- the value of a row is that of the call of its name
pub named_call : (name : List ℕ) (ts : Terms) (s : Span) (r : Row) → r ≡ row name → called r ts s ≡ call name ts s
unfolding call
named_call name ts s r h = ap (λ q. called q ts s) h
