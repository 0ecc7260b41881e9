-- Preconditions: all satisfiers of an expression, the first alone, or all in the order of a variable.
use Rattle.std.specs.Prelude.{ℕ, Bool, false, true, cond, ℤ, int_lt, List, [], ◌∷◌, ◌++◌, map, Option, Some, None}
use Rattle.hp_syntax.specs.declared.pattern.Span.{Span}
use Rattle.hp_syntax.specs.declared.fault.RunFault.{RunFault}
use Rattle.hp_syntax.specs.declared.fault.FaultKind.TheVariants.{NotGround, NotNumber}
use Rattle.hp_syntax.specs.Syntax.{Order, Up, Down, Unknown, Key, Precondition, Plain, First, Sorted, Axiom}
use Rattle.hp_syntax.specs.Terms.{Term, Symbol, Number, Listed}
use Rattle.hp_syntax.specs.Calls.{fault_at}
use Rattle.hp_syntax.specs.Values.{Bindings, bound}
use Rattle.hp_syntax.specs.Events.{Event, Sat, Cut, Fault, is_sat, is_fault, State, sat}
use Rattle.hp_syntax.specs.Lists.{up_to}

-- a list of events is heard up to and including its first fault
abbrev pub heard : List Event → List Event
heard xs = up_to is_fault xs

abbrev pub up_to_sat : List Event → List Event
up_to_sat xs = up_to is_sat xs

-- ---- sorting

-- satisfiers with the numbers by which they are sorted, in the order in which they were found; or the first fault
pub data Keyed : Type 0 where
  Keys : (sats : List (ℤ × Bindings)) → (cut : Bool) → Keyed
  NoKey : (f : RunFault) → Keyed

abbrev pub keyed_with : ℤ → Bindings → Keyed → Keyed
keyed_with n e (NoKey f) = NoKey f
keyed_with n e (Keys xs cut) = Keys ((n, e) ∷ xs) cut

abbrev pub cut_with : Keyed → Keyed
cut_with (NoKey f) = NoKey f
cut_with (Keys xs cut) = Keys xs true

-- the variable must stand for a number
abbrev pub keyed_by : Span → Option Term → Bindings → Keyed → Keyed
keyed_by s None e rest = NoKey (fault_at NotGround s)
keyed_by s (Some (Number n)) e rest = keyed_with n e rest
keyed_by s (Some (Symbol name)) e rest = NoKey (fault_at NotNumber s)
keyed_by s (Some (Listed ts)) e rest = NoKey (fault_at NotNumber s)

abbrev pub keyed : Key → List Event → Keyed
keyed k [] = Keys [] false
keyed k (Sat e ∷ xs) = keyed_by k.span (bound e k.var) e (keyed k xs)
keyed k (Cut ∷ xs) = cut_with (keyed k xs)
keyed k (Fault f ∷ xs) = NoKey f

-- one number is sorted before another
abbrev pub sorts_before : Order → ℤ → ℤ → Bool
sorts_before Up m n = int_lt m n
sorts_before Down m n = int_lt n m
sorts_before (Unknown name span) m n = int_lt m n

-- put before the first that doesn't come before it, so that equal ones keep their order
abbrev pub put_in : (ℤ → ℤ → Bool) → ℤ × Bindings → List (ℤ × Bindings) → List (ℤ × Bindings)
put_in before x [] = x ∷ []
put_in before x (y ∷ ys) = cond (before y.0 x.0) (y ∷ put_in before x ys) (x ∷ y ∷ ys)

abbrev pub sorted : (ℤ → ℤ → Bool) → List (ℤ × Bindings) → List (ℤ × Bindings)
sorted before [] = []
sorted before (x ∷ xs) = put_in before x (sorted before xs)

-- the satisfiers in their order, and a Cut behind them where there was any; or the first fault alone
abbrev pub sorted_events : Order → Keyed → List Event
sorted_events order (NoKey f) = Fault f ∷ []
sorted_events order (Keys xs cut) =
    map (λ x. Sat x.1) (sorted (sorts_before order) xs) ++ cond cut (Cut ∷ []) []

-- the events of a precondition with so many axiom levels
unfoldable pub precondition_events : List Axiom → ℕ → State → Precondition → Bindings → List Event
precondition_events axioms nest s (Plain E) e = heard (sat axioms nest s E e)
precondition_events axioms nest s (First E) e = up_to_sat (heard (sat axioms nest s E e))
precondition_events axioms nest s (Sorted k E) e = sorted_events k.order (keyed k (heard (sat axioms nest s E e)))
