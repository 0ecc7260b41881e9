-- Bindings, and the value of a pattern under them.
use Rattle.std.specs.Prelude.{◌≡◌, ℕ, nat_lt, cond, List, length, Option, Some, None, Result, Ok, Err, slice_get, replicate}
use Rattle.hp_syntax.specs.declared.limits.TheConstants.{DEEPEST_TERM}
use Rattle.hp_syntax.specs.declared.pattern.Span.{Span}
use Rattle.hp_syntax.specs.declared.pattern.Tail.{Tail}
use Rattle.hp_syntax.specs.declared.fault.RunFault.{RunFault}
use Rattle.hp_syntax.specs.declared.fault.FaultKind.TheVariants.{NotGround, NotList, TooDeep}
use Rattle.hp_syntax.specs.Syntax.{Pattern, Patterns, Variable, Listing, Call, NoPattern, Before, Atom}
use Rattle.hp_syntax.specs.Syntax as syntax
use Rattle.hp_syntax.specs.Terms.{Term, Terms, Symbol, Number, Listed, NoTerm, More, term_nesting}
use Rattle.hp_syntax.specs.Calls.{fault_at, call}

-- bindings: the term of each variable of a rule, by number, where it stands for one
abbrev pub Bindings : Type 0
Bindings = List (Option Term)

-- so many variables, none of them bound
abbrev pub unbound : ℕ → Bindings
unbound n = replicate n None

abbrev pub flat_option : {A : Type 0} → Option (Option A) → Option A
flat_option None = None
flat_option (Some x) = x

-- the term of a variable
abbrev pub bound : Bindings → ℕ → Option Term
bound e v = flat_option (slice_get e v)

-- bindings of the same variables, of which the second keep what the first have
pub record Extends (e b : Bindings) : Type 0 where
  pub as_many : length b ≡ length e
  pub keeps : (v : ℕ) (t : Term) → bound e v ≡ Some t → bound b v ≡ Some t

-- a value, gone on with unless it is a fault
abbrev pub on_ok : {A B : Type 0} → Result A RunFault → (A → Result B RunFault) → Result B RunFault
on_ok (Ok x) f = f x
on_ok (Err e) f = Err e

abbrev pub value_of_variable : Span → Option Term → Result Term RunFault
value_of_variable s None = Err (fault_at NotGround s)
value_of_variable s (Some t) = Ok t

-- the parts of what must be a list
abbrev pub parts_of : Span → Term → Result Terms RunFault
parts_of s (Listed ts) = Ok ts
parts_of s (Symbol name) = Err (fault_at NotList s)
parts_of s (Number n) = Err (fault_at NotList s)

-- a list of these parts, which must not nest too deep
abbrev pub list_of : Span → Terms → Result Term RunFault
list_of s ts = cond (nat_lt DEEPEST_TERM (term_nesting (Listed ts))) (Err (fault_at TooDeep s)) (Ok (Listed ts))

-- the parts behind those of a list: none, or those of the tail's term
abbrev pub tail_value : Option Tail → Bindings → Result Terms RunFault
tail_value None e = Ok NoTerm
tail_value (Some t) e = on_ok (value_of_variable t.span (bound e t.var)) (parts_of t.span)

-- the term that a pattern stands for, or the first fault from the left
unfoldable mutual
  pub value : Pattern → Bindings → Result Term RunFault
  value (Variable s v) e = value_of_variable s (bound e v)
  value (syntax.Symbol s name) e = Ok (Symbol name)
  value (syntax.Number s n) e = Ok (Number n)
  value (Listing s ps tail) e = on_ok (values ps tail e) (list_of s)
  value (Call s name args) e = on_ok (values args None e) (λ ts. call name ts s)

  pub values : Patterns → Option Tail → Bindings → Result Terms RunFault
  values NoPattern tail e = tail_value tail e
  values (Before p ps) tail e = on_ok (value p e) (λ t. on_ok (values ps tail e) (λ ts. Ok (More t ts)))

-- the value of an atom: the list of its name and its arguments
abbrev pub atom_value : Atom → Bindings → Result Term RunFault
atom_value a e = on_ok (values a.args a.tail e) (λ ts. list_of a.span (More (Symbol a.name) ts))
