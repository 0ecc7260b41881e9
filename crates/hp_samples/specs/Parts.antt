-- Short forms of terms, patterns and bindings for the samples.
use Rattle.std.specs.Prelude.{ℕ, ℤ, pos, negsuc, List, [], ◌∷◌, Option, Some, None, Result, codes}
use Rattle.hp_syntax.specs.declared.pattern.Span.{Span}
use Rattle.hp_syntax.specs.declared.fault.RunFault.{RunFault}
use Rattle.hp_syntax.specs.Terms.{Term, Terms, NoTerm, More}
use Rattle.hp_syntax.specs.Terms as terms
use Rattle.hp_syntax.specs.Syntax.{Pattern, Patterns, NoPattern, Before, Atom}
use Rattle.hp_syntax.specs.Syntax as syntax
use Rattle.hp_syntax.specs.Calls.{call}
use Rattle.hp_syntax.specs.Goals.{Fillings, Goal}

abbrev pub between : ℕ → ℕ → Span
between from to = record { from = from; to = to }

abbrev pub row_of : List Term → Terms
row_of [] = NoTerm
row_of (t ∷ ts) = More t (row_of ts)

abbrev pub symbol : List ℕ → Term
symbol name = terms.Symbol name

abbrev pub whole : ℤ → Term
whole n = terms.Number n

abbrev pub listed : List Term → Term
listed ts = terms.Listed (row_of ts)

abbrev pub least : ℤ
least = negsuc 9223372036854775807

abbrev pub greatest : ℤ
greatest = pos 9223372036854775807

-- a call at bytes 4 to 9
abbrev pub call_of : List ℕ → List Term → Result Term RunFault
call_of name ts = call name (row_of ts) (between 4 9)

abbrev pub parts : List Pattern → Patterns
parts [] = NoPattern
parts (p ∷ ps) = Before p (parts ps)

-- a variable at bytes 6 to 8
abbrev pub variable : ℕ → Pattern
variable v = syntax.Variable (between 6 8) v

abbrev pub word : List ℕ → Pattern
word name = syntax.Symbol (between 6 8) name

abbrev pub atom : List ℕ → List Pattern → Atom
atom name ps = record { span = between 2 20; name = name; args = parts ps; tail = None }

-- an atom whose last parts are those that a variable stands for
abbrev pub atom_with_tail : List ℕ → List Pattern → ℕ → Atom
atom_with_tail name ps v =
    record { span = between 2 20; name = name; args = parts ps; tail = Some (record { span = between 15 17; var = v }) }

-- the sum of a variable and 1
abbrev pub one_more : ℕ → Pattern
one_more v = syntax.Call (between 4 14) (codes "+") (parts (variable v ∷ syntax.Number (between 12 13) (pos 1) ∷ []))

abbrev pub goal : List ℕ → Fillings → Option ℕ → Goal
goal name parts tail = record { name = name; parts = parts; tail = tail }
