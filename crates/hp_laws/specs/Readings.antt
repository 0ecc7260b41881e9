-- Readings of patterns under bindings, apart from faults and limits: words for the laws of matching, values and goals.
use Rattle.std.specs.Prelude.{◌≡◌, ◌⊎◌, ℕ, Option, Some, None, option_map}
use Rattle.std.specs.Option.{option_and_then}
use Rattle.hp_syntax.specs.declared.pattern.Tail.{Tail}
use Rattle.hp_syntax.specs.Syntax.{Pattern, Patterns, Variable, Listing, Call, NoPattern, Before, Atom}
use Rattle.hp_syntax.specs.Syntax as syntax
use Rattle.hp_syntax.specs.Terms.{Term, Terms, Symbol, Number, Listed, NoTerm, More}
use Rattle.hp_syntax.specs.Values.{Bindings, bound}

abbrev pub parts_if_list : Term → Option Terms
parts_if_list (Listed ts) = Some ts
parts_if_list (Symbol name) = None
parts_if_list (Number n) = None

abbrev pub tail_read : Option Tail → Bindings → Option Terms
tail_read None e = Some NoTerm
tail_read (Some t) e = option_and_then parts_if_list (bound e t.var)

-- the term that a pattern is, read with what its variables stand for; a pattern with a call is none
unfoldable mutual
  pub reading : Pattern → Bindings → Option Term
  reading (Variable s v) e = bound e v
  reading (syntax.Symbol s name) e = Some (Symbol name)
  reading (syntax.Number s n) e = Some (Number n)
  reading (Listing s ps tail) e = option_map Listed (readings ps tail e)
  reading (Call s name args) e = None

  pub readings : Patterns → Option Tail → Bindings → Option Terms
  readings NoPattern tail e = tail_read tail e
  readings (Before p ps) tail e =
      option_and_then (λ t. option_map (More t) (readings ps tail e)) (reading p e)

-- an atom is read as the list of its name and its arguments
abbrev pub atom_reading : Atom → Bindings → Option Term
atom_reading a e = option_map (λ ts. Listed (More (Symbol a.name) ts)) (readings a.args a.tail e)

-- a variable stands in a pattern, or as its tail
abbrev pub IsTail : ℕ → Option Tail → Type 0
IsTail v None = ⊥
IsTail v (Some t) = t.var ≡ v

unfoldable mutual
  pub Occurs : ℕ → Pattern → Type 0
  Occurs v (Variable s w) = w ≡ v
  Occurs v (syntax.Symbol s name) = ⊥
  Occurs v (syntax.Number s n) = ⊥
  Occurs v (Listing s ps tail) = OccursAmong v ps tail
  Occurs v (Call s name args) = OccursAmong v args None

  pub OccursAmong : ℕ → Patterns → Option Tail → Type 0
  OccursAmong v NoPattern tail = IsTail v tail
  OccursAmong v (Before p ps) tail = Occurs v p ⊎ OccursAmong v ps tail

-- two bindings say the same of each variable of which this holds
abbrev pub Agree : (ℕ → Type 0) → Bindings → Bindings → Type 0
Agree P e b = (v : ℕ) → P v → bound e v ≡ bound b v
