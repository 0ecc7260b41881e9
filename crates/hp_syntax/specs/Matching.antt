-- Matching a pattern with a term.
use Rattle.std.specs.Prelude.{ℕ, cond, Option, Some, None, slice_get, slice_set, bytes_eq}
use Rattle.std.specs.Ordering.{int_eq}
use Rattle.std.specs.Option.{option_and_then}
use Rattle.hp_syntax.specs.declared.pattern.Tail.{Tail}
use Rattle.hp_syntax.specs.Syntax.{Pattern, Patterns, Variable, Listing, NoPattern, Before, Atom}
use Rattle.hp_syntax.specs.Syntax as syntax
use Rattle.hp_syntax.specs.Terms.{Term, Terms, Symbol, Number, Listed, NoTerm, More, same_term}
use Rattle.hp_syntax.specs.Values.{Bindings}

-- a variable meets a term: it is bound to it, or must already stand for an equal one; beyond the
-- bindings there is no variable
abbrev pub met : Option (Option Term) → ℕ → Term → Bindings → Option Bindings
met None v t e = None
met (Some None) v t e = Some (slice_set e v (Some t))
met (Some (Some old)) v t e = cond (same_term old t) (Some e) None

abbrev pub meet : ℕ → Term → Bindings → Option Bindings
meet v t e = met (slice_get e v) v t e

-- a tail takes the list of all remaining parts; without one there must be none
abbrev pub match_tail : Option Tail → Terms → Bindings → Option Bindings
match_tail (Some t) ts e = meet t.var (Listed ts) e
match_tail None NoTerm e = Some e
match_tail None (More t ts) e = None

-- the least extension of the bindings under which the pattern equals the term, if there is one; a pattern with
-- a call has none
unfoldable mutual
  pub match_pattern : Pattern → Term → Bindings → Option Bindings
  match_pattern (Variable s v) t e = meet v t e
  match_pattern (syntax.Symbol s name) (Symbol b) e = cond (bytes_eq name b) (Some e) None
  match_pattern (syntax.Number s n) (Number m) e = cond (int_eq n m) (Some e) None
  match_pattern (Listing s ps tail) (Listed ts) e = match_parts ps tail ts e
  match_pattern _ _ e = None

  pub match_parts : Patterns → Option Tail → Terms → Bindings → Option Bindings
  match_parts NoPattern tail ts e = match_tail tail ts e
  match_parts (Before p ps) tail NoTerm e = None
  match_parts (Before p ps) tail (More t ts) e =
      option_and_then (match_parts ps tail ts) (match_pattern p t e)

-- the same of an atom, which is the list of its name and its arguments
abbrev pub match_atom : Atom → Term → Bindings → Option Bindings
match_atom a (Listed (More (Symbol name) ts)) e = cond (bytes_eq a.name name) (match_parts a.args a.tail ts e) None
match_atom a _ e = None
