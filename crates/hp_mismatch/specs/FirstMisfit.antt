-- The first argument that doesn't match, said by the matching of those before it.
use Rattle.std.specs.Prelude.{◌≡◌, Option, Some, None}
use Rattle.hp_syntax.specs.declared.pattern.Tail.{Tail}
use Rattle.hp_syntax.specs.Matching.{match_parts, match_pattern, match_tail}
use Rattle.hp_syntax.specs.Syntax.{Pattern, Patterns, NoPattern, Before}
use Rattle.hp_syntax.specs.Terms.{Term, Terms, NoTerm, More}
use Rattle.hp_syntax.specs.Values.{Bindings}
use Rattle.hp_mismatch.specs.declared.misfit.Misfit.{Misfit}
use Rattle.hp_mismatch.specs.declared.misfit.Misfit.TheVariants as misfits
use Rattle.hp_mismatch.specs.Mismatch.{misfit_of}

-- patterns, and then others
abbrev pub patterns_then : Patterns → Patterns → Patterns
patterns_then NoPattern qs = qs
patterns_then (Before p ps) qs = Before p (patterns_then ps qs)

-- terms, and then others
abbrev pub terms_then : Terms → Terms → Terms
terms_then NoTerm us = us
terms_then (More t ts) us = More t (terms_then ts us)

-- an argument is the first that doesn't match: those before it match the terms before its own, and under the bindings
-- that they give it doesn't match its term
pub record IsFirstArgument (ps : Patterns) (ts : Terms) (e : Bindings) (m : Misfit) : Type 0 where
  pub before : Patterns
  pub first : Pattern
  pub others : Patterns
  pub terms_before : Terms
  pub term : Term
  pub terms_left : Terms
  pub given : Bindings
  pub args : ps ≡ patterns_then before (Before first others)
  pub terms : ts ≡ terms_then terms_before (More term terms_left)
  pub matches : match_parts before None terms_before e ≡ Some given
  pub differs : match_pattern first term given ≡ None
  pub is : m ≡ misfit_of first

-- the tail is the first that doesn't match: all arguments match, and under the bindings that they give the tail doesn't
-- match the terms that are left
pub record IsTailFirst (ps : Patterns) (tail : Option Tail) (ts : Terms) (e : Bindings) (m : Misfit) : Type 0 where
  pub last : Tail
  pub terms_before : Terms
  pub terms_left : Terms
  pub given : Bindings
  pub there : tail ≡ Some last
  pub terms : ts ≡ terms_then terms_before terms_left
  pub matches : match_parts ps None terms_before e ≡ Some given
  pub differs : match_tail (Some last) terms_left given ≡ None
  pub is : m ≡ misfits.Variable last.span
