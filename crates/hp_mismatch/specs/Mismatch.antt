-- Where the head of a rule first differs from a task.
use Rattle.std.specs.Prelude.{ℕ, ◌+◌, ◌==◌, nat_le, Bool, Option, Some, None}
use Rattle.hp_syntax.specs.declared.pattern.Tail.{Tail}
use Rattle.hp_syntax.specs.Matching.{match_pattern, match_tail}
use Rattle.hp_syntax.specs.Syntax as syntax
use Rattle.hp_syntax.specs.Syntax.{Pattern, Patterns, NoPattern, Before}
use Rattle.hp_syntax.specs.Terms.{Terms, NoTerm, More}
use Rattle.hp_syntax.specs.Values.{Bindings}
use Rattle.hp_mismatch.specs.declared.misfit.Misfit.{Misfit}
use Rattle.hp_mismatch.specs.declared.misfit.Misfit.TheVariants as misfits

-- the place of a pattern, by what it is
abbrev pub misfit_of : Pattern → Misfit
misfit_of (syntax.Variable s v) = misfits.Variable s
misfit_of (syntax.Symbol s name) = misfits.Value s
misfit_of (syntax.Number s n) = misfits.Value s
misfit_of (syntax.Listing s ps tail) = misfits.List s
misfit_of (syntax.Call s name args) = misfits.List s

-- what is found later where something matches, and else its place
abbrev pub or_here : Misfit → (Bindings → Option Misfit) → Option Bindings → Option Misfit
or_here m later None = Some m
or_here m later (Some f) = later f

abbrev pub tail_misfit : Option Tail → Terms → Bindings → Option Misfit
tail_misfit None ts e = None
tail_misfit (Some tail) ts e = or_here (misfits.Variable tail.span) (λ f. None) (match_tail (Some tail) ts e)

-- the first argument that doesn't match, under the bindings that those before it gave; or the tail
abbrev pub mismatch : Patterns → Option Tail → Terms → Bindings → Option Misfit
mismatch NoPattern tail ts e = tail_misfit tail ts e
mismatch (Before p ps) tail NoTerm e = None
mismatch (Before p ps) tail (More t ts) e = or_here (misfit_of p) (mismatch ps tail ts) (match_pattern p t e)

abbrev pub pattern_count : Patterns → ℕ
pattern_count NoPattern = 0
pattern_count (Before p ps) = pattern_count ps + 1

abbrev pub term_count : Terms → ℕ
term_count NoTerm = 0
term_count (More t ts) = term_count ts + 1

-- a head with a tail takes any number of further arguments
abbrev pub takes : Option Tail → ℕ → ℕ → Bool
takes None n m = n == m
takes (Some tail) n m = nat_le n m
