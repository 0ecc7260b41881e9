-- The first pattern of a part of a rule that has a span.
use Rattle.std.specs.Prelude.{ℕ, Bool, false, ◌&&◌, ◌||◌, ◌==◌, cond, List, Option, None, Some}
use Rattle.std.specs.Option.{option_or}
use Rattle.hp_syntax.specs.declared.pattern.Span.{Span}
use Rattle.hp_syntax.specs.declared.pattern.Tail.{Tail}
use Rattle.hp_syntax.specs.Syntax as syntax
use Rattle.hp_syntax.specs.Syntax.{Pattern, Patterns}
use Rattle.hp_blame.specs.Firsts.{first_in}

abbrev pub is_span : Span → Span → Bool
is_span s t = (s.from == t.from) && (s.to == t.to)

-- a pattern of a span, where that is the one; else what is inside it
abbrev pub there_or : Span → Span → Pattern → Option Pattern → Option Pattern
there_or s own p inside = cond (is_span own s) (Some p) inside

-- a pattern itself, or the first within a list or a call
unfoldable mutual
  pub pattern_at : Span → Pattern → Option Pattern
  pattern_at s (syntax.Variable own v) = there_or s own (syntax.Variable own v) None
  pattern_at s (syntax.Symbol own name) = there_or s own (syntax.Symbol own name) None
  pattern_at s (syntax.Number own n) = there_or s own (syntax.Number own n) None
  pattern_at s (syntax.Listing own parts tail) = there_or s own (syntax.Listing own parts tail) (patterns_at s parts)
  pattern_at s (syntax.Call own name args) = there_or s own (syntax.Call own name args) (patterns_at s args)

  pub patterns_at : Span → Patterns → Option Pattern
  patterns_at s syntax.NoPattern = None
  patterns_at s (syntax.Before p ps) = option_or (pattern_at s p) (patterns_at s ps)

-- among the arguments of an atom
abbrev pub in_atom : Span → syntax.Atom → Option Pattern
in_atom s a = patterns_at s a.args

-- in an atom, in the value of an assignment, or in a call
abbrev pub in_simple : Span → syntax.Expression → Option Pattern
in_simple s (syntax.Holds own a) = in_atom s a
in_simple s (syntax.And own parts) = None
in_simple s (syntax.Or own parts) = None
in_simple s (syntax.Not own part) = None
in_simple s (syntax.Forall own vars range body) = None
in_simple s (syntax.Assign own v value) = pattern_at s value
in_simple s (syntax.Test own call) = pattern_at s call

-- or in the negation of one of these
abbrev pub in_part : Span → syntax.Expression → Option Pattern
in_part s (syntax.Holds own a) = in_atom s a
in_part s (syntax.And own parts) = None
in_part s (syntax.Or own parts) = None
in_part s (syntax.Not own part) = in_simple s part
in_part s (syntax.Forall own vars range body) = None
in_part s (syntax.Assign own v value) = pattern_at s value
in_part s (syntax.Test own call) = pattern_at s call

-- in an atom that an operator deletes, adds, protects or frees
abbrev pub in_effect : Span → syntax.Effect → Option Pattern
in_effect s (syntax.Change a) = in_atom s a
in_effect s (syntax.Protection a) = in_atom s a
in_effect s (syntax.Each vars e atoms) = None

abbrev pub in_effects : Span → List syntax.Effect → Option Pattern
in_effects s es = first_in (in_effect s) es

-- in a task among those of a branch
unfoldable mutual
  pub in_tasks : Span → syntax.Tasks → Option Pattern
  in_tasks s (syntax.Task a immediate) = in_atom s a
  in_tasks s (syntax.Ordered parts) = in_task_list s parts
  in_tasks s (syntax.Unordered parts) = in_task_list s parts

  pub in_task_list : Span → syntax.TaskList → Option Pattern
  in_task_list s syntax.NoTasks = None
  in_task_list s (syntax.Then t ts) = option_or (in_tasks s t) (in_task_list s ts)

-- ---- variables

abbrev pub is_tail : ℕ → Option Tail → Bool
is_tail v None = false
is_tail v (Some t) = t.var == v

-- a variable stands in a pattern
unfoldable mutual
  pub mentions : ℕ → Pattern → Bool
  mentions v (syntax.Variable own u) = u == v
  mentions v (syntax.Symbol own name) = false
  mentions v (syntax.Number own n) = false
  mentions v (syntax.Listing own parts tail) = any_mentions v parts || is_tail v tail
  mentions v (syntax.Call own name args) = any_mentions v args

  pub any_mentions : ℕ → Patterns → Bool
  any_mentions v syntax.NoPattern = false
  any_mentions v (syntax.Before p ps) = mentions v p || any_mentions v ps

-- or in an atom
abbrev pub atom_mentions : ℕ → syntax.Atom → Bool
atom_mentions v a = any_mentions v a.args || is_tail v a.tail
