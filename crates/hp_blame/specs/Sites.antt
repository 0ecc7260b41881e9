-- Where in an operator, or in a branch of a method, a pattern stands that has a span.
use Rattle.std.specs.Prelude.{ℕ, List, length, slice_get, Option, None}
use Rattle.std.specs.Option.{option_and_then, option_map, option_or}
use Rattle.hp_syntax.specs.declared.pattern.Span.{Span}
use Rattle.hp_syntax.specs.Syntax as syntax
use Rattle.hp_syntax.specs.Syntax.{Pattern}
use Rattle.hp_syntax.specs.Views.{pattern_of}
use Rattle.hp_blame.specs.declared.sites.Site as made
use Rattle.hp_blame.specs.Firsts.{first_below}
use Rattle.hp_blame.specs.Patterns.{in_effects, in_part, in_tasks, pattern_at}

-- a pattern, and how many parts of the precondition come before it
pub record Site : Type 0 where
  pub before : ℕ
  pub pattern : Pattern

abbrev pub site : ℕ → Pattern → Site
site n p = record { before = n; pattern = p }

-- in the part of a number, and in the first part in which there is one
abbrev pub in_part_at : Span → List syntax.Expression → ℕ → Option Site
in_part_at s parts n = option_map (site n) (option_and_then (in_part s) (slice_get parts n))

abbrev pub in_parts : Span → List syntax.Expression → Option Site
in_parts s parts = first_below (in_part_at s parts) (length parts)

-- after the precondition: in the cost of an operator, in its deletions or in its additions
abbrev pub in_operator : Span → syntax.Operator → Option Pattern
in_operator s o = option_or (option_or (pattern_at s o.cost) (in_effects s o.dels)) (in_effects s o.adds)

-- or in the tasks of a branch of a method
abbrev pub after_by : Span → ℕ → syntax.Rule → Option Pattern
after_by s branch (syntax.Does o) = in_operator s o
after_by s branch (syntax.Refines m) = option_and_then (λ b. in_tasks s b.tasks) (slice_get m.branches branch)
after_by s branch (syntax.Concludes x) = None

abbrev pub after_parts : Span → List syntax.Rule → ℕ → ℕ → Option Pattern
after_parts s rules rule branch = option_and_then (after_by s branch) (slice_get rules rule)

-- in the parts of the precondition, or after them all
abbrev pub site_at : Span → List syntax.Rule → ℕ → ℕ → List syntax.Expression → Option Site
site_at s rules rule branch parts =
    option_or (in_parts s parts) (option_map (site (length parts)) (after_parts s rules rule branch))

-- as it is found
abbrev pub site_of : made.Site → Site
site_of x = site x.before (pattern_of x.pattern.now)
