-- What was at fault at a node: a task, a rule that does it, and the pattern that has the fault.
use Rattle.std.specs.Prelude.{ℕ, Bool, List, length, slice_get, Option, None, Some}
use Rattle.std.specs.Option.{option_and_then, option_map}
use Rattle.hp_syntax.specs.declared.fault.RunFault.{RunFault}
use Rattle.hp_syntax.specs.Events.{State}
use Rattle.hp_syntax.specs.GroundViews.{ground_of}
use Rattle.hp_syntax.specs.Syntax.{Pattern, Rule}
use Rattle.hp_syntax.specs.Terms.{Term}
use Rattle.hp_syntax.specs.Values.{Bindings, value}
use Rattle.hp_syntax.specs.Views.{pattern_of}
use Rattle.hp_syntax.specs.Walk.{Node}
use Rattle.hp_choice.specs.FirstSatisfier.{first_that, values_of}
use Rattle.hp_choice.specs.Tests.{is_fault_of}
use Rattle.hp_unmet.specs.Conjunctions.{Conjunction, asked_in, first_events, matched}
use Rattle.hp_obstacles.specs.Obstacles.{branches_for, task_name}
use Rattle.hp_obstacles.specs.Tasks.{next_tasks}
use Rattle.hp_blame.specs.declared.blames.Blame as made
use Rattle.hp_blame.specs.declared.blames.Culprit as culprit
use Rattle.hp_blame.specs.Firsts.{first_below, first_in}
use Rattle.hp_blame.specs.Sites.{Site, site_at}

-- an operator, or a branch of a method, by their places; the pattern in it that has the fault, and how many parts of
-- the precondition come before it; and the values of the variables by which valuing it is the fault
pub record Culprit : Type 0 where
  pub rule : ℕ
  pub branch : ℕ
  pub before : ℕ
  pub pattern : Pattern
  pub values : Bindings

-- and the task that was to be done by it
pub record Blame : Type 0 where
  pub task : Term
  pub culprit : Culprit

-- valuing a pattern under bindings is the fault
abbrev pub has_fault : RunFault → Pattern → Bindings → Bool
has_fault f p e = is_fault_of f (value p e)

module _ (rules : List Rule) (f : RunFault) (nest : ℕ) (s : State) where
  -- the values by the first satisfier of the parts before a pattern, where the head matches the task, that gives the
  -- fault
  abbrev pub values_by : Term → Conjunction → Site → Option Bindings
  values_by t c x = first_that (has_fault f x.pattern) (first_events rules nest s c (matched c t) x.before)

  abbrev pub culprit_by : Term → ℕ → ℕ → Conjunction → Site → Option Culprit
  culprit_by t rule branch c x =
      option_map
      (λ e. record { rule = rule; branch = branch; before = x.before; pattern = x.pattern; values = e })
      (values_by t c x)

  -- in an operator or a branch, by the first pattern there that has the span of the fault
  abbrev pub culprit_in : Term → ℕ → ℕ → Conjunction → Option Culprit
  culprit_in t rule branch c =
      option_and_then (culprit_by t rule branch c) (site_at f.span rules rule branch c.parts)

  abbrev pub culprit_at : Term → ℕ → ℕ → Option Culprit
  culprit_at t rule branch = option_and_then (culprit_in t rule branch) (asked_in rules rule branch)

  -- the first in a rule, if that is for tasks of a name
  abbrev pub culprit_of : Term → List ℕ → ℕ → Option Culprit
  culprit_of t name rule =
      option_and_then (λ r. first_below (culprit_at t rule) (branches_for name r)) (slice_get rules rule)

  -- the first of all rules
  abbrev pub culprit_named : Term → Option (List ℕ) → Option Culprit
  culprit_named t None = None
  culprit_named t (Some name) = first_below (culprit_of t name) (length rules)

  abbrev pub blame_by : Term → Option Blame
  blame_by t = option_map (λ c. record { task = t; culprit = c }) (culprit_named t (task_name t))

-- at a node, the first of the tasks that may be done next
abbrev pub blame_of : List Rule → RunFault → ℕ → Node → Option Blame
blame_of rules f nest n = first_in (blame_by rules f nest n.state) (next_tasks n)

-- ---- as they are kept

abbrev pub culprit_kept : culprit.Culprit → Culprit
culprit_kept c = record {
  rule = c.rule;
  branch = c.branch;
  before = c.before;
  pattern = pattern_of c.pattern;
  values = values_of c.values;
}

abbrev pub blame_kept : made.Blame → Blame
blame_kept b = record { task = ground_of b.task; culprit = culprit_kept b.culprit }
