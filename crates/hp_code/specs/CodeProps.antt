-- What a code keeps has one proof at most.
use Rattle.std.proofs.Common.{ℕ}
use Rattle.std.proofs.Props.{props}
use Rattle.hp_syntax.specs.declared.pattern.Tail.{Tail}
use Rattle.hp_syntax.specs.Syntax as syntax
use Rattle.std.specs.Prelude.{Option, Some, None}
use Rattle.hp_syntax.specs.Numbered.{TailBelow, PatternBelow, PatternsBelow, AtomBelow, ExpressionBelow, ExpressionsBelow, PreconditionBelow, TasksBelow, TaskListBelow, EffectBelow, IsNumberedRule}
use Rattle.hp_code.specs.CodeViews.{CodeView, IsCode}

module _ (n : ℕ) where
  tail_prop : (t : Option Tail) → IsProp (TailBelow n t)
  tail_prop None = hlevel props
  tail_prop (Some t) = hlevel props

  mutual
    pattern_prop : (p : syntax.Pattern) → IsProp (PatternBelow n p)
    pattern_prop (syntax.Variable s v) = hlevel props
    pattern_prop (syntax.Symbol s name) = hlevel props
    pattern_prop (syntax.Number s m) = hlevel props
    pattern_prop (syntax.Listing s ps t) = hlevel (props, patterns_prop ps, tail_prop t)
    pattern_prop (syntax.Call s name ps) = patterns_prop ps

    patterns_prop : (ps : syntax.Patterns) → IsProp (PatternsBelow n ps)
    patterns_prop syntax.NoPattern = hlevel props
    patterns_prop (syntax.Before p ps) = hlevel (props, pattern_prop p, patterns_prop ps)

  atom_prop : (a : syntax.Atom) → IsProp (AtomBelow n a)
  atom_prop a = hlevel (props, patterns_prop a.args, tail_prop a.tail)

  mutual
    expression_prop : (e : syntax.Expression) → IsProp (ExpressionBelow n e)
    expression_prop (syntax.Holds s a) = atom_prop a
    expression_prop (syntax.And s es) = expressions_prop es
    expression_prop (syntax.Or s es) = expressions_prop es
    expression_prop (syntax.Not s e) = expression_prop e
    expression_prop (syntax.Forall s vs y z) = hlevel (props, expression_prop y, expression_prop z)
    expression_prop (syntax.Assign s v p) = hlevel (props, pattern_prop p)
    expression_prop (syntax.Test s p) = pattern_prop p

    expressions_prop : (es : syntax.Expressions) → IsProp (ExpressionsBelow n es)
    expressions_prop syntax.NoExpression = hlevel props
    expressions_prop (syntax.Also e es) = hlevel (props, expression_prop e, expressions_prop es)

  precondition_prop : (p : syntax.Precondition) → IsProp (PreconditionBelow n p)
  precondition_prop (syntax.Plain e) = expression_prop e
  precondition_prop (syntax.First e) = expression_prop e
  precondition_prop (syntax.Sorted k e) = hlevel (props, expression_prop e)

  mutual
    tasks_prop : (t : syntax.Tasks) → IsProp (TasksBelow n t)
    tasks_prop (syntax.Task a i) = atom_prop a
    tasks_prop (syntax.Ordered ts) = task_list_prop ts
    tasks_prop (syntax.Unordered ts) = task_list_prop ts

    task_list_prop : (ts : syntax.TaskList) → IsProp (TaskListBelow n ts)
    task_list_prop syntax.NoTasks = hlevel props
    task_list_prop (syntax.Then t ts) = hlevel (props, tasks_prop t, task_list_prop ts)

  effect_prop : (x : syntax.Effect) → IsProp (EffectBelow n x)
  effect_prop (syntax.Change a) = atom_prop a
  effect_prop (syntax.Protection a) = atom_prop a
  effect_prop (syntax.Each vs e as') = hlevel (props, expression_prop e, atom_prop)

rule_prop : (r : syntax.Rule) → IsProp (IsNumberedRule r)
rule_prop (syntax.Does o) = hlevel (props, atom_prop, precondition_prop, effect_prop, pattern_prop)
rule_prop (syntax.Refines m) = hlevel (props, atom_prop, precondition_prop, tasks_prop)
rule_prop (syntax.Concludes x) = hlevel (props, atom_prop, expression_prop)

-- what a code keeps has one proof at most
pub code_prop : (c : CodeView) → IsProp (IsCode c)
code_prop c = hlevel (props, rule_prop)
