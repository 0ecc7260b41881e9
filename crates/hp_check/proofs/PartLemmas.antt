-- The faults of many patterns, expressions and task lists are those of each, one after another.
use Rattle.std.proofs.Common.{◌≡◌, ℕ, List, [], ◌∷◌, ◌++◌, length, ap, refl, arith}
use Rattle.std.specs.List.{flat_map}
use Rattle.hp_syntax.specs.declared.pattern.Pat.{Pat}
use Rattle.hp_syntax.specs.Syntax.{Pattern, Expression, Tasks}
use Rattle.hp_syntax.specs.Checks.{Region, count, pattern_faults, patterns_faults, expression_faults, expressions_faults, tasks_faults, task_list_faults}
use Rattle.hp_syntax.specs.Views.{as_patterns, patterns_of, as_expressions, as_task_list}

-- the faults of patterns are those of each
pub patterns_faults-each : (place : Region) (ps : List Pattern)
    → patterns_faults place (as_patterns ps) ≡ flat_map (pattern_faults place) ps
unfolding patterns_faults
patterns_faults-each place [] = refl
patterns_faults-each place (p ∷ ps) = ap (λ fs. pattern_faults place p ++ fs) (patterns_faults-each place ps)

-- as many patterns are counted as there are
pub count-length : (ps : List Pat) → count (patterns_of ps) ≡ length ps
count-length [] = refl
count-length (p ∷ ps) = omega (arith, count-length ps)

-- the faults of expressions at a level are those of each
pub expressions_faults-each : (level : ℕ) (es : List Expression)
    → expressions_faults level (as_expressions es) ≡ flat_map (expression_faults level) es
unfolding expressions_faults
expressions_faults-each level [] = refl
expressions_faults-each level (e ∷ es) = ap (λ fs. expression_faults level e ++ fs) (expressions_faults-each level es)

-- the faults of the parts of a task list are those of each
pub task_list_faults-each : (place : Region) (ts : List Tasks)
    → task_list_faults place (as_task_list ts) ≡ flat_map (tasks_faults place) ts
unfolding task_list_faults
task_list_faults-each place [] = refl
task_list_faults-each place (t ∷ ts) = ap (λ fs. tasks_faults place t ++ fs) (task_list_faults-each place ts)
