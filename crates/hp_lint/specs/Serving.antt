-- Tasks, and the rules that may do them.
use Rattle.std.specs.Prelude.{Bool, cond, List, [], ◌∷◌, ◌++◌, Some}
use Rattle.hp_syntax.specs.Syntax as syntax
use Rattle.hp_syntax.specs.Notes.{domain_atoms, problem_atoms}
use Rattle.hp_lint.specs.declared.report.Concern.TheVariants.{NoRule, NeverAsked}
use Rattle.hp_lint.specs.Remarked.{Remark, remark, in_domain}

-- the head of a rule that does tasks
abbrev pub task_head : syntax.Rule → List syntax.Atom
task_head (syntax.Does o) = o.head ∷ []
task_head (syntax.Refines m) = m.head ∷ []
task_head (syntax.Concludes x) = []

-- all tasks of a domain's methods, and of a problem's pairs
abbrev pub all_tasks : syntax.Domain → syntax.Problem → List syntax.Atom
all_tasks d p = domain_atoms d ++ problem_atoms p

-- a task that no rule does
abbrev pub on_task : Bool → (syntax.Atom → Bool) → syntax.Atom → List Remark
on_task in_problem is_served t = cond (is_served t) [] (remark NoRule in_problem t.span (Some t.name))

-- an operator that no task asks for
abbrev pub on_operator : (syntax.Atom → Bool) → syntax.Rule → List Remark
on_operator is_asked (syntax.Does o) = cond (is_asked o.head) [] (in_domain NeverAsked o.head.span (Some o.head.name))
on_operator is_asked (syntax.Refines m) = []
on_operator is_asked (syntax.Concludes x) = []
