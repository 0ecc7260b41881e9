-- Notes on an accepted domain and problem: the tasks that no rule serves.
use Rattle.std.specs.Prelude.{ℕ, Bool, true, false, cond, List, [], ◌∷◌, ◌++◌, bytes_eq}
use Rattle.std.specs.List.{list_any, flat_map}
use Rattle.hp_syntax.specs.declared.pattern.Span.{Span}
use Rattle.hp_syntax.specs.Syntax as syntax

-- the names of the tasks that a rule serves: those of its head, unless it is an axiom
abbrev pub served_by : syntax.Rule → List (List ℕ)
served_by (syntax.Does o) = o.head.name ∷ []
served_by (syntax.Refines m) = m.head.name ∷ []
served_by (syntax.Concludes a) = []

abbrev pub served : syntax.Domain → List (List ℕ)
served d = flat_map served_by d.rules

-- the atoms of tasks, in order
unfoldable mutual
  pub task_atoms : syntax.Tasks → List syntax.Atom
  task_atoms (syntax.Task a immediate) = a ∷ []
  task_atoms (syntax.Ordered parts) = task_list_atoms parts
  task_atoms (syntax.Unordered parts) = task_list_atoms parts

  pub task_list_atoms : syntax.TaskList → List syntax.Atom
  task_list_atoms syntax.NoTasks = []
  task_list_atoms (syntax.Then t ts) = task_atoms t ++ task_list_atoms ts

abbrev pub branch_atoms : syntax.Branch → List syntax.Atom
branch_atoms b = task_atoms b.tasks

abbrev pub rule_atoms : syntax.Rule → List syntax.Atom
rule_atoms (syntax.Does o) = []
rule_atoms (syntax.Refines m) = flat_map branch_atoms m.branches
rule_atoms (syntax.Concludes a) = []

abbrev pub domain_atoms : syntax.Domain → List syntax.Atom
domain_atoms d = flat_map rule_atoms d.rules

abbrev pub pair_atoms : syntax.Pair → List syntax.Atom
pair_atoms p = task_atoms p.tasks

abbrev pub problem_atoms : syntax.Problem → List syntax.Atom
problem_atoms p = flat_map pair_atoms p.pairs

-- a task that no rule serves, and the text in which it stands
pub record Note : Type 0 where
  pub name : List ℕ
  pub span : Span
  pub in_problem : Bool

abbrev pub note : Bool → syntax.Atom → Note
note in_problem a = record { name = a.name; span = a.span; in_problem = in_problem }

abbrev pub note_if_unserved : List (List ℕ) → Bool → syntax.Atom → List Note
note_if_unserved names in_problem a = cond (list_any (bytes_eq a.name) names) [] (note in_problem a ∷ [])

-- the tasks that no rule serves, in the order of the texts, the domain's before the problem's
unfoldable pub notes : syntax.Domain → syntax.Problem → List Note
notes d p =
    flat_map (note_if_unserved (served d) false) (domain_atoms d)
    ++ flat_map (note_if_unserved (served d) true) (problem_atoms p)
