use Rattle.std.proofs.Common.{◌≡◌, ◌++◌, drop}
use Rattle.hp_syntax.specs.Notes.{task_list_atoms}
use Rattle.hp_syntax.specs.Views.{task_list_of}
use Rattle.hp_lint.specs.LintViews.{lent_atoms}
use Rattle.hp_lint.proofs.serving.+tasks.Given as goal

abbrev pub invariant-task_list-loop-part : goal.invariant-task_list-loop-part
invariant-task_list-loop-part l =
    lent_atoms l.list.items ++ task_list_atoms (task_list_of (drop l.part-index l.parts)) ≡ lent_atoms l.initial.list.items ++ task_list_atoms (task_list_of l.parts)
