use Rattle.std.proofs.Common.{◌++◌, map, ap, ◌∙◌}
use Rattle.std.proofs.lemmas.Result.{on_ok_weaker}
use Rattle.hp_syntax.specs.Views.{tasks_of}
use Rattle.hp_syntax.specs.Notes.{task_atoms}
use Rattle.hp_lint.specs.Variables.{atoms_uses}
use Rattle.hp_lint.specs.LintViews.{remark_of}
use Rattle.hp_lint.proofs.CountLemmas.{needed_told}
use Rattle.hp_lint.proofs.variables.tell_branch.Goals as goal

pub returns : goal.returns
returns c =
    let needs = atoms_uses (task_atoms (tasks_of c.args.branch.now.tasks)) in
    let places = c.as_slice.ensures.value ∙ (c.in_ok-tasks.ensures ∙ ap (λ us. us ++ needs) c.new-needed.ensures) in
    on_ok_weaker c.tell_needed.result
    (λ told. told ∙ ap (λ ms. map remark_of c.args.report.now.list.items ++ ms)
    (needed_told c.args.names.now c.args.head.now c.in_ok-own.own _ _ needs c.in_ok-own.ensures places))
    c.tell_needed.ensures
