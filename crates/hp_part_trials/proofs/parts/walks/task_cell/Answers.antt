use Rattle.std.proofs.Common.{ap, Some, ◌∙◌}
use Rattle.hp_syntax.specs.Terms.{Symbol, Listed, NoTerm, More}
use Rattle.hp_part_trials.proofs.parts.walks.task_cell.Goals as goal

pub returns : goal.returns
returns c =
    let made = c.in_ok-task.ensures.ok (Symbol c.in_ok-name.name) NoTerm c.in_ok-symbol.ensures.ok.names
    c.nil-nil.ensures.names in
    made.names ∙ ap (λ n. Some (Listed (More (Symbol n) NoTerm))) c.in_ok-name.ensures.same
