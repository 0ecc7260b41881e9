use Rattle.std.proofs.Common.{sym, ap, ◌∙◌, [], false}
use Rattle.hp_world.specs.Stages.{terms_at}
use Rattle.hp_net.specs.Standings.{standing}
use Rattle.hp_part_trials.proofs.TwinLemmas.{one_step, twin_visits_are}
use Rattle.hp_part_trials.proofs.parts.walks.Twins.new.Goals as goal

pub invariant_of-result-clause-steps_are : goal.invariant_of-result-clause-steps_are
invariant_of-result-clause-steps_are c =
    ap (terms_at c.task_cell.new.cells) c.in_ok-steps.ensures.items
    ∙ one_step c.task_cell.new.cells c.in_ok-task.task c.in_ok-task.ensures

pub returns : goal.returns
returns c = ap (λ vs. standing [] vs false) (sym twin_visits_are)
