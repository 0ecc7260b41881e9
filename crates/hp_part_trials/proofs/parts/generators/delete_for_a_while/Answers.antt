use Rattle.std.proofs.Common.{[], ◌∷◌, ◌∙◌, ap}
use Rattle.hp_syntax.specs.Applying.{applied}
use Rattle.hp_world.specs.Histories.{undone_to}
use Rattle.hp_world.specs.Recorded.{history_in}
use Rattle.hp_world.specs.Stages.{live_atoms, same_cell}
use Rattle.hp_part_trials.proofs.SceneLemmas.{changed_back}
use Rattle.hp_part_trials.proofs.parts.generators.delete_for_a_while.Goals as goal

pub returns-clause-same : goal.returns-clause-same
returns-clause-same c =
    let old = history_in c.args.world.now in
    let changed = history_in c.apply_in.new.self in
    let given =
    applied same_cell (live_atoms old.now.places) old.now.guards
    (record { unguard = []; delete = c.args.gone ∷ []; add = []; guard = [] }) in
    c.undo_to.ensures.back
    ∙ (ap (λ m. undone_to m changed) c.mark-mark.ensures
    ∙ changed_back c.in_ok-apply_in.field-0 given old changed c.in_ok-apply_in.ensures.ok)

pub returns-clause-knows : goal.returns-clause-knows
returns-clause-knows c = λ k. c.undo_to.ensures.knows c.args.cells.now (c.apply_in.ensures.knows k)
