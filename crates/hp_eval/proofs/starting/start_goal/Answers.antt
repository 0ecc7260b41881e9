use Rattle.std.proofs.Common.{length}
use Rattle.hp_eval.proofs.SlotLemmas.{below_undone}
use Rattle.hp_eval.proofs.AttemptLemmas.{starts_leaves}
use Rattle.hp_eval.proofs.starting.start_goal.Goals as goal

pub returns-then-not-matches-clause-below : goal.returns-then-not-matches-clause-below
returns-then-not-matches-clause-below c =
    let started = c.try_start-started in
    let new = started.new.slots in
    rw c.undo_to.ensures
    (below_undone (length started.new.cells) c.mark-mark.result new
    (starts_leaves started.result _ started.new.cells c.args.slots.now new started.ensures.started).below)

pub returns-then-not-matches-clause-cells : goal.returns-then-not-matches-clause-cells
returns-then-not-matches-clause-cells c = c.try_start-started.ensures.cells

pub returns-else-not-matches-clause-cells : goal.returns-else-not-matches-clause-cells
returns-else-not-matches-clause-cells c = c.try_start-started.ensures.cells
