use Rattle.hp_eval.proofs.GrowthLemmas.{grows_self}
use Rattle.hp_eval.proofs.starting.try_start.Goals as goal

pub returns-then-eq-clause-cells : goal.returns-then-eq-clause-cells
returns-then-eq-clause-cells c = c.start_parts.ensures.cells

pub returns-else-eq-clause-cells : goal.returns-else-eq-clause-cells
returns-else-eq-clause-cells c = grows_self c.args.cells.now
