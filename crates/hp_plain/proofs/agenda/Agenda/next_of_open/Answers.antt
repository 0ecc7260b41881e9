use Rattle.hp_eval.proofs.GrowthLemmas.{grows_self}
use Rattle.hp_plain.proofs.agenda.Agenda.next_of_open.Goals as goal

pub returns-in-None-clause-cells : goal.returns-in-None-clause-cells
returns-in-None-clause-cells c = grows_self c.args.cells.now
