use Rattle.hp_nodes.proofs.asking.Asking.ask_argument.Goals as goal

pub returns-clause-asked : goal.returns-clause-asked
returns-clause-asked c = rw c.as_slice.ensures.value at (rw c.is_asked_for-asked.ensures at c.mark_if.ensures)
