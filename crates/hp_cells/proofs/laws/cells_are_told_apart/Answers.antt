use Rattle.hp_cells.proofs.CellLemmas.{told_apart}
use Rattle.hp_cells.proofs.laws.cells_are_told_apart.Goals as goal

pub returns : goal.returns
returns c = told_apart
