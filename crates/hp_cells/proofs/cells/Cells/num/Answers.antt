use Rattle.std.proofs.Common.{rules}
use Rattle.hp_cells.proofs.cells.Cells.num.Goals as goal

pub returns-clause-ok : goal.returns-clause-ok
returns-clause-ok c = search rules
