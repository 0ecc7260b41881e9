use Rattle.std.proofs.Common.{rules}
use Rattle.hp_cells.proofs.keys.Key.view.Goals as goal

pub returns-in-Num-clause-shows : goal.returns-in-Num-clause-shows
returns-in-Num-clause-shows c = search rules
