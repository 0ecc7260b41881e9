use Rattle.hp_cells.proofs.InternSteps.{symbol_absent}
use Rattle.hp_cells.proofs.table.Table.seek_symbol.Goals as goal

pub returns-in_err-number : goal.returns-in_err-number
returns-in_err-number c =
    rw c.from_residual.ensures (symbol_absent c.requires c.args.name.now c.in_err-number.ensures)
