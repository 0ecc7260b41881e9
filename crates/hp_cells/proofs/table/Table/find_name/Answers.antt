use Rattle.std.proofs.Common.{bytes_eq, Some, None}
use Rattle.hp_cells.proofs.NameLemmas.{same_name, name_self}
use Rattle.hp_cells.proofs.PlaceLemmas.{looked_up}
use Rattle.hp_cells.proofs.table.Table.find_name.Goals as goal

pub returns-in_err-number : goal.returns-in_err-number
returns-in_err-number c =
    rw c.from_residual.ensures
    (looked_up bytes_eq same_name name_self c.args.name.now c.args.self.now.names.keys None
    c.in_err-number.ensures.index c.in_err-number.ensures.found)

pub returns : goal.returns
returns c =
    looked_up bytes_eq same_name name_self c.args.name.now c.args.self.now.names.keys (Some c.in_ok-number.number)
    c.in_ok-number.ensures.index c.in_ok-number.ensures.found
