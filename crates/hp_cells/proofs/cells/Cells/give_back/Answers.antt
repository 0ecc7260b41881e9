use Rattle.std.proofs.Common.{take, ap, ◌∙◌}
use Rattle.hp_cells.proofs.cells.Cells.give_back.Goals as goal

pub returns : goal.returns
returns c = c.truncate.ensures.first ∙ ap (take c.args.mark) c.self.view_is
