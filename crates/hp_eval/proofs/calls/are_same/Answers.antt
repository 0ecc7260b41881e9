use Rattle.std.proofs.Common.{◌∙◌}
use Rattle.hp_eval.proofs.CellViews.{cells_tell}
use Rattle.hp_eval.proofs.calls.are_same.Goals as goal

pub returns : goal.returns
returns c =
    c.eq.ensures
    ∙ cells_tell c.args.cells.now c.args.x c.args.y c.len.ensures.cells c.requires.first c.requires.second
