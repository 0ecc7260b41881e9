use Rattle.std.proofs.Common.{◌∙◌}
use Rattle.hp_eval.proofs.CellViews.{cells_tell}
use Rattle.hp_eval.proofs.matching.same_term.Goals as goal

pub returns : goal.returns
returns c =
    c.eq.ensures ∙ cells_tell c.args.cells.now c.args.a c.args.b c.len.ensures.cells c.requires.a c.requires.b
