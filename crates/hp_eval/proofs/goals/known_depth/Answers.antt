use Rattle.std.proofs.Common.{Some, sym, ◌∙◌, ap}
use Rattle.hp_eval.specs.GoalViews.{filled_of}
use Rattle.hp_eval.specs.FillSteps.{depth_of}
use Rattle.hp_eval.proofs.CellViews.{named_at}
use Rattle.hp_eval.proofs.GoalViewLemmas.{filled_of-known, below_cell}
use Rattle.hp_eval.proofs.FillStepLemmas.{free_depth}
use Rattle.hp_eval.proofs.goals.known_depth.Goals as goal

pub depth-requires : goal.depth-requires
depth-requires c = below_cell _ c.args.part.now c.in-Known.cell c.requires c.in-Known.is

pub returns-in-Known : goal.returns-in-Known
returns-in-Known c =
    let terms = c.args.cells.now in
    let l = below_cell _ c.args.part.now c.in-Known.cell c.requires c.in-Known.is in
    ap Some (c.depth.ensures.depth _ (named_at terms c.in-Known.cell l))
    ∙ ap depth_of (sym (ap (filled_of terms) c.in-Known.is ∙ filled_of-known terms c.in-Known.cell))

pub returns-in-Free : goal.returns-in-Free
returns-in-Free c = free_depth c.args.cells.now c.args.part.now c.in-Free.is

pub returns-in-Free-2 : goal.returns-in-Free-2
returns-in-Free-2 c = free_depth c.args.cells.now c.args.part.now c.in-Free.is
