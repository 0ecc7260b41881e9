use Rattle.std.proofs.Common.{drop}
use Rattle.hp_eval.specs.GoalViews.{fillings_of}
use Rattle.hp_eval.proofs.FillStepLemmas.{IsDeepestTo}
use Rattle.hp_eval.proofs.goals.deepest.Given as goal

abbrev pub invariant-loop-part : goal.invariant-loop-part
invariant-loop-part l =
    IsDeepestTo (fillings_of l.cells l.parts) l.most (fillings_of l.cells (drop l.part-index l.parts))
