use Rattle.std.proofs.Common.{sym, ◌∙◌, ap}
use Rattle.hp_syntax.specs.Goals.{ground_parts}
use Rattle.hp_eval.specs.GoalViews.{fillings_of}
use Rattle.hp_eval.specs.FillSteps.{too_deep}
use Rattle.hp_eval.proofs.FillStepLemmas.{free_not_ground}
use Rattle.hp_eval.proofs.goals.are_too_deep.Goals as goal

pub returns-in-Some : goal.returns-in-Some
returns-in-Some c =
    let fs = fillings_of c.args.cells.now c.args.parts.now in
    sym (ap (λ t. too_deep (ground_parts fs t)) c.in-Some.is ∙ ap too_deep (free_not_ground fs c.in-Some.field-0))
