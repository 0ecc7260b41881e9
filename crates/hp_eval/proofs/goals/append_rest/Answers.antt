use Rattle.std.proofs.Common.{◌∙◌, ap}
use Rattle.hp_eval.specs.GoalViews.{fillings_of}
use Rattle.hp_eval.specs.FillSteps.{before_rest, rest_of}
use Rattle.hp_eval.proofs.FillStepLemmas.{free_behind}
use Rattle.hp_eval.proofs.goals.append_rest.Goals as goal

pub returns-in-Free-clause-joined : goal.returns-in-Free-clause-joined
returns-in-Free-clause-joined c =
    let terms = c.args.cells.now in
    let fs = fillings_of terms c.args.parts.now.items in
    ap (λ r. before_rest fs (rest_of terms r)) c.in-Free.is ∙ free_behind fs c.in-Free.v
