use Rattle.std.proofs.Common.{sym, ap, ◌∙◌}
use Rattle.std.specs.Prelude.{is_some}
use Rattle.hp_syntax.specs.Goals.{ground_parts}
use Rattle.hp_eval.specs.GoalViews.{fillings_of}
use Rattle.hp_eval.proofs.FillStepLemmas.{free_not_ground}
use Rattle.hp_suspended.proofs.known.is_ground.Goals as goal

pub returns-in-Some : goal.returns-in-Some
returns-in-Some c = λ terms.
    let fs = fillings_of terms c.args.goal.now.args.items in
    sym (ap (λ t. is_some (ground_parts fs t)) c.in-Some.is ∙ ap is_some (free_not_ground fs c.in-Some.field-0))
