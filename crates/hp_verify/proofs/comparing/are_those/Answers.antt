use Rattle.std.proofs.Common.{◌∙◌, arith, map}
use Rattle.hp_syntax.specs.GroundViews.{ground_of}
use Rattle.hp_world.specs.Stages.{terms_at}
use Rattle.hp_verify.proofs.ComparedSteps.{as_many, not_as_many}
use Rattle.hp_verify.proofs.StepLemmas.{are_begun, are_others}
use Rattle.hp_verify.proofs.comparing.are_those.Goals as goal

pub returns-then-steps-plan : goal.returns-then-steps-plan
returns-then-steps-plan c =
    let terms = c.args.cells.now in
    are_others (terms_at terms c.args.steps.now) (map ground_of c.args.plan.now)
    (not_as_many terms c.args.steps.now c.args.plan.now (λ e. omega arith))

pub returns : goal.returns
returns c =
    let terms = c.args.cells.now in
    c.begin.ensures
    ∙ are_begun (terms_at terms c.args.steps.now) (map ground_of c.args.plan.now)
    (as_many terms c.args.steps.now c.args.plan.now (omega arith))
