use Rattle.hp_syntax.specs.GroundViews.{ground_of}
use Rattle.hp_doctor_why.proofs.StepSteps.{last_mapped}
use Rattle.hp_doctor_why.proofs.ends.last_steps.Goals as goal

pub returns : goal.returns
returns c = last_mapped ground_of c.args.steps.now c.saturating_sub.result c.saturating_sub.ensures
