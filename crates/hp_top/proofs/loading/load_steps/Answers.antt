use Rattle.std.proofs.Common.{map}
use Rattle.hp_io.specs.declared.folder.Input.TheVariants as inputs
use Rattle.hp_syntax.specs.GroundViews.{ground_of}
use Rattle.hp_top.specs.Outcome.{steps_form}
use Rattle.hp_top.proofs.LoadingSteps.{reads_file, stops_file, read_weaker, cause_weaker}
use Rattle.hp_top.proofs.loading.load_steps.Goals as goal

pub returns-in-Ok-clause-steps : goal.returns-in-Ok-clause-steps
returns-in-Ok-clause-steps g c =
    let prefix = c.refusals_are_decided_by_the_prefix.ensures in
    read_weaker _ _ c.steps_in.result c.steps_in.ensures.steps
    (λ x h. reads_file prefix.refused prefix.spelled c.limits_are_kept.ensures.needed steps_form _ _
    (map ground_of x.items) c.in-Ok.ensures.bytes h)

pub returns-in-Ok-clause-stops : goal.returns-in-Ok-clause-stops
returns-in-Ok-clause-stops g c =
    let prefix = c.refusals_are_decided_by_the_prefix.ensures in
    cause_weaker _ _ c.steps_in.result c.steps_in.ensures.refused
    (λ e h.
    stops_file prefix.refused prefix.spelled c.limits_are_kept.ensures.needed steps_form inputs.Plan _ _ e _ _
    c.in-Ok.ensures.bytes h)
