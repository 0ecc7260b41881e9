use Rattle.hp_io.specs.declared.folder.Input.TheVariants as inputs
use Rattle.hp_syntax.specs.Grammar.{problem_form}
use Rattle.hp_syntax.specs.Views.{problem_of}
use Rattle.hp_top.proofs.LoadingSteps.{reads_file, stops_file, read_weaker, cause_weaker}
use Rattle.hp_top.proofs.loading.load_problem.Goals as goal

pub returns-in-Ok-clause-problem : goal.returns-in-Ok-clause-problem
returns-in-Ok-clause-problem g c =
    let prefix = c.refusals_are_decided_by_the_prefix.ensures in
    read_weaker _ _ c.problem_in.result c.problem_in.ensures.problem
    (λ x h. reads_file prefix.refused prefix.spelled c.limits_are_kept.ensures.needed problem_form _ _ (problem_of x)
    c.in-Ok.ensures.bytes h)

pub returns-in-Ok-clause-stops : goal.returns-in-Ok-clause-stops
returns-in-Ok-clause-stops g c =
    let prefix = c.refusals_are_decided_by_the_prefix.ensures in
    cause_weaker _ _ c.problem_in.result c.problem_in.ensures.refused
    (λ e h.
    stops_file prefix.refused prefix.spelled c.limits_are_kept.ensures.needed problem_form inputs.Problem _ _ e _ _
    c.in-Ok.ensures.bytes h)
