use Rattle.hp_io.specs.declared.folder.Input.TheVariants as inputs
use Rattle.hp_syntax.specs.Grammar.{domain_form}
use Rattle.hp_syntax.specs.Views.{domain_of}
use Rattle.hp_top.proofs.LoadingSteps.{reads_file, stops_file, read_weaker, cause_weaker}
use Rattle.hp_top.proofs.loading.load_domain.Goals as goal

pub returns-in-Ok-clause-domain : goal.returns-in-Ok-clause-domain
returns-in-Ok-clause-domain g c =
    let prefix = c.refusals_are_decided_by_the_prefix.ensures in
    read_weaker _ _ c.domain_in.result c.domain_in.ensures.domain
    (λ x h. reads_file prefix.refused prefix.spelled c.limits_are_kept.ensures.needed domain_form _ _ (domain_of x)
    c.in-Ok.ensures.bytes h)

pub returns-in-Ok-clause-stops : goal.returns-in-Ok-clause-stops
returns-in-Ok-clause-stops g c =
    let prefix = c.refusals_are_decided_by_the_prefix.ensures in
    cause_weaker _ _ c.domain_in.result c.domain_in.ensures.refused
    (λ e h. stops_file prefix.refused prefix.spelled c.limits_are_kept.ensures.needed domain_form inputs.Domain _ _ e _
    _ c.in-Ok.ensures.bytes h)
