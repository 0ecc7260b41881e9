use Rattle.std.proofs.Common.{sym, subst}
use Rattle.hp_io.specs.declared.folder.Input.TheVariants as inputs
use Rattle.hp_text.specs.Nodes.{forest_of}
use Rattle.hp_top.specs.Loading.{IsRefusedFor}
use Rattle.hp_top.specs.Outcome.{steps_form}
use Rattle.hp_top.proofs.LoadingSteps.{cause_weaker, form_refused, read_weaker, text_refused}
use Rattle.hp_top.proofs.loading.steps_in.Goals as goal

pub returns-in-Ok-clause-steps : goal.returns-in-Ok-clause-steps
returns-in-Ok-clause-steps c =
    read_weaker _ _ c.steps_of.result c.steps_of.ensures.form
    (λ v h. record { forest = forest_of c.in-Ok.forest; spelled = c.in-Ok.ensures.forest; form_is = h })

pub returns-in-Ok-clause-refused : goal.returns-in-Ok-clause-refused
returns-in-Ok-clause-refused c =
    cause_weaker _ _ c.steps_of.result c.steps_of.ensures.refused
    (λ e h. subst (IsRefusedFor inputs.Plan steps_form c.args.bytes.items) (sym h.1)
    (form_refused inputs.Plan steps_form _ (forest_of c.in-Ok.forest) h.0 c.in-Ok.ensures.forest h.2))

pub returns-in-Err-clause-refused : goal.returns-in-Err-clause-refused
returns-in-Err-clause-refused c =
    rw c.of_text.ensures (text_refused inputs.Plan steps_form _ c.in-Err.refusal c.in-Err.ensures.refused)
