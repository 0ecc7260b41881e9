use Rattle.std.proofs.Common.{subst}
use Rattle.hp_doctor.proofs.AcceptingLemmas.{form_stops}
use Rattle.hp_doctor.specs.Mending.{steps_form}
use Rattle.hp_forms.specs.PlanForms.{plan_form}
use Rattle.hp_io.specs.declared.folder.Input.TheVariants as inputs
use Rattle.hp_terms.specs.declared.refusal.FormRefusal.TheVariants as forms
use Rattle.hp_terms.specs.FormReads.{Refuses}
use Rattle.hp_text.specs.Nodes.{forest_of}
use Rattle.hp_doctor_derive.proofs.plans.plan_in.Goals as goal

pub returns-in-Err-Expected-clause-stops : goal.returns-in-Err-Expected-clause-stops
returns-in-Err-Expected-clause-stops c = λ text h.
    form_stops inputs.Plan steps_form text (forest_of c.args.forest)
    (forms.Expected c.in-Err-Expected.what c.in-Err-Expected.span) h
    (subst (λ e. Refuses e (plan_form (forest_of c.args.forest))) c.in-Err-Expected.field-0-is
    c.in-Err-Expected.ensures.form)
