use Rattle.std.proofs.Common.{refl, sym, ap, ◌∙◌}
use Rattle.std.specs.Prelude.{option_map}
use Rattle.std.proofs.lemmas.Result.{IfOk-weaker}
use Rattle.hp_syntax.specs.GroundViews.{ground_of}
use Rattle.hp_unmet.proofs.LookUps.{missing, there}
use Rattle.hp_doctor_why.specs.Filled.{value_or_name}
use Rattle.hp_doctor_why.proofs.filled.filled_name.Goals as goal

pub returns-in-Some : goal.returns-in-Some
returns-in-Some c =
    let at = c.in-Some.ensures.lookup in
    IfOk-weaker c.value_or_name.result _ _
    (λ n h. h ∙ sym (ap (value_or_name c.args.name.now)
    (there (option_map ground_of) _ _ c.args.place refl c.in-Some.value.now at.3.0 at.1)))
    c.value_or_name.ensures

pub returns-in-None : goal.returns-in-None
returns-in-None c =
    IfOk-weaker c.copy.result _ _
    (λ n h. h ∙ sym (ap (value_or_name c.args.name.now)
    (missing (option_map ground_of) _ _ c.args.place refl c.in-None.ensures.lookup.3)))
    c.copy.ensures.same
