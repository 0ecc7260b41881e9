use Rattle.std.proofs.Common.{◌++◌, ap, sym, ◌∙◌}
use Rattle.std.proofs.lemmas.Result.{on_ok_weaker}
use Rattle.hp_obstacles.specs.Obstacles.{unconcluded_of}
use Rattle.hp_syntax.specs.Views.{domain_of}
use Rattle.hp_doctor.specs.Texts.{texts_of}
use Rattle.hp_doctor_why.specs.Said.{unconcluded_by}
use Rattle.hp_doctor_why.proofs.axioms.push_unconcluded.Goals as goal

pub returns-in-Part : goal.returns-in-Part
returns-in-Part c =
    on_ok_weaker c.push_part.result
    (λ h. h ∙ ap (λ u. c.args.out.now.items ++ unconcluded_by (texts_of c.args.files.now) (domain_of c.args.domain.now)
    (unconcluded_of c.args.axiom.now) u)
    (sym c.in-Part.is))
    c.push_part.ensures
