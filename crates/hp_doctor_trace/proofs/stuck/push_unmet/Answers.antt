use Rattle.std.proofs.Common.{◌++◌, ap, sym, ◌∙◌}
use Rattle.std.proofs.lemmas.Result.{on_ok_weaker}
use Rattle.hp_obstacles.specs.Obstacles.{obstacle_of}
use Rattle.hp_syntax.specs.Views.{domain_of}
use Rattle.hp_doctor.specs.Texts.{file_of}
use Rattle.hp_doctor_trace.specs.Failing.{unmet_words}
use Rattle.hp_doctor_trace.proofs.stuck.push_unmet.Goals as goal

pub returns-in-Part : goal.returns-in-Part
returns-in-Part c =
    on_ok_weaker c.push_part.result
    (λ h. h ∙ ap (λ u. c.args.out.now.items ++ unmet_words (file_of c.args.file.now) (domain_of c.args.domain.now).rules
    (obstacle_of c.args.obstacle.now) u)
    (sym c.in-Part.is))
    c.push_part.ensures
