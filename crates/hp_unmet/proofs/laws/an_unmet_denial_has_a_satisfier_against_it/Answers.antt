use Rattle.hp_unmet.proofs.AgainstLaws.{against_answered}
use Rattle.hp_unmet.proofs.laws.an_unmet_denial_has_a_satisfier_against_it.Goals as goal

pub returns : goal.returns
returns c = λ rules nest state task c place part told at' denial.
    against_answered rules nest state task c place part at' told denial
