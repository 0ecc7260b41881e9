use Rattle.hp_operator.proofs.WholeSteps.{operator_is}
use Rattle.hp_operator.proofs.laws.operators_come_to_what_their_bodies_do.Goals as goal

pub returns : goal.returns
returns c = operator_is
