use Rattle.hp_choice.proofs.AlongLaws.{along_satisfied, along_within}
use Rattle.hp_choice.proofs.laws.parts_along_are_satisfied.Goals as goal

pub returns : goal.returns
returns c = record { satisfied = along_satisfied; within = along_within }
