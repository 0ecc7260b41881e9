use Rattle.hp_laws.proofs.FaultLemmas.{faultless_pairs}
use Rattle.hp_laws.proofs.PlainLemmas.{read_problem_is_plain}
use Rattle.hp_laws.proofs.SayingLemmas.{plain_is_ground}
use Rattle.hp_laws.proofs.pair_laws.accepted_pairs_are_ground.Goals as goal

pub returns : goal.returns
returns c = λ text d p h e k x l. plain_is_ground _ (faultless_pairs d p e k x l) (read_problem_is_plain text p h k x l)
