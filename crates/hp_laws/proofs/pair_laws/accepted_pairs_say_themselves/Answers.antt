use Rattle.hp_laws.proofs.FaultLemmas.{faultless_pairs}
use Rattle.hp_laws.proofs.PlainLemmas.{read_problem_is_plain}
use Rattle.hp_laws.proofs.SayingLemmas.{plain_says_itself}
use Rattle.hp_laws.proofs.pair_laws.accepted_pairs_say_themselves.Goals as goal

pub returns : goal.returns
returns c = λ text d p h e k x l.
    plain_says_itself _ (faultless_pairs d p e k x l) (read_problem_is_plain text p h k x l)
