use Rattle.hp_check.proofs.FirstLemmas.{first_of-told}
use Rattle.hp_check.proofs.laws.the_first_fault_is_told.Goals as goal

pub returns : goal.returns
returns c = first_of-told
