use Rattle.hp_check.proofs.FirstLemmas.{first_of-none}
use Rattle.hp_check.proofs.laws.no_fault_is_left_out.Goals as goal

pub returns : goal.returns
returns c = first_of-none
