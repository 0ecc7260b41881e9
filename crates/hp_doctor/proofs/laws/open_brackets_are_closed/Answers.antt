use Rattle.hp_doctor.proofs.MendLemmas.{open_is_closed}
use Rattle.hp_doctor.proofs.laws.open_brackets_are_closed.Goals as goal

pub returns : goal.returns
returns c = open_is_closed
