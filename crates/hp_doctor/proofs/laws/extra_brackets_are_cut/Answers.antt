use Rattle.hp_doctor.proofs.MendLemmas.{extra_is_cut}
use Rattle.hp_doctor.proofs.laws.extra_brackets_are_cut.Goals as goal

pub returns : goal.returns
returns c = extra_is_cut
