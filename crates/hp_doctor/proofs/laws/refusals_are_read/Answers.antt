use Rattle.hp_doctor.proofs.LineLemmas.{refusal_read}
use Rattle.hp_doctor.proofs.laws.refusals_are_read.Goals as goal

pub returns : goal.returns
returns c = refusal_read
