use Rattle.hp_doctor.proofs.LineLemmas.{fault_read}
use Rattle.hp_doctor.proofs.laws.faults_are_read.Goals as goal

pub returns : goal.returns
returns c = fault_read
