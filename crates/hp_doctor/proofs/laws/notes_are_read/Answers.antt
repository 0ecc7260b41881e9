use Rattle.hp_doctor.proofs.LineLemmas.{note_read}
use Rattle.hp_doctor.proofs.laws.notes_are_read.Goals as goal

pub returns : goal.returns
returns c = note_read
