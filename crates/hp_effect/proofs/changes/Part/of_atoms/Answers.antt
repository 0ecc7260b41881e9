use Rattle.std.proofs.Common.{ap, sym}
use Rattle.hp_effect.specs.Gathering.{part_of_atoms}
use Rattle.hp_effect.proofs.changes.Part.of_atoms.Goals as goal

pub returns-in-Deletes : goal.returns-in-Deletes
returns-in-Deletes c = sym (ap part_of_atoms c.in-Deletes.is)
