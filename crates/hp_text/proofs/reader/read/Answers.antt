use Rattle.std.proofs.Common.{rules}
use Rattle.hp_text.proofs.reader.read.Goals as goal

pub returns-in-Some-clause-exact : goal.returns-in-Some-clause-exact
returns-in-Some-clause-exact c = search rules
