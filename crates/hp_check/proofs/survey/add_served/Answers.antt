use Rattle.std.proofs.Common.{rules}
use Rattle.hp_check.proofs.survey.add_served.Goals as goal

pub returns-in-Axiom : goal.returns-in-Axiom
returns-in-Axiom c = search rules
