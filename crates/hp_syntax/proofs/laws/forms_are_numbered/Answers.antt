use Rattle.hp_syntax.proofs.NumberedLemmas.{numbered_domain, numbered_problem}
use Rattle.hp_syntax.proofs.laws.forms_are_numbered.Goals as goal

pub returns-clause-domain : goal.returns-clause-domain
returns-clause-domain c = numbered_domain

pub returns-clause-problem : goal.returns-clause-problem
returns-clause-problem c = numbered_problem
