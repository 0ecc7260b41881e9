use Rattle.hp_syntax.proofs.PrefixForms.{domain_refused, problem_refused}
use Rattle.hp_syntax.proofs.laws.misforms_are_decided_by_the_prefix.Goals as goal

pub returns-clause-domain : goal.returns-clause-domain
returns-clause-domain c = domain_refused

pub returns-clause-problem : goal.returns-clause-problem
returns-clause-problem c = problem_refused
