use Rattle.hp_code.proofs.CodeLemmas.{tasks_found, axioms_found, vars_found}
use Rattle.hp_code.proofs.laws.codes_find_their_rules.Goals as goal

pub returns-clause-tasks : goal.returns-clause-tasks
returns-clause-tasks c = tasks_found

pub returns-clause-axioms : goal.returns-clause-axioms
returns-clause-axioms c = axioms_found

pub returns-clause-vars : goal.returns-clause-vars
returns-clause-vars c = vars_found
