use Rattle.hp_laws.proofs.ValueLemmas.{value_same, value_grows}
use Rattle.hp_laws.proofs.term_laws.values_depend_on_their_variables.Goals as goal

pub returns-clause-same : goal.returns-clause-same
returns-clause-same c = value_same

pub returns-clause-grow : goal.returns-clause-grow
returns-clause-grow c = value_grows
