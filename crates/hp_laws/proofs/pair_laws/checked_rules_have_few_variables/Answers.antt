use Rattle.hp_laws.proofs.FaultLemmas.{faultless_has_few, faultless_rules}
use Rattle.hp_laws.proofs.pair_laws.checked_rules_have_few_variables.Goals as goal

pub returns : goal.returns
returns c = λ d e k x l. faultless_has_few _ (faultless_rules d e k x l)
