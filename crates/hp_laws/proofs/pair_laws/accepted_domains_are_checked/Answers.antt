use Rattle.hp_laws.proofs.FaultLemmas.{accepted_is_checked}
use Rattle.hp_laws.proofs.pair_laws.accepted_domains_are_checked.Goals as goal

pub returns : goal.returns
returns c = accepted_is_checked
