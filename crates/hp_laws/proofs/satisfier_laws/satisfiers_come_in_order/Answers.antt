use Rattle.hp_laws.proofs.SatisfierLemmas.{selections, sats_of_selections, selections_in_order, selections_are_matches}
use Rattle.hp_laws.proofs.satisfier_laws.satisfiers_come_in_order.Goals as goal

pub returns : goal.returns
returns c = λ axioms nest s span atoms e h k l. (
  selections s atoms e,
  sats_of_selections axioms nest s span atoms e h k l,
  selections_in_order s atoms e,
  selections_are_matches s atoms e,
)
