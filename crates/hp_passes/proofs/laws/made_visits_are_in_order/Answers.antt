use Rattle.hp_passes.proofs.PassLemmas.{all_among, made_from}
use Rattle.hp_passes.specs.Passes.{pass}
use Rattle.hp_passes.proofs.laws.made_visits_are_in_order.Goals as goal

pub returns : goal.returns
returns g c = record {
  order = λ turn out s vs. made_from turn out s vs;
  among = λ turn out s vs. all_among (pass turn out s vs).made vs (made_from turn out s vs);
}
