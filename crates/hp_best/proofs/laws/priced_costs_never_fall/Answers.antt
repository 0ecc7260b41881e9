use Rattle.hp_best.proofs.CostLemmas.{child_up, never_falls}
use Rattle.hp_best.proofs.laws.priced_costs_never_fall.Goals as goal

pub returns : goal.returns
returns c = record {
  child = λ rules nest n m priced h. child_up rules nest priced n m h;
  visits = λ rules nest root priced. never_falls rules nest priced root;
}
