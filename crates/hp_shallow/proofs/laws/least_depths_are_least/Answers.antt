use Rattle.hp_shallow.proofs.LeastLemmas.{least_cut, least_none, least_plan}
use Rattle.hp_shallow.proofs.laws.least_depths_are_least.Goals as goal

pub returns : goal.returns
returns c = record {
  plan = λ rules nest pair at walked limit e. least_plan rules nest pair at walked limit e;
  none = λ rules nest pair at walked limit e. least_none rules nest pair at walked limit e;
  cut = λ rules nest pair at walked limit e. least_cut rules nest pair at walked limit e;
}
