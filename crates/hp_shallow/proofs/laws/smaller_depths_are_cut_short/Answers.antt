use Rattle.hp_shallow.proofs.LeastLemmas.{cut_below, cut_itself, least_within}
use Rattle.hp_shallow.proofs.laws.smaller_depths_are_cut_short.Goals as goal

pub returns : goal.returns
returns c = record {
  within = λ at limit. least_within at limit;
  below = λ at limit depth h. cut_below at limit depth h;
  itself = λ at limit e. cut_itself at limit e;
}
