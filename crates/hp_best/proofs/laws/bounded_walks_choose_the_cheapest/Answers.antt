use Rattle.hp_best.proofs.ChoiceLemmas.{chosen_is_cheapest, same_chosen}
use Rattle.hp_best.proofs.laws.bounded_walks_choose_the_cheapest.Goals as goal

pub returns : goal.returns
returns c = record {
  same = λ priced vs falls f. same_chosen priced vs falls f;
  cheapest = λ vs. chosen_is_cheapest vs;
}
