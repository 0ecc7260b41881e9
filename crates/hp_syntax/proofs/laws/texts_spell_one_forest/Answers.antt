use Rattle.hp_syntax.proofs.ForestLemmas.{one_forest}
use Rattle.hp_syntax.proofs.laws.texts_spell_one_forest.Goals as goal

pub returns : goal.returns
returns c = one_forest
