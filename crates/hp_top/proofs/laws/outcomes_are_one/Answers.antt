use Rattle.hp_top.proofs.Outcomes.{outcome_one}
use Rattle.hp_top.proofs.laws.outcomes_are_one.Goals as goal

pub returns : goal.returns
returns c = outcome_one c.texts_spell_one_forest.ensures c.texts_have_one_refusal.ensures c.no_text_is_both.ensures
