use Rattle.hp_top.proofs.Outcomes.{outcome_some}
use Rattle.hp_top.proofs.laws.every_run_has_an_outcome.Goals as goal

pub returns : goal.returns
returns c = outcome_some c.every_text_is_one_or_the_other.ensures
