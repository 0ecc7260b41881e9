use Rattle.hp_world.proofs.AnswerLemmas.{applied_to_terms}
use Rattle.hp_world.proofs.laws.applying_to_cells_is_applying_to_terms.Goals as goal

pub returns : goal.returns
returns c = applied_to_terms
