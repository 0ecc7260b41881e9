use Rattle.std.proofs.Common.{ap, ◌∙◌}
use Rattle.hp_unmet.specs.Conjunctions.{conjuncts}
use Rattle.hp_unmet.proofs.PartLemmas.{made_same}
use Rattle.hp_unmet.proofs.parts.of_operator.Goals as goal

pub returns : goal.returns
returns c = made_same _ _ _ _ _ _ c.as_slice.ensures.value (c.conjuncts.ensures ∙ ap conjuncts c.body_of.ensures)
