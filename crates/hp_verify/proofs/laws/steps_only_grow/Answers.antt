use Rattle.hp_verify.proofs.GrowthLemmas.{child_grows, steps_grow}
use Rattle.hp_verify.proofs.laws.steps_only_grow.Goals as goal

pub returns : goal.returns
returns c = record {
  child = λ rules nest n m h. child_grows rules nest n m h;
  visits = λ rules nest root. steps_grow rules nest root;
}
