use Rattle.std.proofs.Common.{◌∙◌}
use Rattle.std.proofs.lemmas.Result.{IfOk-weaker}
use Rattle.hp_tree.proofs.root.Root.indexed.Goals as goal

pub returns-clause-indexes : goal.returns-clause-indexes
returns-clause-indexes c =
    IfOk-weaker c.of_pair.result _ _ (λ r same. same ∙ c.in_ok-world.ensures.indexes) c.of_pair.ensures.indexes
