use Rattle.std.proofs.Common.{map, refl}
use Rattle.std.specs.List.{flat_map}
use Rattle.hp_syntax.specs.Notes.{pair_atoms}
use Rattle.hp_syntax.specs.Views.{pair_of}
use Rattle.hp_syntax.proofs.ListLemmas.{made_on}
use Rattle.hp_lint.proofs.serving.problem_tasks.Goals as goal

pub loop-pair-preserved : goal.loop-pair-preserved
loop-pair-preserved c =
    made_on (λ ys. flat_map pair_atoms (map pair_of ys)) (λ y. pair_atoms (pair_of y)) c.args.pairs.now c.loop-pair.pair-index c.pair-item.result
    _ _ _ (λ y ys. refl) c.loop-pair-test.true c.pair-item.is c.loop-pair.invariant c.in_ok-tasks.ensures
