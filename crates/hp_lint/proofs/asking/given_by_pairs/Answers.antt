use Rattle.std.proofs.Common.{map, refl}
use Rattle.std.specs.List.{flat_map}
use Rattle.hp_syntax.specs.Views.{pair_of}
use Rattle.hp_syntax.proofs.ListLemmas.{made_on}
use Rattle.hp_lint.specs.Asking.{given_by_pair}
use Rattle.hp_lint.proofs.asking.given_by_pairs.Goals as goal

pub loop-pair-preserved : goal.loop-pair-preserved
loop-pair-preserved c =
    made_on (λ ys. flat_map given_by_pair (map pair_of ys)) (λ y. given_by_pair (pair_of y)) c.args.pairs.now c.loop-pair.pair-index c.pair-item.result
    _ _ _ (λ y ys. refl) c.loop-pair-test.true c.pair-item.is c.loop-pair.invariant
    (rw c.as_slice.ensures.value at c.in_ok-all_of.ensures)
