use Rattle.std.proofs.Common.{map, append_assoc}
use Rattle.hp_syntax.specs.Views.{pair_of}
use Rattle.hp_syntax.specs.Written as written
use Rattle.hp_syntax.specs.Written.{lines}
use Rattle.hp_syntax.proofs.ListLemmas.{made_on}
use Rattle.hp_print.proofs.files.push_pairs.Goals as goal

pub loop-pair-preserved : goal.loop-pair-preserved
loop-pair-preserved c =
    let vars = c.args.vars.now in
    made_on (λ ps. lines (written.pairs vars (map pair_of ps))) (λ p. lines (written.pair vars (pair_of p)))
    c.args.pairs.now c.loop-pair.pair-index c.pair-item.result c.loop-pair.text.items _ _
    (λ p ps. simp append_assoc) c.loop-pair-test.true c.pair-item.is c.loop-pair.invariant c.in_ok-push_pair.ensures
