use Rattle.std.proofs.Common.{◌≡◌, ◌++◌, drop, map}
use Rattle.hp_syntax.specs.Views.{pair_of}
use Rattle.hp_syntax.specs.Written as written
use Rattle.hp_syntax.specs.Written.{lines}
use Rattle.hp_print.proofs.files.push_pairs.Given as goal

abbrev pub invariant-loop-pair : goal.invariant-loop-pair
invariant-loop-pair l =
    l.text.items ++ lines (written.pairs l.vars (map pair_of (drop l.pair-index l.pairs)))
    ≡ l.fn.text.items ++ lines (written.pairs l.vars (map pair_of l.pairs))
