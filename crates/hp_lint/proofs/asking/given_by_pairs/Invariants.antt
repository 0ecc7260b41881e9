use Rattle.std.proofs.Common.{◌≡◌, ◌++◌, drop, map}
use Rattle.std.specs.List.{flat_map}
use Rattle.hp_syntax.specs.Views.{pair_of}
use Rattle.hp_lint.specs.Asking.{given_by_pair}
use Rattle.hp_lint.specs.LintViews.{lent_atoms}
use Rattle.hp_lint.proofs.asking.given_by_pairs.Given as goal

abbrev pub invariant-loop-pair : goal.invariant-loop-pair
invariant-loop-pair l =
    lent_atoms l.list.items ++ flat_map given_by_pair (map pair_of (drop l.pair-index l.pairs)) ≡ flat_map given_by_pair (map pair_of l.pairs)
