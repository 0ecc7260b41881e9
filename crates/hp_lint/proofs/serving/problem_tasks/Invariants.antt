use Rattle.std.proofs.Common.{◌≡◌, ◌++◌, drop, map}
use Rattle.std.specs.List.{flat_map}
use Rattle.hp_syntax.specs.Notes.{pair_atoms}
use Rattle.hp_syntax.specs.Views.{pair_of}
use Rattle.hp_lint.specs.LintViews.{lent_atoms}
use Rattle.hp_lint.proofs.serving.problem_tasks.Given as goal

abbrev pub invariant-loop-pair : goal.invariant-loop-pair
invariant-loop-pair l =
    lent_atoms l.list.items ++ flat_map pair_atoms (map pair_of (drop l.pair-index l.pairs)) ≡ flat_map pair_atoms (map pair_of l.pairs)
