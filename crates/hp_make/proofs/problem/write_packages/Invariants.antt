use Rattle.std.proofs.Common.{◌≡◌, ◌-◌, ◌++◌}
use Rattle.hp_make.specs.Texts.{packages_text}
use Rattle.hp_make.proofs.problem.write_packages.Given as goal

abbrev pub invariant-loop-number : goal.invariant-loop-number
invariant-loop-number l =
    l.text.items ++ packages_text l.draws.state l.number (l.n - l.number)
    ≡ l.fn.text.items ++ packages_text l.seed 0 l.n
