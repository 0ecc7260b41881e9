use Rattle.std.proofs.Common.{◌≡◌, take, map}
use Rattle.std.specs.List.{flat_map}
use Rattle.hp_syntax.specs.Checks as checks
use Rattle.hp_syntax.specs.Checks.{earlier, first_of}
use Rattle.hp_syntax.specs.Views.{pair_of}
use Rattle.hp_check.proofs.rules.pairs.Given as goal

abbrev pub invariant-loop-part : goal.invariant-loop-part
invariant-loop-part l =
    l.watch.first ≡ earlier l.initial.watch.first
    (first_of (flat_map checks.pair_faults (map pair_of (take l.part-index l.list))))
