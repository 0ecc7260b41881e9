use Rattle.std.proofs.Common.{◌≡◌, take, map}
use Rattle.std.specs.List.{flat_map}
use Rattle.hp_syntax.specs.Checks as checks
use Rattle.hp_syntax.specs.Checks.{earlier, first_of}
use Rattle.hp_syntax.specs.Views.{effect_of}
use Rattle.hp_check.proofs.rules.effects.Given as goal

abbrev pub invariant-loop-part : goal.invariant-loop-part
invariant-loop-part l =
    l.watch.first ≡ earlier l.initial.watch.first
    (first_of (flat_map checks.effect_faults (map effect_of (take l.part-index l.list))))
