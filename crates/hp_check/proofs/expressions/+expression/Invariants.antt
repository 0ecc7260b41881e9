use Rattle.std.proofs.Common.{◌≡◌, take, map}
use Rattle.std.specs.List.{flat_map}
use Rattle.hp_syntax.specs.Checks as checks
use Rattle.hp_syntax.specs.Checks.{earlier, first_of}
use Rattle.hp_syntax.specs.Views.{expression_of}
use Rattle.hp_check.proofs.expressions.+expression.Given as goal

abbrev pub invariant-expressions-loop-part : goal.invariant-expressions-loop-part
invariant-expressions-loop-part l =
    l.watch.first ≡ earlier l.initial.watch.first
    (first_of (flat_map (checks.expression_faults l.level) (map expression_of (take l.part-index l.parts))))
