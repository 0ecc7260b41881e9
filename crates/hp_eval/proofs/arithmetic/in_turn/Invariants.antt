use Rattle.std.proofs.Common.{◌≡◌, drop}
use Rattle.hp_syntax.specs.Calls as plain
use Rattle.hp_eval.specs.CallRows.{step_of}
use Rattle.hp_eval.proofs.arithmetic.in_turn.Given as goal

abbrev pub invariant-loop-n : goal.invariant-loop-n
invariant-loop-n l =
    plain.in_turn (step_of l.function) l.span l.first l.rest
    ≡ plain.in_turn (step_of l.function) l.span l.total (drop l.n-index l.rest)
