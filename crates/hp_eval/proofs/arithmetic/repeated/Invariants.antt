use Rattle.std.proofs.Common.{◌≡◌, ◌-◌, pos, replicate}
use Rattle.hp_syntax.specs.Calls as plain
use Rattle.hp_eval.proofs.arithmetic.repeated.Given as goal

abbrev pub invariant-loop : goal.invariant-loop
invariant-loop l =
    plain.in_turn plain.product l.span (pos 1000) (replicate l.times l.m)
    ≡ plain.in_turn plain.product l.span l.total (replicate (l.times - l.counter) l.m)
