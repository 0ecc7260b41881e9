use Rattle.std.proofs.Common.{◌≡◌, ◌++◌, replicate}
use Rattle.hp_doctor.proofs.mending.push_closings.Given as goal

abbrev pub invariant-loop : goal.invariant-loop
invariant-loop l = l.out.items ≡ l.fn.out.items ++ replicate l.counter 41
