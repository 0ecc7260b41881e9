use Rattle.std.proofs.Common.{◌≡◌, true}
use Rattle.hp_courier.proofs.swap.print_way_down.Given as goal

abbrev pub invariant-loop : goal.invariant-loop
invariant-loop g l = g.W.Walk.is_live l.walk ≡ true
