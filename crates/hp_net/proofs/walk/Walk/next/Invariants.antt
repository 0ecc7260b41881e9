use Rattle.std.proofs.Common.{◌≡◌, true, length}
use Rattle.hp_net.proofs.walk.Walk.next.Given as goal

abbrev pub invariant-loop-step : goal.invariant-loop-step
invariant-loop-step g l = record {
  rest : (g.Self.Walk.stands l.self).rest ≡ (g.Self.Walk.stands l.fn.self).rest;
  tree : g.Self.Walk.tree l.self ≡ g.Self.Walk.tree l.fn.self;
  root_cells : g.Self.Walk.root_cells l.self ≡ g.Self.Walk.root_cells l.fn.self;
  live : g.Self.Walk.is_live l.self ≡ true;
}

abbrev pub decreases-loop-step : goal.decreases-loop-step
decreases-loop-step g l = length (g.Self.Walk.stands l.self).path
