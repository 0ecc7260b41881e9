use Rattle.std.proofs.Common.{◌≡◌, true, length}
use Rattle.std.specs.List.{All}
use Rattle.hp_net.specs.Standings.{IsAtItsNode}
use Rattle.hp_passes.specs.Passing.{Passes, Stops}
use Rattle.hp_passes.proofs.passing.go_through.Given as goal

abbrev pub invariant-loop-step : goal.invariant-loop-step
invariant-loop-step g l = record {
  leads :
      (u : _) (e : _) (there : _)
      → Passes (g.P.Pass.meets (g.W.Walk.tree l.fn.walk)) l.pass l.hand (g.W.Walk.stands l.walk).rest u e there
      → Passes (g.P.Pass.meets (g.W.Walk.tree l.fn.walk)) l.fn.pass l.fn.hand (g.W.Walk.stands l.fn.walk).rest u e there;
  stops :
      (x : _) (e : _) → Stops (g.P.Pass.meets (g.W.Walk.tree l.fn.walk)) g.P.Pass.fails l.pass l.hand (g.W.Walk.stands l.walk).rest x e
      → Stops (g.P.Pass.meets (g.W.Walk.tree l.fn.walk)) g.P.Pass.fails l.fn.pass l.fn.hand (g.W.Walk.stands l.fn.walk).rest x e;
  live : g.W.Walk.is_live l.walk ≡ true;
  tree : g.W.Walk.tree l.walk ≡ g.W.Walk.tree l.fn.walk;
  root_cells : g.W.Walk.root_cells l.walk ≡ g.W.Walk.root_cells l.fn.walk;
  at : All (IsAtItsNode (g.W.Walk.tree l.walk)) (g.W.Walk.stands l.walk).rest;
}

abbrev pub decreases-loop-step : goal.decreases-loop-step
decreases-loop-step g l = length (g.W.Walk.stands l.walk).rest
