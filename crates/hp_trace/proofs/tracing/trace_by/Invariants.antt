use Rattle.std.proofs.Common.{◌≡◌, true, option_map}
use Rattle.hp_passes.specs.Passing.{sight_of}
use Rattle.hp_search.specs.Planned.{stands_planned, tree_planned}
use Rattle.hp_syntax.specs.Views.{domain_of}
use Rattle.hp_trace.proofs.StuckSteps.{Going}
use Rattle.hp_trace.proofs.tracing.trace_by.Given as goal

abbrev pub invariant-loop-next : goal.invariant-loop-next
invariant-loop-next l = record {
  tree : tree_planned l.planner ≡ tree_planned l.fn.planner;
  live : l.planner.live ≡ true;
  going :
      Going (domain_of l.fn.domain).rules (tree_planned l.fn.planner) l.fn.from l.fn.most l.visits.items l.left
      (option_map sight_of l.next) (stands_planned l.planner);
}

abbrev pub decreases-loop-next : goal.decreases-loop-next
decreases-loop-next l = l.left
