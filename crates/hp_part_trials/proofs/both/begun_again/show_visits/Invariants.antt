use Rattle.std.proofs.Common.{◌≡◌, true}
use Rattle.hp_search.specs.Planned.{tree_planned}
use Rattle.hp_part_trials.proofs.both.begun_again.show_visits.Given as goal

abbrev pub invariant-loop-visit : goal.invariant-loop-visit
invariant-loop-visit l = record {
  live : l.walk.live ≡ true;
  tree : tree_planned l.walk ≡ tree_planned l.fn.walk;
}
