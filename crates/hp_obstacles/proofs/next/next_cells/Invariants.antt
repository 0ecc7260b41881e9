use Rattle.std.proofs.Common.{◌≡◌, ℕ, List, take}
use Rattle.std.specs.List.{All}
use Rattle.hp_links.specs.Linked.{PartBelow}
use Rattle.hp_syntax.specs.Terms.{Term}
use Rattle.hp_world.specs.Stages.{AllBelow, terms_at}
use Rattle.hp_obstacles.proofs.TaskSteps.{tasks_named}
use Rattle.hp_obstacles.proofs.next.next_cells.Given as goal

abbrev pub invariant-loop-id : goal.invariant-loop-id
invariant-loop-id l = record {
  tasks :
      (terms : List Term) → terms_at terms l.cells.items ≡ tasks_named terms l.fn.net.now (take l.id-index l.id-items);
  below : (k : ℕ) → All (PartBelow k) l.fn.net.now.parts → AllBelow k l.cells.items;
}
