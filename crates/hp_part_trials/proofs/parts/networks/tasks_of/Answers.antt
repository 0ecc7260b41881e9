use Rattle.std.proofs.Common.{sym, subst}
use Rattle.hp_links.specs.Linked.{NamesTask}
use Rattle.hp_part_trials.proofs.parts.networks.tasks_of.Goals as goal

pub task-requires : goal.task-requires
task-requires c =
    subst (NamesTask c.args.net.now.now) (sym c.id-item.is)
    (c.requires c.loop-id.id-index c.id-item.result c.loop-id-test.true)
