use Rattle.std.proofs.Common.{arith}
use Rattle.std.proofs.lemmas.Grind.{common_steps}
use Rattle.hp_syntax.specs.Checks.{tasks_faults}
use Rattle.hp_syntax.specs.Views.{tasks_of}
use Rattle.hp_check.specs.Places.{place_of}
use Rattle.hp_check.proofs.FaultLemmas.{seen_more}
use Rattle.hp_check.proofs.PartLemmas.{task_list_faults-each}
use Rattle.hp_check.proofs.tasks.+tasks.Goals as goal

pub task_list-loop-part-preserved : goal.task_list-loop-part-preserved
task_list-loop-part-preserved t c =
    seen_more (tasks_faults (place_of c.args.place)) tasks_of _ _ _ _ _ _ c.loop-part-test.true c.part-item.is
    c.loop-part.invariant c.tasks.ensures

pub task_list-returns : goal.task_list-returns
task_list-returns t c = rw task_list_faults-each (grind (arith, common_steps))
