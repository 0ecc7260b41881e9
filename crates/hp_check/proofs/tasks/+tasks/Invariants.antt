use Rattle.std.proofs.Common.{◌≡◌, take, map}
use Rattle.std.specs.List.{flat_map}
use Rattle.hp_syntax.specs.Checks as checks
use Rattle.hp_syntax.specs.Checks.{earlier, first_of}
use Rattle.hp_syntax.specs.Views.{tasks_of}
use Rattle.hp_check.specs.Places.{place_of}
use Rattle.hp_check.proofs.tasks.+tasks.Given as goal

abbrev pub invariant-task_list-loop-part : goal.invariant-task_list-loop-part
invariant-task_list-loop-part l =
    l.watch.first ≡ earlier l.initial.watch.first
    (first_of (flat_map (checks.tasks_faults (place_of l.place)) (map tasks_of (take l.part-index l.parts))))
