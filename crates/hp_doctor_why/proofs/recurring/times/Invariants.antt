use Rattle.std.proofs.Common.{◌≡◌, ◌≤◌, map, take}
use Rattle.hp_syntax.specs.GroundViews.{ground_of}
use Rattle.hp_doctor_why.specs.Said.{times}
use Rattle.hp_doctor_why.proofs.recurring.times.Given as goal

abbrev pub invariant-loop-task : goal.invariant-loop-task
invariant-loop-task l = record {
  so_far : l.count ≡ times l.name (map ground_of (take l.task-index l.tasks));
  few : l.count ≤ l.task-index;
}
