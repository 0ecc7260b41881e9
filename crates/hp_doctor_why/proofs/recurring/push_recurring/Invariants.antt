use Rattle.std.proofs.Common.{◌≡◌, [], ◌++◌, drop, map, take}
use Rattle.hp_syntax.specs.GroundViews.{ground_of}
use Rattle.hp_doctor_why.specs.Said.{recurring_after}
use Rattle.hp_doctor_why.proofs.recurring.push_recurring.Given as goal

abbrev pub invariant-loop-place : goal.invariant-loop-place
invariant-loop-place l =
    let all = map ground_of l.tasks in
    l.out.items ++ recurring_after all (map ground_of (take l.place l.tasks)) (map ground_of (drop l.place l.tasks))
    ≡ l.fn.out.items ++ recurring_after all [] all
