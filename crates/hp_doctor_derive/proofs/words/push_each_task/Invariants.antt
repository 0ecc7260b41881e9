use Rattle.std.proofs.Common.{◌≡◌, ◌++◌, drop, map}
use Rattle.std.specs.List.{flat_map}
use Rattle.hp_syntax.specs.Views.{domain_of}
use Rattle.hp_doctor.specs.Texts.{texts_of}
use Rattle.hp_obstacles.specs.Obstacles.{stuck_of}
use Rattle.hp_doctor_derive.specs.Said.{task_text}
use Rattle.hp_doctor_derive.proofs.words.push_each_task.Given as goal

abbrev pub invariant-loop-stuck : goal.invariant-loop-stuck
invariant-loop-stuck l =
    let text = task_text (texts_of l.files) (domain_of l.domain) in
    l.out.items ++ flat_map text (map stuck_of (drop l.stuck-index l.tasks))
    ≡ l.fn.out.items ++ flat_map text (map stuck_of l.tasks)
