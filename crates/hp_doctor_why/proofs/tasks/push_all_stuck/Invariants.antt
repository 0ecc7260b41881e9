use Rattle.std.proofs.Common.{◌≡◌, ◌++◌, drop, map}
use Rattle.std.specs.List.{flat_map}
use Rattle.hp_syntax.specs.GroundViews.{ground_of}
use Rattle.hp_syntax.specs.Views.{domain_of}
use Rattle.hp_doctor.specs.Texts.{texts_of}
use Rattle.hp_obstacles.specs.Obstacles.{stuck_of}
use Rattle.hp_doctor_why.specs.Said.{stuck_text}
use Rattle.hp_doctor_why.proofs.tasks.push_all_stuck.Given as goal

abbrev pub invariant-loop-stuck : goal.invariant-loop-stuck
invariant-loop-stuck l =
    let text = stuck_text (texts_of l.files) (domain_of l.domain)
    (map ground_of l.guards) in
    l.out.items ++ flat_map text (map stuck_of (drop l.stuck-index l.tasks))
    ≡ l.fn.out.items ++ flat_map text (map stuck_of l.tasks)
