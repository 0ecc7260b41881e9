use Rattle.std.proofs.Common.{◌≡◌, map}
use Rattle.hp_syntax.specs.GroundViews.{ground_of}
use Rattle.hp_way.specs.Ways.{deed_of}
use Rattle.hp_doctor_why.proofs.reasons.tasks_of.Given as goal

abbrev pub invariant-loop-deed : goal.invariant-loop-deed
invariant-loop-deed l = map ground_of l.tasks.items ≡ map (λ d. d.task) (map deed_of l.yielded)
