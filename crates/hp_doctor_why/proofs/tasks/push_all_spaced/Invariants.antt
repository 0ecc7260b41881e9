use Rattle.std.proofs.Common.{◌≡◌, ◌++◌, drop, map}
use Rattle.std.specs.List.{flat_map}
use Rattle.hp_syntax.specs.GroundViews.{ground_of}
use Rattle.hp_doctor_why.specs.Said.{spaced}
use Rattle.hp_doctor_why.proofs.tasks.push_all_spaced.Given as goal

abbrev pub invariant-loop-term : goal.invariant-loop-term
invariant-loop-term l =
    l.out.items ++ flat_map spaced (map ground_of (drop l.term-index l.terms))
    ≡ l.fn.out.items ++ flat_map spaced (map ground_of l.terms)
