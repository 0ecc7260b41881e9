-- What is to be found is found among the terms that are left.
use Rattle.std.proofs.Common.{◌≡◌, drop, map}
use Rattle.std.specs.List.{list_any}
use Rattle.hp_syntax.specs.GroundViews.{ground_of}
use Rattle.hp_doctor_why.specs.Filled.{has_text}
use Rattle.hp_doctor_why.proofs.filled.is_protected.Given as goal

abbrev pub invariant-loop-guard : goal.invariant-loop-guard
invariant-loop-guard l =
    list_any (has_text l.text) (map ground_of l.guards)
    ≡ list_any (has_text l.text) (map ground_of (drop l.guard-index l.guards))
