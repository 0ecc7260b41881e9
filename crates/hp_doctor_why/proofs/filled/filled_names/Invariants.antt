-- So many of the first variables are written.
use Rattle.std.proofs.Common.{◌≡◌, map, take}
use Rattle.std.specs.Prelude.{option_map}
use Rattle.hp_syntax.specs.GroundViews.{ground_of}
use Rattle.hp_doctor_why.specs.Filled.{filled_names}
use Rattle.hp_doctor_why.proofs.filled.filled_names.Given as goal

abbrev pub invariant-loop-place : goal.invariant-loop-place
invariant-loop-place l =
    l.filled.items ≡ filled_names (take l.place l.names) (map (option_map ground_of) l.values)
