use Rattle.std.proofs.Common.{◌≡◌, take}
use Rattle.hp_syntax.specs.Checks as checks
use Rattle.hp_syntax.specs.Checks.{earlier, first_of}
use Rattle.hp_syntax.specs.Views.{atoms_of}
use Rattle.hp_check.specs.Places.{place_of}
use Rattle.hp_check.proofs.patterns.atoms.Given as goal

abbrev pub invariant-loop-part : goal.invariant-loop-part
invariant-loop-part l =
    l.watch.first ≡ earlier l.initial.watch.first
    (first_of (checks.atoms_faults (place_of l.place) (atoms_of (take l.part-index l.list))))
