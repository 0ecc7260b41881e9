use Rattle.std.proofs.Common.{◌≡◌, take, map}
use Rattle.std.specs.List.{flat_map}
use Rattle.hp_syntax.specs.Checks as checks
use Rattle.hp_syntax.specs.Checks.{earlier, first_of}
use Rattle.hp_syntax.specs.Views.{pattern_of}
use Rattle.hp_check.specs.Places.{place_of}
use Rattle.hp_check.proofs.patterns.+pattern.Given as goal

abbrev pub invariant-patterns-loop-pat : goal.invariant-patterns-loop-pat
invariant-patterns-loop-pat l =
    l.watch.first ≡ earlier l.initial.watch.first
    (first_of (flat_map (checks.pattern_faults (place_of l.place)) (map pattern_of (take l.pat-index l.pats))))
