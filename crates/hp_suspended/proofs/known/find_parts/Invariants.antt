use Rattle.std.proofs.Common.{◌≤◌, length}
use Rattle.hp_suspended.proofs.GroundLemmas.{NamesFrom}
use Rattle.hp_suspended.proofs.known.find_parts.Given as goal

abbrev pub invariant-loop-left : goal.invariant-loop-left
invariant-loop-left l = record {
  within : l.left ≤ length l.parts;
  names : NamesFrom l.cells l.parts l.left l.list;
}

abbrev pub decreases-loop-left : goal.decreases-loop-left
decreases-loop-left l = l.left
