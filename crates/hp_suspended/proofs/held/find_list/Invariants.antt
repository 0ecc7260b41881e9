use Rattle.std.proofs.Common.{◌≤◌, drop, length}
use Rattle.hp_syntax.specs.Views.{patterns_of}
use Rattle.hp_eval.specs.Slotted.{bindings_of}
use Rattle.hp_suspended.specs.HeldAtoms.{IsListOf}
use Rattle.hp_suspended.proofs.held.find_list.Given as goal

abbrev pub invariant-loop-left : goal.invariant-loop-left
invariant-loop-left l = record {
  within : l.left ≤ length l.parts;
  names : IsListOf l.cells (bindings_of l.cells l.slots) (patterns_of (drop l.left l.parts)) l.list;
}

abbrev pub decreases-loop-left : goal.decreases-loop-left
decreases-loop-left l = l.left
