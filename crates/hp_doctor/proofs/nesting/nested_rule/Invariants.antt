use Rattle.std.proofs.Common.{◌≡◌, ◌≤◌, drop}
use Rattle.hp_doctor.specs.Nesting.{nested_from, nothing_open}
use Rattle.hp_doctor.proofs.nesting.nested_rule.Given as goal

abbrev pub invariant-loop-i : goal.invariant-loop-i
invariant-loop-i l = record {
  nested : nested_from l.open l.i (drop l.i l.text) ≡ nested_from nothing_open 0 l.text;
  depth : l.open.depth ≤ l.i;
}
