use Rattle.std.proofs.Common.{◌≡◌, ◌≤◌, ◌++◌, map, drop}
use Rattle.hp_syntax.specs.Views.{domain_of}
use Rattle.hp_way.specs.Ways.{deed_of}
use Rattle.hp_doctor_tree.specs.Deeds.{steps_from}
use Rattle.hp_doctor_tree.proofs.deeds.steps.Given as goal

abbrev pub invariant-loop-deed : goal.invariant-loop-deed
invariant-loop-deed l = record {
  left : l.steps.items ++ steps_from (domain_of l.domain).rules l.count (map deed_of (drop l.deed-index l.deeds))
      ≡ steps_from (domain_of l.domain).rules 0 (map deed_of l.deeds);
  small : l.count ≤ l.deed-index;
}
