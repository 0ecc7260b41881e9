use Rattle.std.proofs.Common.{◌≡◌, ◌≤◌, length, take, vec_len, vec_capacity}
use Rattle.hp_eval.specs.Slotted.{bindings_of}
use Rattle.hp_choice.specs.FirstSatisfier.{values_of}
use Rattle.hp_choice.proofs.first.values_in.Given as goal

abbrev pub invariant-loop-variable : goal.invariant-loop-variable
invariant-loop-variable l = record {
  room : (vec_len l.values ≡ l.variable) × (length l.slots.values ≤ vec_capacity l.values);
  so_far : values_of l.values ≡ take l.variable (bindings_of l.cells l.slots);
}
