use Rattle.std.proofs.Common.{◌≡◌, ◌≤◌, ◌+◌, ◌*◌, ◌^◌, drop, map}
use Rattle.hp_syntax.specs.Views.{pair_of}
use Rattle.hp_top.specs.CheckTexts.{atoms_written}
use Rattle.hp_top.proofs.checking.atoms_written.Given as goal

abbrev pub invariant-loop-pair : goal.invariant-loop-pair
invariant-loop-pair l = record {
  counted : l.count + atoms_written (map pair_of (drop l.pair-index l.pairs)) ≡ atoms_written (map pair_of l.pairs);
  small : l.count ≤ l.pair-index * 2 ^ 64;
}
