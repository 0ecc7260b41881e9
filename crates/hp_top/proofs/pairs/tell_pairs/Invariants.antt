use Rattle.std.proofs.Common.{◌≤◌, List, map}
use Rattle.hp_syntax.specs.Syntax.{Rule}
use Rattle.hp_syntax.specs.Views.{pair_of}
use Rattle.hp_top.specs.Engines.{PlansBy, told_of_pairs, told_pair}
use Rattle.hp_top.proofs.PairSteps.{IsLeft, from_pair}
use Rattle.hp_top.proofs.pairs.tell_pairs.Given as goal

abbrev pub invariant-loop-number : goal.invariant-loop-number
invariant-loop-number g l = record {
  left :
      (rules : List Rule) → PlansBy rules l.engine
      → IsLeft (told_of_pairs l.wanted rules (map pair_of l.pairs)) (from_pair (told_pair l.wanted rules) l.pairs l.number)
      l.status (g.K.Sink.bytes l.fn.out) (g.K.Sink.bytes l.out);
  later : g.K.Sink.faults l.fn.out ≤ g.K.Sink.faults l.out;
}
