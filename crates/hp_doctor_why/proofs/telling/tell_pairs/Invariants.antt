use Rattle.std.proofs.Common.{◌≤◌}
use Rattle.hp_doctor_why.specs.Queries.{asked_of, files_of}
use Rattle.hp_doctor_why.proofs.PairSteps.{ToldSoFar}
use Rattle.hp_doctor_why.proofs.telling.tell_pairs.Given as goal

abbrev pub invariant-loop-number : goal.invariant-loop-number
invariant-loop-number g l = record {
  told :
      ToldSoFar (files_of l.query) (asked_of l.query) l.number (g.K.Sink.bytes l.fn.out) (g.K.Sink.bytes l.out);
  later : g.K.Sink.faults l.fn.out ≤ g.K.Sink.faults l.out;
}
