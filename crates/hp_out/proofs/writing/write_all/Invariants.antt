use Rattle.std.proofs.Common.{length, ◌-◌, ◌≤◌, take}
use Rattle.hp_out.specs.Writing.{Wrote}
use Rattle.hp_out.proofs.writing.write_all.Given as goal

abbrev pub invariant-loop-done : goal.invariant-loop-done
invariant-loop-done g l = record {
  within : l.done ≤ length l.text;
  wrote : Wrote (take l.done l.text) (g.K.Sink.bytes l.fn.sink) (g.K.Sink.bytes l.sink);
  later : g.K.Sink.faults l.fn.sink ≤ g.K.Sink.faults l.sink;
}

abbrev pub decreases-loop-done : goal.decreases-loop-done
decreases-loop-done g l = length l.text - l.done
