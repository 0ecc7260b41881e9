use Rattle.std.proofs.Common.{length, ◌-◌, ◌≤◌}
use Rattle.hp_out.specs.Paged.{WroteUpTo}
use Rattle.hp_out.proofs.paged.write_rest.Given as goal

abbrev pub invariant-loop-done : goal.invariant-loop-done
invariant-loop-done g l = record {
  wrote : WroteUpTo l.page l.fn.done l.done (g.K.Sink.bytes l.fn.sink) (g.K.Sink.bytes l.sink);
  later : g.K.Sink.faults l.fn.sink ≤ g.K.Sink.faults l.sink;
}

abbrev pub decreases-loop-done : goal.decreases-loop-done
decreases-loop-done g l = length l.page - l.done
