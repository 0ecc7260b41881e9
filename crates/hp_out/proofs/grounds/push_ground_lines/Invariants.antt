use Rattle.std.proofs.Common.{◌≤◌, take}
use Rattle.hp_out.specs.Pages.{desk, Put}
use Rattle.hp_out.proofs.GroundSteps.{grounds_text}
use Rattle.hp_out.proofs.grounds.push_ground_lines.Given as goal

abbrev pub invariant-loop-term : goal.invariant-loop-term
invariant-loop-term g l = record {
  put :
      Put (grounds_text (take l.term-index l.terms)) (desk (g.K.Sink.bytes l.fn.sink) l.fn.page)
      (desk (g.K.Sink.bytes l.sink) l.page);
  later : g.K.Sink.faults l.fn.sink ≤ g.K.Sink.faults l.sink;
}
