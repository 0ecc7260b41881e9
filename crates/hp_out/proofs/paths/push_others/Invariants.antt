use Rattle.std.proofs.Common.{◌≤◌, take}
use Rattle.hp_out.specs.Pages.{desk, Put}
use Rattle.hp_out.proofs.PathSteps.{others_text}
use Rattle.hp_out.proofs.paths.push_others.Given as goal

abbrev pub invariant-loop-number : goal.invariant-loop-number
invariant-loop-number g l = record {
  put :
      Put (others_text (take l.number-index l.numbers)) (desk (g.K.Sink.bytes l.fn.sink) l.fn.page)
      (desk (g.K.Sink.bytes l.sink) l.page);
  later : g.K.Sink.faults l.fn.sink ≤ g.K.Sink.faults l.sink;
}
