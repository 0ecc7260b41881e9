use Rattle.std.proofs.Common.{◌≤◌, take}
use Rattle.std.specs.List.{flat_map}
use Rattle.hp_out.specs.Pages.{desk, Put}
use Rattle.hp_out.proofs.page.Page.push_all.Given as goal

abbrev pub invariant-loop-text : goal.invariant-loop-text
invariant-loop-text g l = record {
  put :
      Put (flat_map (λ t. t.now) (take l.text-index l.texts)) (desk (g.K.Sink.bytes l.fn.sink) l.fn.self)
      (desk (g.K.Sink.bytes l.sink) l.self);
  later : g.K.Sink.faults l.fn.sink ≤ g.K.Sink.faults l.sink;
}
