use Rattle.std.proofs.Common.{◌≤◌, take}
use Rattle.hp_out.specs.Pages.{desk, Put}
use Rattle.hp_out.proofs.TermSteps.{places_text}
use Rattle.hp_out.proofs.terms.push_atoms.Given as goal

abbrev pub invariant-loop-place : goal.invariant-loop-place
invariant-loop-place g l = record {
  put :
      Put (places_text l.cells (take l.place l.world.now.places)) (desk (g.K.Sink.bytes l.fn.sink) l.fn.page)
      (desk (g.K.Sink.bytes l.sink) l.page);
  later : g.K.Sink.faults l.fn.sink ≤ g.K.Sink.faults l.sink;
}
