use Rattle.std.proofs.Common.{◌≡◌, length}
use Rattle.hp_syntax.specs.Events.{finding}
use Rattle.hp_eval.specs.Growth.{Grows}
use Rattle.hp_suspended.specs.Fitting.{Fits}
use Rattle.hp_suspended.specs.Left.{left}
use Rattle.hp_suspended.specs.SceneViews.{IsReady, code_in, setting_of}
use Rattle.hp_suspended.specs.Views.{view}
use Rattle.hp_choice.specs.Asking.{behind}
use Rattle.hp_choice.proofs.asking.found_in.Given as goal

abbrev pub invariant-loop-fault : goal.invariant-loop-fault
invariant-loop-fault l = record {
  ready : IsReady l.scene l.cells l.slots;
  fits : Fits (code_in l.scene) (length l.cells) (length l.slots.trail) (view l.parts);
  same :
      finding (left (setting_of l.scene l.fn.cells) l.fn.slots (view l.fn.parts))
      ≡ behind l.is_cut (finding (left (setting_of l.scene l.cells) l.slots (view l.parts)));
  grows : Grows l.fn.cells l.cells;
}

abbrev pub decreases-loop-fault : goal.decreases-loop-fault
decreases-loop-fault l = length (left (setting_of l.scene l.cells) l.slots (view l.parts))
