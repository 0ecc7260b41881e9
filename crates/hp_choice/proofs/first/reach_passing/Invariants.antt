use Rattle.std.proofs.Common.{◌≡◌, Bool, length}
use Rattle.hp_syntax.specs.Values.{Bindings}
use Rattle.hp_eval.specs.Growth.{Grows}
use Rattle.hp_suspended.specs.Fitting.{Fits}
use Rattle.hp_suspended.specs.Left.{left}
use Rattle.hp_suspended.specs.SceneViews.{IsReady, code_in, setting_of}
use Rattle.hp_suspended.specs.Settings.{state_in}
use Rattle.hp_suspended.specs.Views.{view}
use Rattle.hp_choice.specs.FirstSatisfier.{first_that}
use Rattle.hp_choice.specs.Tests.{Passes}
use Rattle.hp_choice.proofs.first.reach_passing.Given as goal

abbrev pub invariant-loop-slots : goal.invariant-loop-slots
invariant-loop-slots l = record {
  ready : IsReady l.scene l.cells l.slots;
  fits : Fits (code_in l.scene) (length l.cells) (length l.slots.trail) (view l.parts);
  same :
      (passes : Bindings → Bool)
      → Passes (code_in l.scene) l.nest (state_in (setting_of l.scene l.fn.cells)) l.test passes
      → first_that passes (left (setting_of l.scene l.fn.cells) l.fn.slots (view l.fn.parts))
      ≡ first_that passes (left (setting_of l.scene l.cells) l.slots (view l.parts));
  grows : Grows l.fn.cells l.cells;
}

abbrev pub decreases-loop-slots : goal.decreases-loop-slots
decreases-loop-slots l = length (left (setting_of l.scene l.cells) l.slots (view l.parts))
