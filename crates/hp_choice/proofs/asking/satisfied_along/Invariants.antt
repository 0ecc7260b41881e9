use Rattle.std.proofs.Common.{◌≡◌, ◌+◌, ◌-◌, ◌≤◌}
use Rattle.hp_eval.specs.Growth.{Grows}
use Rattle.hp_eval.specs.Slotted.{bindings_of}
use Rattle.hp_suspended.specs.Fitting.{AreExpressionsIn}
use Rattle.hp_suspended.specs.SceneViews.{IsReady, code_in, setting_of}
use Rattle.hp_choice.specs.Asking.{past}
use Rattle.hp_choice.proofs.AlongSteps.{along_between}
use Rattle.hp_choice.proofs.asking.satisfied_along.Given as goal

abbrev pub invariant-loop-next : goal.invariant-loop-next
invariant-loop-next l = record {
  ready : IsReady l.scene l.cells l.slots;
  grows : Grows l.fn.cells l.cells;
  range : AreExpressionsIn (code_in l.scene) l.next l.asked.end;
  along :
      let w = setting_of l.scene l.fn.cells in
      along_between w l.nest l.asked.first l.asked.end (bindings_of l.fn.cells l.fn.slots)
      ≡ l.count + along_between w l.nest l.next l.asked.end (bindings_of l.cells l.slots);
  past : l.next ≡ past (code_in l.scene).nodes l.asked.first l.count;
  few : l.count ≤ l.next;
}

abbrev pub decreases-loop-next : goal.decreases-loop-next
decreases-loop-next l = l.asked.end - l.next
