use Rattle.std.proofs.Common.{◌≡◌, ◌-◌, ◌≤◌, Some}
use Rattle.hp_code.specs.Sources.{Body}
use Rattle.hp_eval.specs.Growth.{Grows}
use Rattle.hp_eval.specs.Slotted.{bindings_of}
use Rattle.hp_world.specs.Stages.{changes_of}
use Rattle.hp_suspended.specs.SceneViews.{code_in, setting_of}
use Rattle.hp_operator.specs.Bodies.{IsBodyIn, body_at}
use Rattle.hp_operator.proofs.SideSteps.{OnWay}
use Rattle.hp_operator.proofs.bodies.Doing.put_side.Given as goal

abbrev pub invariant-loop-side : goal.invariant-loop-side
invariant-loop-side l =
    let s = l.self.scene.now in
    record {
      grows : Grows l.fn.cells l.cells;
      slots : l.slots ≡ l.fn.slots;
      body : IsBodyIn (code_in s) l.at l.end;
      way : (b : Body) → body_at (code_in s) l.start l.end ≡ Some b
          → OnWay (setting_of s l.fn.cells) l.self.nest l.side (bindings_of l.fn.cells l.fn.slots) b l.at l.end l.cells
          (changes_of l.fn.cells l.fn.changes) l.changes;
    }

abbrev pub decreases-loop-side : goal.decreases-loop-side
decreases-loop-side l = l.end - l.at
