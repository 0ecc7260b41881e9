use Rattle.std.proofs.Common.{◌≡◌, ◌-◌, ◌≤◌, List, Some}
use Rattle.hp_syntax.specs.Syntax.{Branch}
use Rattle.hp_eval.specs.Growth.{Grows}
use Rattle.hp_eval.specs.Slotted.{bindings_of}
use Rattle.hp_suspended.specs.SceneViews.{code_in, setting_of}
use Rattle.hp_suspended.specs.Settings.{state_in}
use Rattle.hp_method.specs.Branches.{AreBranchesIn, branches_at}
use Rattle.hp_method.proofs.ChosenEvents.{BranchesLeft, BranchesPassed}
use Rattle.hp_method.proofs.chosen.chosen_branch.Given as goal

abbrev pub invariant-loop-at : goal.invariant-loop-at
invariant-loop-at l =
    let c = code_in l.scene in
    record {
      grows : Grows l.fn.cells l.cells;
      slots : l.slots ≡ l.fn.slots;
      branches : AreBranchesIn c l.at l.end;
      left : (bs : List Branch) → branches_at c l.start l.end ≡ Some bs
          → BranchesLeft c l.at l.end l.nest (state_in (setting_of l.scene l.fn.cells))
          (bindings_of l.fn.cells l.fn.slots) bs;
      passed : (bs : List Branch) → branches_at c l.start l.end ≡ Some bs
          → BranchesPassed c l.at l.end l.nest (state_in (setting_of l.scene l.fn.cells))
          (bindings_of l.fn.cells l.fn.slots) bs l.number;
      few : l.number ≤ l.at;
    }

abbrev pub decreases-loop-at : goal.decreases-loop-at
decreases-loop-at l = l.end - l.at
