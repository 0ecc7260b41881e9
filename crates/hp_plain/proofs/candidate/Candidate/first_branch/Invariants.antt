use Rattle.std.proofs.Common.{◌≡◌, map, drop}
use Rattle.hp_syntax.specs.Views.{branch_of}
use Rattle.hp_syntax.specs.Walk.{chosen_branch}
use Rattle.hp_eval.specs.Growth.{Grows}
use Rattle.hp_eval.specs.Slotted.{bindings_of}
use Rattle.hp_plain.specs.Candidates.{rules_at, nest_at, own_node}
use Rattle.hp_plain.proofs.candidate.Candidate.first_branch.Given as goal

abbrev pub invariant-loop-i : goal.invariant-loop-i
invariant-loop-i l =
    let state = (own_node l.fn.cells l.self).state in
    let e = bindings_of l.fn.cells l.slots in
    record {
      grows : Grows l.fn.cells l.cells;
      left : chosen_branch (rules_at l.self) (nest_at l.self) state (map branch_of l.branches) e
          ≡ chosen_branch (rules_at l.self) (nest_at l.self) state (map branch_of (drop l.i l.branches)) e;
    }
