-- What is told of the bounded walk of a tree.
use Rattle.std.specs.Prelude.{◌≡◌, ℕ, Bool, List, [], ◌++◌, Option, Some, None}
use Rattle.hp_best.specs.Bounded.{ChosenIsCheapest, bounded, chosen_plan, last_of}
use Rattle.hp_syntax.specs.Report.{Answer, Ending, Stopped, AtFault, AtCut, AtEnd, Ended, ended, tally, answer_at, best_text, ending_text, nothing_seen}
use Rattle.hp_syntax.specs.Walk.{Visit, count_told}

-- the plan that is chosen, where one is
abbrev pub chosen_text : Option Visit → List ℕ
chosen_text None = []
chosen_text (Some v) = best_text v.node.cost v.node.steps

-- where a fault ends the walk no plan is told
abbrev pub unless_fault : Ending → List ℕ → List ℕ
unless_fault (AtFault f) text = []
unless_fault Stopped text = text
unless_fault AtCut text = text
unless_fault AtEnd text = text

-- an ending, with the count of plans as it is told
abbrev pub ended_told : Ended → Ended
ended_told e = ended e.ending (tally (count_told e.tally.plans) e.tally.expansions e.tally.is_cut)

-- what is told of visits that were made: the chosen plan of them, and their ending
abbrev pub told_best : List Visit → Answer
told_best made =
    answer_at (unless_fault (last_of nothing_seen made).ending (chosen_text (chosen_plan made)))
    (ended_told (last_of nothing_seen made))

-- what is told of the bounded walk over all visits of a tree
abbrev pub best_report : Bool → List Visit → Answer
best_report priced vs = told_best (bounded priced vs)

-- what is told of the bounded walk begins with the cheapest plan of the visits, where they have one, and goes on with
-- the ending line
pub record TellsTheCheapest (priced : Bool) (vs : List Visit) : Type 0 where
  pub chosen : Option Visit
  pub cheapest : ChosenIsCheapest chosen vs
  pub text :
      let e = last_of nothing_seen (bounded priced vs) in
      (best_report priced vs).0
      ≡ chosen_text chosen ++ ending_text e.ending (count_told e.tally.plans) e.tally.expansions
