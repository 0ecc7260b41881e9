-- What is told of the trees of a pair down to each depth: the first plan of the least depth that has one.
use Rattle.std.specs.Prelude.{◌≡◌, ℕ, suc, Bool, false, List, ◌++◌, Some}
use Rattle.hp_out.specs.Lines.{depth_text}
use Rattle.hp_shallow.specs.LeastDepth.{IsShallowest, expansions_below, first_end, first_plan, least_depth, visits_at}
use Rattle.hp_syntax.specs.Report.{Answer, Ended, Stopped, answer_at, behind, ended, ending_text, plan_of, plan_texts, shown, tally}
use Rattle.hp_syntax.specs.Syntax.{Pair, Rule}
use Rattle.hp_syntax.specs.Walk.{Visit}

-- an ending, with the decompositions of more than one walk
abbrev pub with_expansions : ℕ → Ended → Ended
with_expansions n e = ended e.ending (tally e.tally.plans n e.tally.is_cut)

-- the first plan of visits, where they have one, and how they end, with so many decompositions
abbrev pub first_report : Bool → ℕ → List Visit → Answer
first_report states n vs =
    answer_at (plan_texts (plan_of (shown states false)) 1 0 vs) (with_expansions n (first_end vs))

-- the report of one depth, told with that depth, and with the decompositions of all depths up to it
abbrev pub depth_report : Bool → (ℕ → List Visit) → ℕ → Answer
depth_report states at d = behind (depth_text d) (first_report states (expansions_below at (suc d)) (at d))

-- what is told of the visits down to each depth, up to a limit
abbrev pub shallow_report : Bool → ℕ → (ℕ → List Visit) → Answer
shallow_report states limit at = depth_report states at (least_depth at limit)

-- what is told is a plan of the least depth that has one, the first of that depth, and then the ending line
pub record TellsTheShallowest (rules : List Rule) (nest : ℕ) (pair : Pair) (states : Bool) (a : Answer) : Type 0 where
  pub depth : ℕ
  pub shallowest : IsShallowest rules nest pair depth
  pub plan : Visit
  pub first : first_plan (visits_at rules nest pair depth) ≡ Some plan
  pub expansions : ℕ
  pub text :
      a.0
      ≡ depth_text depth ++ (plan_of (shown states false) 1 plan ++ ending_text Stopped 1 expansions)
