-- The report of a walk: its plans, its ending, and the status of its run.
use Rattle.std.specs.Prelude.{ℕ, ◌+◌, Bool, true, false, cond, nat_le, nat_lt, ℤ, List, [], ◌∷◌, ◌++◌, length, codes, decimal, flat_map}
use Rattle.hp_syntax.specs.declared.fault.RunFault.{RunFault}
use Rattle.hp_syntax.specs.declared.fault.FaultKind.{FaultKind}
use Rattle.hp_syntax.specs.declared.fault.FaultKind.TheVariants as kinds
use Rattle.hp_syntax.specs.declared.status.Status.{Status}
use Rattle.hp_syntax.specs.declared.status.Status.TheVariants as status
use Rattle.hp_syntax.specs.Terms.{Term}
use Rattle.hp_syntax.specs.TermTexts.{num_text, term_text}
use Rattle.hp_syntax.specs.PlaceTexts.{at_span}
use Rattle.hp_syntax.specs.Walk.{Node, Visit, Did, Plan, CutHere, FaultHere, is_plan, is_fault_here, count_told, told}

-- ---- plans

-- one line for each term
abbrev pub lines_text : List Term → List ℕ
lines_text ts = flat_map (λ t. term_text t ++ codes "\n") ts

-- the line of a plan: its number, its cost and how many steps it has
unfoldable pub plan_line : ℕ → ℤ → ℕ → List ℕ
plan_line i cost steps =
    codes "plan " ++ decimal i ++ codes " cost " ++ num_text cost ++ codes " steps " ++ decimal steps ++ codes "\n"

-- a plan: its line, and then its steps
abbrev pub plan_text : ℕ → Node → List ℕ
plan_text i n = plan_line i n.cost (length n.steps) ++ lines_text n.steps

-- the state at the end of a plan, and its protections
unfoldable pub state_text : Node → List ℕ
state_text n =
    codes "state " ++ decimal (length n.state) ++ codes "\n" ++ lines_text n.state
    ++ codes "protections " ++ decimal (length n.guards) ++ codes "\n" ++ lines_text n.guards

-- the numbers of a path, joined by points; the empty path is a dash
abbrev pub path_text : List ℕ → List ℕ
path_text [] = codes "-"
path_text (i ∷ is) = decimal i ++ flat_map (λ j. codes "." ++ decimal j) is

-- the line of a path
unfoldable pub path_line : List ℕ → List ℕ
path_line p = codes "path " ++ path_text p ++ codes "\n"

-- what is shown of a plan besides its steps
pub record Shown : Type 0 where
  pub states : Bool
  pub paths : Bool

abbrev pub shown : Bool → Bool → Shown
shown states paths = record { states = states; paths = paths }

-- a plan of a node at a path: with its path where paths are shown, and its state where states are
abbrev pub told_plan : Shown → ℕ → List ℕ → Node → List ℕ
told_plan s i p n = plan_text i n ++ cond s.paths (path_line (told p)) [] ++ cond s.states (state_text n) []

-- the line of a cheapest plan: its cost and how many steps it has
unfoldable pub best_line : ℤ → ℕ → List ℕ
best_line cost steps = codes "best cost " ++ num_text cost ++ codes " steps " ++ decimal steps ++ codes "\n"

-- a cheapest plan: its line, and then its steps
abbrev pub best_text : ℤ → List Term → List ℕ
best_text cost steps = best_line cost (length steps) ++ lines_text steps

-- ---- endings

-- how a run ends: at the last plan that was asked, at a fault, or at the end, with a cut or without
pub data Ending : Type 0 where
  Stopped : Ending
  AtFault : (f : RunFault) → Ending
  AtCut : Ending
  AtEnd : Ending

-- without a fault a walk ends at a cut or at its end
abbrev pub quiet_ending : Bool → Ending
quiet_ending cut = cond cut AtCut AtEnd

abbrev pub fault_word : FaultKind → List ℕ
fault_word kinds.NotGround = codes "NotGround"
fault_word kinds.NotNumber = codes "NotNumber"
fault_word kinds.Overflow = codes "Overflow"
fault_word kinds.ZeroDivisor = codes "ZeroDivisor"
fault_word kinds.NegativePower = codes "NegativePower"
fault_word kinds.NotList = codes "NotList"
fault_word kinds.TooDeep = codes "TooDeep"
fault_word kinds.FractionPower = codes "FractionPower"

abbrev pub ending_word : Ending → List ℕ
ending_word Stopped = codes "stopped"
ending_word AtEnd = codes "end"
ending_word AtCut = codes "cut"
ending_word (AtFault f) = codes "fault " ++ at_span (fault_word f.kind) f.span

-- the ending line; the count of expansions stays at its end
unfoldable pub ending_text : Ending → ℕ → ℕ → List ℕ
ending_text x p n =
    ending_word x ++ codes " plans " ++ decimal p
    ++ codes " expansions " ++ decimal (count_told n) ++ codes "\n"

-- the status of a run that ends so, after so many plans
abbrev pub status_of : Ending → ℕ → Status
status_of (AtFault f) p = status.RunFault
status_of Stopped p = status.Done
status_of AtCut p = cond (nat_lt 0 p) status.Done status.CutShort
status_of AtEnd p = cond (nat_lt 0 p) status.Done status.NoPlan

-- ---- the report

-- a tally of visits: how many plans and decompositions were seen, and whether a cut
pub record Tally : Type 0 where
  pub plans : ℕ
  pub expansions : ℕ
  pub is_cut : Bool

abbrev pub tally : ℕ → ℕ → Bool → Tally
tally p n cut = record { plans = p; expansions = n; is_cut = cut }

-- before anything was seen
abbrev pub nothing_seen : Tally
nothing_seen = tally 0 0 false

-- one more plan, decomposition or cut
abbrev pub with_plan : Tally → Tally
with_plan t = tally (t.plans + 1) t.expansions t.is_cut

abbrev pub with_did : Tally → Tally
with_did t = tally t.plans (t.expansions + 1) t.is_cut

abbrev pub with_cut : Tally → Tally
with_cut t = tally t.plans t.expansions true

-- the text of each plan up to the k-th, where so many came before, given what is told of a plan by its number
abbrev pub plan_texts : (ℕ → Visit → List ℕ) → ℕ → ℕ → List Visit → List ℕ
plan_texts tell k p [] = []
plan_texts tell k p (v ∷ vs) =
    cond (is_plan v.sight) (tell (p + 1) v ++ cond (nat_le k (p + 1)) [] (plan_texts tell k (p + 1) vs))
    (cond (is_fault_here v.sight) [] (plan_texts tell k p vs))

-- an ending, and what was seen by then
pub record Ended : Type 0 where
  pub ending : Ending
  pub tally : Tally

abbrev pub ended : Ending → Tally → Ended
ended x t = record { ending = x; tally = t }

-- how visits end of which k plans are asked, after what was seen before: at the k-th plan or at a fault, and where
-- neither comes at a cut, if one was seen, or at the end
abbrev pub end_of : ℕ → Tally → List Visit → Ended
end_of k t [] = ended (quiet_ending t.is_cut) t
end_of k t (v ∷ vs) =
    elim v.sight [
      | Plan ↦ cond (nat_le k (t.plans + 1)) (ended Stopped (with_plan t)) (end_of k (with_plan t) vs)
      | Did ↦ end_of k (with_did t) vs
      | CutHere ↦ end_of k (with_cut t) vs
      | FaultHere f ↦ ended (AtFault f) t
    ]

-- a text, and the status to end with
abbrev pub Answer : Type 0
Answer = List ℕ × Status

-- an answer with a text before it
abbrev pub behind : List ℕ → Answer → Answer
behind text a = (text ++ a.0, a.1)

-- texts of plans, and how they end
abbrev pub answer_at : List ℕ → Ended → Answer
answer_at texts e =
    (texts ++ ending_text e.ending e.tally.plans e.tally.expansions, status_of e.ending e.tally.plans)

-- the report of visits of which k plans are asked, after what was seen before, given what is told of a plan
abbrev pub report : (ℕ → Visit → List ℕ) → ℕ → Tally → List Visit → Answer
report tell k t vs = answer_at (plan_texts tell k t.plans vs) (end_of k t vs)

-- a plan by its line alone
abbrev pub line_of : ℕ → Visit → List ℕ
line_of i v = plan_line i v.node.cost (length v.node.steps)

-- a plan with its steps, and with what else is shown of it
abbrev pub plan_of : Shown → ℕ → Visit → List ℕ
plan_of s i v = told_plan s i v.path v.node

-- the report of a walk for k plans
unfoldable pub plan_report : ℕ → Shown → List Visit → Answer
plan_report k s walk = report (plan_of s) k nothing_seen walk

-- the report of a walk for one plan, told by its line
unfoldable pub line_report : List Visit → Answer
line_report walk = report line_of 1 nothing_seen walk

-- ---- several pairs

-- how bad a status is: a run fault is worse than a walk that was cut short, that is worse than no plan, and no walk
-- ends with another one
abbrev pub badness : Status → ℕ
badness status.Done = 0
badness status.NoPlan = 1
badness status.CutShort = 2
badness status.RunFault = 3
badness _ = 4

-- the worse of two statuses
abbrev pub worse : Status → Status → Status
worse s t = cond (nat_lt (badness s) (badness t)) t s

-- two answers one behind the other: both texts, and the worse status
abbrev pub joined : Answer → Answer → Answer
joined a b = (a.0 ++ b.0, worse a.1 b.1)

-- the line of one of so many pairs
unfoldable pub pair_line : ℕ → ℕ → List ℕ
pair_line number count = codes "problem " ++ decimal number ++ codes " of " ++ decimal count ++ codes "\n"

-- the line of a pair, where there are several
abbrev pub pair_header : ℕ → ℕ → List ℕ
pair_header number count = cond (nat_lt 1 count) (pair_line number count) []

-- what is told of pairs, the first of which has this number among so many
abbrev pub told_from : ℕ → ℕ → List Answer → Answer
told_from count number [] = ([], status.Done)
told_from count number (first ∷ others) =
    joined (behind (pair_header number count) first) (told_from count (number + 1) others)

-- what is told of all pairs of a problem, by what is told of each
abbrev pub told_pairs : List Answer → Answer
told_pairs parts = told_from (length parts) 1 parts
