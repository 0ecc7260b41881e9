-- A walk of a tree that leaves out what can't be cheaper than a plan that is known, and the plan that it finds.
use Rattle.std.specs.Prelude.{◌≡◌, ℕ, Bool, true, false, ◌&&◌, cond, ℤ, pos, ◌≤ℤ◌, ◌<ℤ◌, List, [], ◌∷◌, ◌++◌, map, Option, Some, None, option_map}
use Rattle.std.specs.Int.Signed.{le_z}
use Rattle.std.specs.List.{All, AllPairs, list_all}
use Rattle.hp_passes.specs.Passes.{Turn, On, Past, Last, pass}
use Rattle.hp_syntax.specs.GroundViews.{ground_of}
use Rattle.hp_syntax.specs.Report.{Ending, AtFault, AtCut, AtEnd, Tally, nothing_seen, with_plan, with_did, with_cut, Ended, ended, quiet_ending}
use Rattle.hp_syntax.specs.Syntax as syntax
use Rattle.hp_syntax.specs.Syntax.{Pattern, Rule}
use Rattle.hp_syntax.specs.Walk.{Node, Visit, Did, Plan, CutHere, FaultHere, is_plan, begins, told, count_told}
use Rattle.hp_best.specs.declared.bounding.BestEnd.{BestEnd}
use Rattle.hp_best.specs.declared.bounding.BestEnd.TheVariants as ends
use Rattle.hp_best.specs.declared.bounding.Chosen.{Chosen}
use Rattle.hp_best.specs.declared.bounding.Found.{Found}

-- ---- priced domains

-- a cost is a number that isn't negative
abbrev pub is_price : Pattern → Bool
is_price (syntax.Variable s v) = false
is_price (syntax.Symbol s name) = false
is_price (syntax.Number s n) = le_z (pos 0) n
is_price (syntax.Listing s ps tail) = false
is_price (syntax.Call s name args) = false

abbrev pub is_priced_rule : Rule → Bool
is_priced_rule (syntax.Does o) = is_price o.cost
is_priced_rule (syntax.Refines m) = true
is_priced_rule (syntax.Concludes x) = true

-- each operator costs a number that isn't negative, as it is written or by default
abbrev pub is_priced : List Rule → Bool
is_priced rules = list_all is_priced_rule rules

-- ---- the bounded walk

-- the least cost so far is no more than this
abbrev pub reaches : Option ℤ → ℤ → Bool
reaches None c = false
reaches (Some b) c = le_z b c

-- the lower of the least cost so far and one more
abbrev pub lower : Option ℤ → ℤ → Option ℤ
lower b c = cond (reaches b c) b (Some c)

-- what is made of a visit, where this is the least that a plan cost so far: in a priced domain nothing below a
-- decomposition that costs as much is cheaper, so it is left out; behind a fault nothing comes
abbrev pub bounded_turn : Bool → Option ℤ → Visit → Turn (Option ℤ)
bounded_turn priced b v =
    elim v.sight [
      | Did ↦ cond (priced && reaches b v.node.cost) (Past b) (On b)
      | Plan ↦ On (lower b v.node.cost)
      | CutHere ↦ On b
      | FaultHere f ↦ Last b
    ]

-- the visits of a bounded walk over all visits of a tree
abbrev pub bounded : Bool → List Visit → List Visit
bounded priced vs = (pass (bounded_turn priced) None None vs).made

-- ---- the chosen plan

-- what the chosen plan costs
abbrev pub chosen_cost : Option Visit → Option ℤ
chosen_cost o = option_map (λ v. v.node.cost) o

-- a plan is chosen where it is the first, or costs less than the chosen one
abbrev pub chosen_of : Option Visit → Visit → Option Visit
chosen_of o v = cond (reaches (chosen_cost o) v.node.cost) o (Some v)

-- the plan that is chosen in the end, where this one was before
abbrev pub chosen_from : Option Visit → List Visit → Option Visit
chosen_from o [] = o
chosen_from o (v ∷ vs) = cond (is_plan v.sight) (chosen_from (chosen_of o v) vs) (chosen_from o vs)

-- the last plan of visits that costs less than each plan before it
abbrev pub chosen_plan : List Visit → Option Visit
chosen_plan vs = chosen_from None vs

-- ---- the ending

-- how visits end after what was seen before: at a fault, and where none comes at a cut, if one was seen, or at the end
abbrev pub last_of : Tally → List Visit → Ended
last_of t [] = ended (quiet_ending t.is_cut) t
last_of t (v ∷ vs) =
    elim v.sight [
      | Did ↦ last_of (with_did t) vs
      | Plan ↦ last_of (with_plan t) vs
      | CutHere ↦ last_of (with_cut t) vs
      | FaultHere f ↦ ended (AtFault f) t
    ]

-- ---- what was found

abbrev pub cost_of : Option Chosen → Option ℤ
cost_of o = option_map (λ c. c.cost) o

-- the plan is that of a node at a path
pub record IsAt (c : Chosen) (n : Node) (p : List ℕ) : Type 0 where
  pub cost : c.cost ≡ n.cost
  pub steps : map ground_of c.steps.items ≡ n.steps
  pub path : c.path.items ≡ told p

-- the plan is that of the visit that is chosen, if one is
abbrev pub IsChosen : Option Chosen → Option Visit → Type 0
IsChosen None None = Unit {0}
IsChosen None (Some v) = ⊥
IsChosen (Some c) None = ⊥
IsChosen (Some c) (Some v) = IsAt c v.node v.path

abbrev pub end_told : BestEnd → Ending
end_told ends.End = AtEnd
end_told ends.Cut = AtCut
end_told (ends.Fault f) = AtFault f

-- what was found is what a bounded walk over these visits finds
pub record IsFound (priced : Bool) (f : Found) (vs : List Visit) : Type 0 where
  pub best : IsChosen f.best (chosen_plan (bounded priced vs))
  pub plans : f.plans ≡ count_told (last_of nothing_seen (bounded priced vs)).tally.plans
  pub expansions : f.expansions ≡ count_told (last_of nothing_seen (bounded priced vs)).tally.expansions
  pub ending : end_told f.ending ≡ (last_of nothing_seen (bounded priced vs)).ending

-- ---- the cheapest plan

-- the cost never falls on the way down: what is met at or below a node costs no less than what led there
abbrev pub NeverFalls : List Visit → Type 0
NeverFalls vs = AllPairs (λ v w. begins v.path w.path ≡ true → v.node.cost ≤ℤ w.node.cost) vs

-- among these visits this one is a plan than which none costs less, and before which none costs as little
pub record IsCheapest (v : Visit) (vs : List Visit) : Type 0 where
  pub before : List Visit
  pub after : List Visit
  pub here : vs ≡ before ++ v ∷ after
  pub plan : is_plan v.sight ≡ true
  pub earlier : All (λ w. is_plan w.sight ≡ true → v.node.cost <ℤ w.node.cost) before
  pub later : All (λ w. is_plan w.sight ≡ true → v.node.cost ≤ℤ w.node.cost) after

-- the visit that is chosen is the cheapest plan, and none is chosen where there is no plan
abbrev pub ChosenIsCheapest : Option Visit → List Visit → Type 0
ChosenIsCheapest None vs = All (λ v. is_plan v.sight ≡ false) vs
ChosenIsCheapest (Some v) vs = IsCheapest v vs

-- the plan that was found is the cheapest, and none was found where there is none
abbrev pub IsCheapestOf : Option Chosen → List Visit → Type 0
IsCheapestOf None vs = All (λ v. is_plan v.sight ≡ false) vs
IsCheapestOf (Some c) vs = (v : Visit) × IsAt c v.node v.path × IsCheapest v vs
