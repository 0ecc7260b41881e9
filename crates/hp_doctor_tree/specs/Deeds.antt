-- What deeds are by their rules, and what they cost.
use Rattle.std.specs.Prelude.{ℕ, zero, suc, ◌+◌, nat_lt, Bool, true, false, cond, ℤ, pos, ◌-ℤ◌, List, [], ◌∷◌, ◌++◌, length, Option, Some, None, slice_get, slice_index, codes, decimal}
use Rattle.std.specs.Int.{saturate_signed, w128}
use Rattle.hp_syntax.specs.Syntax.{Branch, Rule, Does, Refines, Concludes}
use Rattle.hp_syntax.specs.TermTexts.{num_text}
use Rattle.hp_way.specs.Ways.{Deed}

-- a deed by an operator is a step
abbrev pub is_step : Option Rule → Bool
is_step None = false
is_step (Some (Does o)) = true
is_step (Some (Refines m)) = false
is_step (Some (Concludes a)) = false

abbrev pub count_on : ℕ → Bool → ℕ
count_on n step = cond step (n + 1) n

-- how many steps there are up to each deed, where so many came before
abbrev pub steps_from : List Rule → ℕ → List Deed → List ℕ
steps_from rules n [] = []
steps_from rules n (d ∷ ds) =
    let m = count_on n (is_step (slice_get rules d.rule)) in m ∷ steps_from rules m ds

-- the last of some numbers, or 0 where there is none
abbrev pub last_of : ℕ → List ℕ → ℕ
last_of n [] = n
last_of n (m ∷ ms) = last_of m ms

abbrev pub cost_of : Option Deed → ℤ
cost_of None = pos 0
cost_of (Some d) = d.cost

-- what the steps before a deed cost
abbrev pub cost_before : List Deed → ℕ → ℤ
cost_before ds zero = pos 0
cost_before ds (suc k) = cost_of (slice_get ds k)

-- what a deed costs itself, in the numbers that costs have
abbrev pub own_cost : List Deed → ℕ → ℤ
own_cost ds k = saturate_signed w128 (cost_of (slice_get ds k) -ℤ cost_before ds k)

-- ---- words

-- `step K cost C`
abbrev pub step_words : List ℕ → List Deed → ℕ → List ℕ
step_words steps ds k =
    codes "step " ++ decimal (slice_index steps k) ++ codes " cost " ++ num_text (own_cost ds k)

-- a branch by its name, or by its number, from 1 on, where it is one of several without a name
abbrev pub named_branch : ℕ → ℕ → Option (List ℕ) → List ℕ
named_branch count b (Some name) = codes "branch " ++ name
named_branch count b None = cond (nat_lt 1 count) (codes "branch " ++ decimal (b + 1)) []

abbrev pub branch_by : ℕ → ℕ → Option Branch → List ℕ
branch_by count b None = []
branch_by count b (Some branch) = named_branch count b branch.name

abbrev pub branch_words : List Branch → ℕ → List ℕ
branch_words bs b = branch_by (length bs) b (slice_get bs b)

-- `cost C steps N`
abbrev pub sum_words : List ℕ → List Deed → List ℕ
sum_words steps ds =
    codes "cost " ++ num_text (cost_before ds (length ds)) ++ codes " steps " ++ decimal (last_of 0 steps)
