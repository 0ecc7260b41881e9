-- The first plan of a walk within so many decompositions.
use Rattle.std.specs.Prelude.{◌≡◌, ◌≢◌, ℕ, zero, suc, Bool, cond, List, [], ◌∷◌, Some, None, MatchOption}
use Rattle.std.specs.List.{find}
use Rattle.hp_net.specs.Standings.{Tree, Standing, node_reached}
use Rattle.hp_passes.specs.declared.passing.Turn.{Turn}
use Rattle.hp_passes.specs.declared.passing.Turn.TheVariants.{On, Past, Last}
use Rattle.hp_syntax.specs.declared.fault.RunFault.{RunFault}
use Rattle.hp_syntax.specs.Walk.{Sight, Visit, Did, Plan, CutHere, FaultHere, is_did, is_plan}
use Rattle.hp_embedding.specs.declared.limited.Limited.{Limited}
use Rattle.hp_embedding.specs.declared.limited.SearchEnd.{SearchEnd}
use Rattle.hp_embedding.specs.declared.limited.SearchEnd.TheVariants as ends

-- the visits that come before more than so many decompositions
abbrev pub within : ℕ → List Visit → List Visit
within n [] = []
within zero (v ∷ vs) = cond (is_did v.sight) [] (v ∷ within zero vs)
within (suc n) (v ∷ vs) = cond (is_did v.sight) (v ∷ within n vs) (v ∷ within (suc n) vs)

abbrev pub is_plan_here : Visit → Bool
is_plan_here v = is_plan v.sight

-- a search ends at the first plan within so many decompositions; where there is none, all visits were made, or not
abbrev pub Ends : SearchEnd → Tree → Standing → ℕ → List Visit → Type 0
Ends ends.Found t s n vs =
    MatchOption (find is_plan_here (within n vs)) ⊥ (λ v. (s.path ≡ v.path) × (node_reached t s ≡ Some v.node))
Ends ends.NoPlan t s n vs = (find is_plan_here (within n vs) ≡ None) × (within n vs ≡ vs)
Ends ends.Spent t s n vs = (find is_plan_here (within n vs) ≡ None) × (within n vs ≢ vs)

-- ---- the pass

-- how the last visit is made: it is a plan, or a decomposition that is too many
abbrev pub IsLast : ℕ → Visit → SearchEnd → Type 0
IsLast left v ends.Found = v.sight ≡ Plan
IsLast left v ends.NoPlan = ⊥
IsLast left v ends.Spent = (v.sight ≡ Did) × (left ≡ 0)

-- a decomposition is counted, and a cut changes nothing
abbrev pub GoesOn : Limited → Sight → Limited → Type 0
GoesOn s Did t = (s.left ≡ suc t.left) × (t.end ≡ s.end)
GoesOn s Plan t = ⊥
GoesOn s CutHere t = t ≡ s
GoesOn s (FaultHere f) t = ⊥

-- a plan, or one decomposition too many, is the last visit
abbrev pub Meets : Limited → Visit → Turn → Limited → Type 0
Meets s v On t = GoesOn s v.sight t
Meets s v Past t = ⊥
Meets s v Last t = IsLast s.left v t.end

abbrev pub meets_limited : Limited → Unit {0} → Visit → Turn → Limited → Unit {0} → Type 0
meets_limited s c v x t d = Meets s v x t

abbrev pub fails_limited : Limited → Unit {0} → Visit → RunFault → Unit {0} → Type 0
fails_limited s c v f d = v.sight ≡ FaultHere f
