-- A pass over the visits of a walk, by what one visit makes of it.
use Rattle.std.specs.Prelude.{◌≡◌, ◌≢◌, false, List, [], ◌∷◌, Option, Some, None}
use Rattle.hp_syntax.specs.Walk.{Node, Visit, is_did, skip, Did, Plan, CutHere, FaultHere}
use Rattle.hp_syntax.specs.Walk as tree
use Rattle.hp_net.specs.Standings.{Tree, Standing, standing, node_reached, left_after}
use Rattle.hp_net.specs.declared.walk.Step.{Step}
use Rattle.hp_net.specs.declared.walk.Step.TheVariants as steps
use Rattle.hp_passes.specs.declared.passing.Sight.{Sight}
use Rattle.hp_passes.specs.declared.passing.Sight.TheVariants as sights
use Rattle.hp_passes.specs.declared.passing.Turn.{Turn}
use Rattle.hp_passes.specs.declared.passing.Turn.TheVariants.{On, Past, Last}
use Rattle.hp_passes.specs.declared.passing.Stop.{Stop}
use Rattle.hp_passes.specs.declared.passing.Stop.TheVariants.{NoMemory, Failed}

abbrev pub sight_of : Sight → tree.Sight
sight_of sights.Did = Did
sight_of sights.Plan = Plan
sight_of sights.Cut = CutHere
sight_of (sights.Fault f) = FaultHere f

-- what a step of a walk sees, and nothing at its end
abbrev pub seen_of : Step → Option tree.Sight
seen_of steps.Did = Some Did
seen_of steps.Plan = Some Plan
seen_of steps.Cut = Some CutHere
seen_of (steps.Fault f) = Some (FaultHere f)
seen_of steps.End = None

-- the place where a walk stands is a node of its tree
abbrev pub IsReached : Tree → Standing → Type 0
IsReached t s = (n : Node) × (node_reached t s ≡ Some n)

-- what lies below is left out only after a decomposition, and a fault is the last visit
abbrev pub Fits : Sight → Turn → Type 0
Fits sights.Did t = Unit {0}
Fits sights.Plan t = t ≢ Past
Fits sights.Cut t = t ≢ Past
Fits (sights.Fault f) t = t ≡ Last

-- ---- where a pass leaves the walk

-- where nothing is left
abbrev pub at_end : Standing
at_end = standing [] [] false

-- at the last visit that was made
abbrev pub at_visit : Visit → List Visit → Standing
at_visit v vs = standing v.path (left_after v vs) (is_did v.sight)

-- ---- whole passes

-- a pass over the visits that are left: the pass and what is at hand before and after, and where the walk stands then
pub data Passes {S C : Type 0} (meets : S → C → Visit → Turn → S → C → Type 0) :
    S → C → List Visit → S → C → Standing → Type 0 where
  AtEnd : (s : S) (c : C) → Passes meets s c [] s c at_end
  GoesOn : (s t u : S) (c d e : C) (v : Visit) (vs : List Visit) (there : Standing) → meets s c v On t d
      → Passes meets t d vs u e there → Passes meets s c (v ∷ vs) u e there
  LeavesOut : (s t u : S) (c d e : C) (v : Visit) (vs : List Visit) (there : Standing) → meets s c v Past t d
      → Passes meets t d (skip v.path vs) u e there → Passes meets s c (v ∷ vs) u e there
  Ends : (s t : S) (c d : C) (v : Visit) (vs : List Visit) → meets s c v Last t d
      → Passes meets s c (v ∷ vs) t d (at_visit v vs)

-- a pass that stops: the pass and what is at hand before, why it stops, and what is at hand then
pub data Stops {S C E : Type 0} (meets : S → C → Visit → Turn → S → C → Type 0)
    (fails : S → C → Visit → E → C → Type 0) : S → C → List Visit → Stop E → C → Type 0 where
  Between : (s : S) (c : C) (vs : List Visit) → Stops meets fails s c vs NoMemory c
  Within : (s : S) (c d : C) (v : Visit) (vs : List Visit) (x : E) → fails s c v x d
      → Stops meets fails s c (v ∷ vs) (Failed x) d
  AfterOne : (s t : S) (c d e : C) (v : Visit) (vs : List Visit) (x : Stop E) → meets s c v On t d
      → Stops meets fails t d vs x e → Stops meets fails s c (v ∷ vs) x e
  AfterPart : (s t : S) (c d e : C) (v : Visit) (vs : List Visit) (x : Stop E) → meets s c v Past t d
      → Stops meets fails t d (skip v.path vs) x e → Stops meets fails s c (v ∷ vs) x e
