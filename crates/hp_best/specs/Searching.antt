-- One visit of a search for the cheapest plan.
use Rattle.std.specs.Prelude.{◌≡◌, ◌+◌, ◌-◌, ◌^◌, min, ◌&&◌, cond, Option}
use Rattle.std.specs.declared.alloc.AllocError.{AllocError}
use Rattle.hp_passes.specs.declared.passing.Turn.{Turn}
use Rattle.hp_passes.specs.declared.passing.Turn.TheVariants.{On, Past, Last}
use Rattle.hp_syntax.specs.Walk.{Sight, Visit, Did, Plan, CutHere, FaultHere}
use Rattle.hp_best.specs.Bounded.{reaches, chosen_of, cost_of, IsChosen}
use Rattle.hp_best.specs.declared.bounding.BestEnd.TheVariants as ends
use Rattle.hp_best.specs.declared.bounding.Bounding.{Bounding}
use Rattle.hp_best.specs.declared.bounding.Found.{Found}

-- what a search has found after a visit, by its sight: a decomposition more, which it goes past where that is bounded;
-- a plan more, which is chosen where none is known that costs no more; a cut; or a fault, which ends it
abbrev pub Finds : Sight → Bounding → Visit → Turn → Found → Type 0
Finds Did s v x f =
    (x ≡ cond (s.priced && reaches (cost_of s.found.best) v.node.cost) Past On)
    × (f ≡ record s.found { expansions = min (s.found.expansions + 1) (2 ^ 64 - 1) })
Finds Plan s v x f =
    (x ≡ On)
    × (f ≡ record s.found { best = f.best; plans = min (s.found.plans + 1) (2 ^ 64 - 1) })
    × ((known : Option Visit) → IsChosen s.found.best known → IsChosen f.best (chosen_of known v))
Finds CutHere s v x f = (x ≡ On) × (f ≡ record s.found { ending = ends.Cut })
Finds (FaultHere e) s v x f = (x ≡ Last) × (f ≡ record s.found { ending = ends.Fault e })

abbrev pub meets_bounding : Bounding → Unit {0} → Visit → Turn → Bounding → Unit {0} → Type 0
meets_bounding s c v x t d = (t.priced ≡ s.priced) × Finds v.sight s v x t.found

-- memory may run out at any visit
abbrev pub fails_bounding : Bounding → Unit {0} → Visit → AllocError → Unit {0} → Type 0
fails_bounding s c v e d = Unit {0}
