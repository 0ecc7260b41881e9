-- A walk to the next visit at or below a path.
use Rattle.std.specs.Prelude.{◌≡◌, ℕ, Bool, true, false, List, [], ◌∷◌, ◌++◌, Option, Some, None, option_map}
use Rattle.hp_dead_ends.specs.Arriving.{is_small}
use Rattle.hp_net.specs.Standings.{Standing, left_after}
use Rattle.hp_net.specs.declared.walk.Step.{Step}
use Rattle.hp_passes.specs.Passing.{at_visit, seen_of, sight_of}
use Rattle.hp_passes.specs.declared.passing.Turn.{Turn}
use Rattle.hp_passes.specs.declared.passing.Turn.TheVariants.{Last}
use Rattle.hp_syntax.specs.Walk.{Sight, Visit, begins}
use Rattle.hp_trace.specs.declared.reaching.Reaching.{Reaching}
use Rattle.hp_trace.specs.Traces.{turn_by, visits_from}

-- some visits are all from one of the others on
pub record IsEnding (ws vs : List Visit) : Type 0 where
  pub before : List Visit
  pub whole : vs ≡ before ++ ws

-- a walk stands at the first of some visits that is at or below a path
pub record StandsAtNext (p : List ℕ) (vs : List Visit) (x : Sight) (s : Standing) : Type 0 where
  pub visit : Visit
  pub rest : List Visit
  pub sight : visit.sight ≡ x
  pub here : begins p visit.path ≡ true
  pub stands : s ≡ at_visit visit rest
  pub ending : IsEnding (visit ∷ rest) vs
  pub first : visits_from p vs ≡ visit ∷ visits_from p (left_after visit rest)

-- or there is none
abbrev pub ComesNext : List ℕ → List Visit → Option Sight → Standing → Type 0
ComesNext p vs None s = visits_from p vs ≡ []
ComesNext p vs (Some x) s = StandsAtNext p vs x s

-- what a step sees, if there is one
abbrev pub seen_next : Option Step → Option Sight
seen_next None = None
seen_next (Some step) = seen_of step

-- ---- one visit

-- one at or below the path is the last, and what is seen there is kept
abbrev pub MeetsAt : Bool → Reaching → Visit → Turn → Reaching → Type 0
MeetsAt true s v x u = (x ≡ Last) × (u.from.now ≡ s.from.now) × (option_map sight_of u.found ≡ Some v.sight)
MeetsAt false s v x u = (u ≡ s) × (x ≡ turn_by s.from.now v.path v.sight)

abbrev pub MeetsReaching : Reaching → Unit {0} → Visit → Turn → Reaching → Unit {0} → Type 0
MeetsReaching s c v x u d = is_small s.from.now ≡ true → MeetsAt (begins s.from.now v.path) s v x u
