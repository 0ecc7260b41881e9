-- A pass over visits in order, which goes on with what it knows, leaves out what lies below some, or ends.
use Rattle.std.specs.Prelude.{ℕ, Bool, false, cond, List, [], ◌∷◌, Option, Some, None}
use Rattle.hp_syntax.specs.Walk.{Visit, begins}

-- what a pass makes of a visit: it goes on, it goes on without what lies at or below the visit, or it ends there
pub data Turn (S : Type 0) : Type 0 where
  On : (knows : S) → Turn S
  Past : (knows : S) → Turn S
  Last : (knows : S) → Turn S

-- the visits that a pass made, in order, what it knows behind the last of them, and the visits that are left then
pub record Passed (S : Type 0) : Type 0 where
  pub made : List Visit
  pub knows : S
  pub left : List Visit

abbrev pub passed_all : {S : Type 0} → S → List Visit → Passed S
passed_all s vs = record { made = []; knows = s; left = vs }

abbrev pub with_made : {S : Type 0} → Visit → Passed S → Passed S
with_made v p = record { made = v ∷ p.made; knows = p.knows; left = p.left }

-- a visit lies at or below the path that is being left out
abbrev pub is_out : Option (List ℕ) → Visit → Bool
is_out None v = false
is_out (Some p) v = begins p v.path

-- a pass over visits with what it knows first; those that lie at or below a path, where there is one, are left out as
-- long as they come one behind the other
module _ {S : Type 0} (turn : S → Visit → Turn S) where
  abbrev pub pass : Option (List ℕ) → S → List Visit → Passed S
  pass out s [] = passed_all s []
  pass out s (v ∷ vs) =
      cond (is_out out v) (pass out s vs)
      (with_made v (elim (turn s v) [
        | On t ↦ pass None t vs
        | Past t ↦ pass (Some v.path) t vs
        | Last t ↦ passed_all t vs
      ]))

-- the first list holds some visits of the second, in their order
pub data ComesFrom : List Visit → List Visit → Type 0 where
  Nothing : (vs : List Visit) → ComesFrom [] vs
  Takes : (v : Visit) (ws vs : List Visit) → ComesFrom ws vs → ComesFrom (v ∷ ws) (v ∷ vs)
  Leaves : (v : Visit) (ws vs : List Visit) → ComesFrom ws vs → ComesFrom ws (v ∷ vs)
