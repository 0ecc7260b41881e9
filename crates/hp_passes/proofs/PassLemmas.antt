-- Passes over visits.
use Rattle.std.proofs.Common.{◌≡◌, ℕ, suc, Bool, true, false, cond, List, [], ◌∷◌, Option, Some, None, refl, arith}
use Rattle.std.specs.Prelude.{Contains}
use Rattle.std.specs.List.{All}
use Rattle.std.proofs.lemmas.List.Elements.{All-nil, All-cons, All-weaker}
use Rattle.hp_syntax.specs.Walk.{Visit, begins, skip}
use Rattle.hp_passes.specs.Passes.{Turn, On, Past, Last, Passed, pass, passed_all, with_made, is_out, ComesFrom, Nothing, Takes, Leaves}

-- a list contains its first element
contains_first : (v : Visit) (vs : List Visit) → Contains (v ∷ vs) v
contains_first v vs = (0, omega arith, refl)

-- a list contains what its rest contains
contains_later : (v w : Visit) (vs : List Visit) → Contains vs w → Contains (v ∷ vs) w
contains_later v w vs (k, l, e) = (suc k, omega arith, e)

-- visits that come from others are among them
pub all_among : (ws vs : List Visit) → ComesFrom ws vs → All (Contains vs) ws
all_among _ _ (Nothing vs) = All-nil (Contains vs)
all_among _ _ (Takes v ws vs c) =
    All-cons (Contains (v ∷ vs)) v ws (contains_first v vs)
    (All-weaker (Contains vs) (Contains (v ∷ vs)) (λ w h. contains_later v w vs h) ws (all_among ws vs c))
all_among _ _ (Leaves v ws vs c) =
    All-weaker (Contains vs) (Contains (v ∷ vs)) (λ w h. contains_later v w vs h) ws (all_among ws vs c)

module _ {S : Type 0} (turn : S → Visit → Turn S) where
  -- the pass over one visit more, which lies at or below a path or doesn't
  skipped_one : (p : List ℕ) (s : S) (v : Visit) (vs : List Visit)
      → pass turn (Some p) s vs ≡ pass turn None s (skip p vs) → (b : Bool) → begins p v.path ≡ b
      → pass turn (Some p) s (v ∷ vs) ≡ pass turn None s (skip p (v ∷ vs))
  skipped_one p s v vs rest true e = rw e rest
  skipped_one p s v vs rest false e = rw e refl

  -- what is left out is skipped
  pub skipped : (p : List ℕ) (s : S) (vs : List Visit) → pass turn (Some p) s vs ≡ pass turn None s (skip p vs)
  skipped p s [] = refl
  skipped p s (v ∷ vs) = skipped_one p s v vs (skipped p s vs) (begins p v.path) refl

  -- the pass behind a visit, by its turn
  abbrev behind : Visit → List Visit → Turn S → Passed S
  behind v vs (On t) = pass turn None t vs
  behind v vs (Past t) = pass turn (Some v.path) t vs
  behind v vs (Last t) = passed_all t vs

  made_behind : (v : Visit) (vs : List Visit)
      → ((out : Option (List ℕ)) (s : S) → ComesFrom (pass turn out s vs).made vs)
      → (x : Turn S) → ComesFrom (behind v vs x).made vs
  made_behind v vs h (On t) = h None t
  made_behind v vs h (Past t) = h (Some v.path) t
  made_behind v vs h (Last t) = Nothing vs

  made_by : (out : Option (List ℕ)) (s : S) (v : Visit) (vs : List Visit)
      → ((out : Option (List ℕ)) (s : S) → ComesFrom (pass turn out s vs).made vs)
      → (b : Bool) → ComesFrom (cond b (pass turn out s vs) (with_made v (behind v vs (turn s v)))).made (v ∷ vs)
  made_by out s v vs h true = Leaves v (pass turn out s vs).made vs (h out s)
  made_by out s v vs h false =
      Takes v (behind v vs (turn s v)).made vs (made_behind v vs h (turn s v))

  -- the visits that were made come from the visits
  pub made_from : (out : Option (List ℕ)) (s : S) (vs : List Visit) → ComesFrom (pass turn out s vs).made vs
  made_from out s [] = Nothing []
  made_from out s (v ∷ vs) = made_by out s v vs (λ o t. made_from o t vs) (is_out out v)
