-- How the paths of visits follow from one another.
use Rattle.std.specs.Prelude.{◌≡◌, ℕ, List, [], ◌∷◌, ◌++◌}
use Rattle.hp_syntax.specs.Walk.{Sight, Did, Plan, CutHere, FaultHere, Visit}

-- a path is a beginning of another one
pub record IsBeginning (q p : List ℕ) : Type 0 where
  pub behind : List ℕ
  pub whole : p ≡ q ++ behind

-- a path stands one number below a beginning of another one
pub record StepsFrom (q p : List ℕ) : Type 0 where
  pub above : List ℕ
  pub number : ℕ
  pub path : q ≡ above ++ number ∷ []
  pub beginning : IsBeginning above p

-- a decomposition stands one number below a beginning of the path before it, and any other visit at one
abbrev pub Follows : Sight → List ℕ → List ℕ → Type 0
Follows Did q p = StepsFrom q p
Follows Plan q p = IsBeginning q p
Follows CutHere q p = IsBeginning q p
Follows (FaultHere f) q p = IsBeginning q p

-- the first visit follows a path, and each other one the path of the visit before it
abbrev pub AllFollow : List ℕ → List Visit → Type 0
AllFollow p [] = Unit {0}
AllFollow p (v ∷ vs) = Follows v.sight v.path p × AllFollow v.path vs
