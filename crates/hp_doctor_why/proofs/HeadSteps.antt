-- The arguments of a task.
use Rattle.std.proofs.Common.{◌≡◌, ◌-◌, ◌<◌, ◌≤◌, take, List, [], ◌∷◌, drop, length, refl, ap, arith}
use Rattle.std.proofs.lemmas.List.{take_all}
use Rattle.hp_syntax.specs.declared.pattern.Ground.{Ground}
use Rattle.hp_syntax.specs.GroundViews.{grounds_of}
use Rattle.hp_syntax.specs.Terms.{Listed, NoTerm}
use Rattle.hp_doctor_why.specs.Heads.{arguments}

-- an empty list has none
pub no_arguments : (gs : List Ground) → length gs < 1 → NoTerm ≡ arguments (Listed (grounds_of gs))
no_arguments [] l = refl
no_arguments (g ∷ gs) l = absurd (omega (arith, l))

-- of any other list they are all terms but the first
pub rest_arguments : (gs : List Ground) → 1 ≤ length gs
    → grounds_of (take (length gs - 1) (drop 1 gs)) ≡ arguments (Listed (grounds_of gs))
rest_arguments [] l = absurd (omega (arith, l))
rest_arguments (g ∷ gs) l = ap grounds_of (take_all (length (g ∷ gs) - 1) gs (omega arith))
