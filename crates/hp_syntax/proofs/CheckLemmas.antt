-- Lists of faults of which none is the first.
use Rattle.std.proofs.Common.{◌≡◌, Bool, true, false, cond, List, [], ◌∷◌, Option, Some, None, refl}
use Rattle.hp_syntax.specs.declared.check.CheckFault.{CheckFault}
use Rattle.hp_syntax.specs.Checks.{comes_before, earlier, first_of}

-- the earlier of two faults is a fault
one_of_two : (f g : CheckFault) (b : Bool) → cond b (Some g) (Some f) ≡ None → ⊥
one_of_two f g true h = cc
one_of_two f g false h = cc

-- the earlier of a fault and what may be another is a fault
never_none : (f : CheckFault) (o : Option CheckFault) → earlier (Some f) o ≡ None → ⊥
never_none f None h = cc
never_none f (Some g) h = one_of_two f g (comes_before g f) h

-- where no fault is the first there is none
pub none_found : (fs : List CheckFault) → first_of fs ≡ None → fs ≡ []
none_found [] h = refl
none_found (f ∷ fs) h = absurd (never_none f (first_of fs) h)
