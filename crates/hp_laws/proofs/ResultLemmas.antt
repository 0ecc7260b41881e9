-- Options and results from which others are made.
use Rattle.std.proofs.Common.{◌≡◌, Option, Some, None, Result, Ok, Err, refl, ◌∙◌, ap}
use Rattle.std.specs.Prelude.{option_map}
use Rattle.std.specs.Option.{option_and_then}
use Rattle.std.proofs.lemmas.Option.{none-some, same_Some}
use Rattle.hp_syntax.specs.declared.fault.RunFault.{RunFault}
use Rattle.hp_syntax.specs.Values.{on_ok}

-- an option that went on to something was something
pub and_then_some : {A B : Type 0} (f : A → Option B) (o : Option A) (y : B) → option_and_then f o ≡ Some y
    → (x : A) × (o ≡ Some x) × (f x ≡ Some y)
and_then_some f None y h = absurd (none-some y h)
and_then_some f (Some x) y h = (x, refl, h)

-- something goes on to what it is taken to
pub and_then_from : {A B : Type 0} (f : A → Option B) (o : Option A) (x : A) (y : B) → o ≡ Some x → f x ≡ Some y
    → option_and_then f o ≡ Some y
and_then_from f o x y p q = ap (option_and_then f) p ∙ q

-- an option that was mapped to something was something
pub map_some : {A B : Type 0} (f : A → B) (o : Option A) (y : B) → option_map f o ≡ Some y
    → (x : A) × (o ≡ Some x) × (f x ≡ y)
map_some f None y h = absurd (none-some y h)
map_some f (Some x) y h = (x, refl, same_Some (f x) y h)

-- a result that went on to a value was a value
pub on_ok_ok : {A B : Type 0} (r : Result A RunFault) (f : A → Result B RunFault) (y : B) → on_ok r f ≡ Ok y
    → (x : A) × (r ≡ Ok x) × (f x ≡ Ok y)
on_ok_ok (Ok x) f y h = (x, refl, h)
on_ok_ok (Err e) f y h = absurd cc

-- a value goes on to what it is taken to
pub on_ok_from : {A B : Type 0} (r : Result A RunFault) (f : A → Result B RunFault) (x : A) (y : Result B RunFault)
    → r ≡ Ok x → f x ≡ y → on_ok r f ≡ y
on_ok_from r f x y p q = ap (λ s. on_ok s f) p ∙ q

-- going on twice is going on to what goes on
pub on_ok_twice : {A B C : Type 0} (r : Result A RunFault) (f : A → Result B RunFault) (g : B → Result C RunFault)
    → on_ok r (λ x. on_ok (f x) g) ≡ on_ok (on_ok r f) g
on_ok_twice (Ok x) f g = refl
on_ok_twice (Err e) f g = refl

-- equal results have equal values
pub same_Ok : {A : Type 0} (x y : A) → ◌≡◌ {A = Result A RunFault} (Ok x) (Ok y) → x ≡ y
same_Ok x y h = cc
