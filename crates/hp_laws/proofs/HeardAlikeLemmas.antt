-- Lists of events of which the same is heard, part by part.
use Rattle.std.proofs.Common.{◌≡◌, Bool, true, false, List, [], ◌∷◌, ◌++◌, refl, sym, ◌∙◌, ap}
use Rattle.hp_syntax.specs.Values.{Bindings}
use Rattle.hp_syntax.specs.Events as plain
use Rattle.hp_syntax.specs.Events.{Event, through, finding}
use Rattle.hp_syntax.specs.Preconditions.{heard}
use Rattle.hp_laws.specs.HeardAlike.{AreHeardAlike, turned}

-- lists that are heard alike are so behind the same events
pub alike_behind : (xs ys zs : List Event) → AreHeardAlike ys zs → AreHeardAlike (xs ++ ys) (xs ++ zs)
alike_behind [] ys zs h = h
alike_behind (plain.Sat e ∷ xs) ys zs h = ap (λ us. plain.Sat e ∷ us) (alike_behind xs ys zs h)
alike_behind (plain.Cut ∷ xs) ys zs h = ap (λ us. plain.Cut ∷ us) (alike_behind xs ys zs h)
alike_behind (plain.Fault f ∷ xs) ys zs h = refl

-- before other events only what is heard of a list matters
heard_before : (xs zs : List Event) → AreHeardAlike (heard xs ++ zs) (xs ++ zs)
heard_before [] zs = refl
heard_before (plain.Sat e ∷ xs) zs = ap (λ us. plain.Sat e ∷ us) (heard_before xs zs)
heard_before (plain.Cut ∷ xs) zs = ap (λ us. plain.Cut ∷ us) (heard_before xs zs)
heard_before (plain.Fault f ∷ xs) zs = refl

-- lists that are heard alike are so before the same events
pub alike_before : (xs ys zs : List Event) → AreHeardAlike xs ys → AreHeardAlike (xs ++ zs) (ys ++ zs)
alike_before xs ys zs h = sym (heard_before xs zs) ∙ (ap (λ us. heard (us ++ zs)) h ∙ heard_before ys zs)

-- where events take the place of each Sat only what is heard of a list matters
heard_through : (xs : List Event) (f : Bindings → List Event) → AreHeardAlike (through (heard xs) f) (through xs f)
heard_through [] f = refl
heard_through (plain.Sat e ∷ xs) f = alike_behind (f e) (through (heard xs) f) (through xs f) (heard_through xs f)
heard_through (plain.Cut ∷ xs) f = ap (λ us. plain.Cut ∷ us) (heard_through xs f)
heard_through (plain.Fault x ∷ xs) f = refl

-- lists that are heard alike are so where the same events take the place of each Sat
pub alike_through : (xs ys : List Event) (f : Bindings → List Event) → AreHeardAlike xs ys
    → AreHeardAlike (through xs f) (through ys f)
alike_through xs ys f h = sym (heard_through xs f) ∙ (ap (λ us. heard (through us f)) h ∙ heard_through ys f)

-- the heard part of a list decides its negation
heard_decides : (xs : List Event) → finding (heard xs) ≡ finding xs
heard_decides [] = refl
heard_decides (plain.Sat e ∷ xs) = refl
heard_decides (plain.Cut ∷ xs) = ap (plain.finding_with plain.Cut) (heard_decides xs)
heard_decides (plain.Fault f ∷ xs) = refl

-- lists that are heard alike decide alike
pub alike_decide : (xs ys : List Event) → AreHeardAlike xs ys → finding xs ≡ finding ys
alike_decide xs ys h = sym (heard_decides xs) ∙ (ap finding h ∙ heard_decides ys)

-- lists that are heard alike are so where they are negated
pub alike_turned : (negate : Bool) (xs ys : List Event) (b : Bindings) → AreHeardAlike xs ys
    → AreHeardAlike (turned negate xs b) (turned negate ys b)
alike_turned false xs ys b h = h
alike_turned true xs ys b h = ap (λ f. heard (plain.negated f b)) (alike_decide xs ys h)

-- of a list that isn't empty something is heard
pub alike_empty : (xs : List Event) → AreHeardAlike xs [] → xs ≡ []
alike_empty [] h = refl
alike_empty (plain.Sat e ∷ xs) h = absurd cc
alike_empty (plain.Cut ∷ xs) h = absurd cc
alike_empty (plain.Fault f ∷ xs) h = absurd cc
