-- Of many faults the first: which one is told doesn't depend on how the parts are put together.
use Rattle.std.proofs.Common.{◌≡◌, ℕ, Bool, true, false, cond, ◌&&◌, ◌||◌, nat_lt, ◌==◌, Option, Some, None, List, [], ◌∷◌, ◌++◌, ◌+◌, ◌<◌, ◌≤◌, length, get_or, take, map, ap, sym, ◌∙◌, refl, arith}
use Rattle.std.proofs.lemmas.Bool.Decides.{nat_tests}
use Rattle.std.proofs.lemmas.List.{take_more, take_all, map-append, append-nil}
use Rattle.std.proofs.lemmas.Grind.{flat_map-append}
use Rattle.std.specs.List.{flat_map}
use Rattle.hp_syntax.specs.declared.check.CheckFault.{CheckFault}
use Rattle.hp_syntax.specs.Checks.{number_of, comes_before, earlier, first_of}

-- a fault stands first by text, then by place, then by number
abbrev pub stands_first : Bool → ℕ → ℕ → Bool → ℕ → ℕ → Bool
stands_first p a m q b n =
    cond p (q && (nat_lt a b || (a == b && nat_lt m n))) (q || (nat_lt a b || (a == b && nat_lt m n)))

trans : (p q r : Bool) (a m b n c o : ℕ) → stands_first q b n p a m ≡ true → stands_first r c o q b n ≡ true
    → stands_first r c o p a m ≡ true
trans true true true a m b n c o h k = grind (arith, nat_tests)
trans true true false a m b n c o h k = refl
trans true false true a m b n c o h k = grind (arith, nat_tests)
trans true false false a m b n c o h k = refl
trans false true r a m b n c o h k = grind (arith, nat_tests)
trans false false true a m b n c o h k = grind (arith, nat_tests)
trans false false false a m b n c o h k = grind (arith, nat_tests)

none_before : (p q r : Bool) (a m b n c o : ℕ) → stands_first q b n p a m ≡ false
    → stands_first r c o q b n ≡ false → stands_first r c o p a m ≡ false
none_before true true true a m b n c o h k = grind (arith, nat_tests)
none_before true true false a m b n c o h k = k
none_before true false r a m b n c o h k = cc
none_before false true true a m b n c o h k = grind (arith, nat_tests)
none_before false true false a m b n c o h k = cc
none_before false false true a m b n c o h k = grind (arith, nat_tests)
none_before false false false a m b n c o h k = grind (arith, nat_tests)

-- a fault before another one comes before each fault behind that one
pub comes_before-trans : (f g h : CheckFault) → comes_before g f ≡ true → comes_before h g ≡ true
    → comes_before h f ≡ true
comes_before-trans f g h e k =
    trans f.in_problem g.in_problem h.in_problem f.span.from (number_of f.kind) g.span.from (number_of g.kind)
    h.span.from (number_of h.kind) e k

-- a fault that doesn't come before one that doesn't come before a third doesn't come before the third
pub comes_before-none : (f g h : CheckFault) → comes_before g f ≡ false → comes_before h g ≡ false
    → comes_before h f ≡ false
comes_before-none f g h e k =
    none_before f.in_problem g.in_problem h.in_problem f.span.from (number_of f.kind) g.span.from (number_of g.kind)
    h.span.from (number_of h.kind) e k

left : (f g h : CheckFault) (a : Bool) → earlier (cond a (Some g) (Some f)) (Some h)
    ≡ cond a (earlier (Some g) (Some h)) (earlier (Some f) (Some h))
left f g h true = refl
left f g h false = refl

right : (f g h : CheckFault) (b : Bool) → earlier (Some f) (cond b (Some h) (Some g))
    ≡ cond b (earlier (Some f) (Some h)) (earlier (Some f) (Some g))
right f g h true = refl
right f g h false = refl

by_tests : (f g h : Option CheckFault) (a b c : Bool) → (a ≡ true → b ≡ true → c ≡ true)
    → (a ≡ false → b ≡ false → c ≡ false)
    → cond a (cond b h g) (cond c h f) ≡ cond b (cond c h f) (cond a g f)
by_tests f g h true true c s t = rw (s refl refl) refl
by_tests f g h true false c s t = refl
by_tests f g h false true c s t = refl
by_tests f g h false false c s t = rw (t refl refl) refl

-- no fault leaves the earlier one as it was
pub earlier-none : (a : Option CheckFault) → earlier a None ≡ a
earlier-none None = refl
earlier-none (Some f) = refl

-- 'the earlier of two' goes together in any order of brackets
pub earlier-assoc : (a b c : Option CheckFault) → earlier (earlier a b) c ≡ earlier a (earlier b c)
earlier-assoc None b c = refl
earlier-assoc (Some f) None c = refl
earlier-assoc (Some f) (Some g) None = earlier-none (earlier (Some f) (Some g))
earlier-assoc (Some f) (Some g) (Some h) =
    left f g h (comes_before g f)
    ∙ by_tests (Some f) (Some g) (Some h) (comes_before g f) (comes_before h g) (comes_before h f)
    (comes_before-trans f g h) (comes_before-none f g h)
    ∙ sym (right f g h (comes_before h g))

-- the first fault of two lists is the earlier one of their first faults
pub first_of-append : (xs ys : List CheckFault) → first_of (xs ++ ys) ≡ earlier (first_of xs) (first_of ys)
first_of-append [] ys = refl
first_of-append (f ∷ fs) ys =
    ap (earlier (Some f)) (first_of-append fs ys) ∙ sym (earlier-assoc (Some f) (first_of fs) (first_of ys))

-- the earlier of what was seen before and in one list, and then in another, is the earlier of that and of both
pub earlier-append : (a : Option CheckFault) (xs ys : List CheckFault)
    → earlier (earlier a (first_of xs)) (first_of ys) ≡ earlier a (first_of (xs ++ ys))
earlier-append a xs ys =
    earlier-assoc a (first_of xs) (first_of ys) ∙ ap (earlier a) (sym (first_of-append xs ys))

-- for `grind`: a watch that sees one part and then another
pub ruleset joined = (earlier-append, earlier-none)

-- what the first parts of a list and the next part give is what one part more gives
pub flat_map-more : {X Y A : Type 0} (f : Y → List A) (v : X → Y) (xs : List X) (i : ℕ) (x : X)
    → i < length xs → x ≡ get_or xs i x
    → flat_map f (map v (take (i + 1) xs)) ≡ flat_map f (map v (take i xs)) ++ f (v x)
flat_map-more f v xs i x h e =
    ap (λ ys. flat_map f (map v ys)) (take_more xs i x h ∙ ap (λ y. take i xs ++ y ∷ []) (sym e))
    ∙ ap (flat_map f) (map-append v (take i xs) (x ∷ []))
    ∙ flat_map-append f (map v (take i xs)) (v x ∷ [])
    ∙ ap (λ fs. flat_map f (map v (take i xs)) ++ fs) (append-nil (f (v x)))

-- a watch that sees one list and then another has seen both
pub seen_both : (a b c : Option CheckFault) (xs ys : List CheckFault) → b ≡ earlier a (first_of xs)
    → c ≡ earlier b (first_of ys) → c ≡ earlier a (first_of (xs ++ ys))
seen_both a b c xs ys d e = e ∙ ap (λ o. earlier o (first_of ys)) d ∙ earlier-append a xs ys

-- a watch that has seen the first parts of a list, and then the next part, has seen one part more
pub seen_more : {X Y : Type 0} (f : Y → List CheckFault) (v : X → Y) (xs : List X) (i : ℕ) (x : X)
    (a b c : Option CheckFault) → i < length xs → x ≡ get_or xs i x
    → b ≡ earlier a (first_of (flat_map f (map v (take i xs)))) → c ≡ earlier b (first_of (f (v x)))
    → c ≡ earlier a (first_of (flat_map f (map v (take (i + 1) xs))))
seen_more f v xs i x a b c h e k m =
    seen_both a b c (flat_map f (map v (take i xs))) (f (v x)) k m
    ∙ ap (λ fs. earlier a (first_of fs)) (sym (flat_map-more f v xs i x h e))

-- a watch that has seen all parts of a list has seen the list
pub seen_all : {X Y : Type 0} (f : Y → List CheckFault) (v : X → Y) (xs : List X) (i : ℕ) (a b : Option CheckFault)
    → length xs ≤ i → b ≡ earlier a (first_of (flat_map f (map v (take i xs))))
    → b ≡ earlier a (first_of (flat_map f (map v xs)))
seen_all f v xs i a b past k = k ∙ ap (λ ys. earlier a (first_of (flat_map f (map v ys)))) (take_all i xs past)
