-- Where a path lies beside another one.
use Rattle.std.proofs.Common.{◌≡◌, ℕ, ◌-◌, ◌^◌, ◌<◌, ◌≤◌, ◌⊎◌, min, Bool, true, false, ◌&&◌, ◌==◌, cond, ltb, List, [], ◌∷◌, refl, sym, ap, ap₂, ◌∙◌, inl, inr, ⊎_elim, arith}
use Rattle.std.specs.List.{All}
use Rattle.std.specs.Prelude.{nat_lt}
use Rattle.std.proofs.lemmas.Bool.{cases_lt, eq-eqb, le-ltb, lt-ltb, ltb-false, ltb-true, ne_eqb}
use Rattle.std.proofs.lemmas.List.Elements.{All-head, All-tail}
use Rattle.hp_laws.specs.TreeLaws.{IsBefore}
use Rattle.hp_syntax.specs.Walk.{begins, told}
use Rattle.hp_after.specs.declared.reaching.Side.{Side}
use Rattle.hp_after.specs.declared.reaching.Side.TheVariants as sides
use Rattle.hp_after.specs.Reach.{side_of}
use Rattle.hp_after.specs.Stepping.{IsBeginning}

-- ---- tests of numbers

-- a limit above a number doesn't matter beside it
less_told : (i j m : ℕ) → j < m → nat_lt (min i m) j ≡ nat_lt i j
less_told i j m h =
    ⊎_elim (λ l. lt-ltb (min i m) j (omega arith) ∙ sym (lt-ltb i j l))
    (λ l. le-ltb (min i m) j (omega arith) ∙ sym (le-ltb i j l)) (cases_lt i j)

more_told : (i j m : ℕ) → j < m → nat_lt j (min i m) ≡ nat_lt j i
more_told i j m h =
    ⊎_elim (λ l. lt-ltb j (min i m) (omega arith) ∙ sym (lt-ltb j i l))
    (λ l. le-ltb j (min i m) (omega arith) ∙ sym (le-ltb j i l)) (cases_lt j i)

-- so a path as it is told lies where the path does, beside numbers that are told as themselves
pub side_told : (q p : List ℕ) → All (λ i. i < 2 ^ 64 - 1) p → side_of (told q) p ≡ side_of q p
side_told [] [] a = refl
side_told [] (j ∷ p) a = refl
side_told (i ∷ q) [] a = refl
side_told (i ∷ q) (j ∷ p) a =
    let small : j < 2 ^ 64 - 1 = All-head (λ i. i < 2 ^ 64 - 1) j p a in
    let deeper : side_of (told q) p ≡ side_of q p =
    side_told q p (All-tail (λ i. i < 2 ^ 64 - 1) j p a) in
    ap₂ (λ b x. cond b sides.Before x) (less_told i j (2 ^ 64 - 1) small)
    (ap₂ (λ b x. cond b sides.Beyond x) (more_told i j (2 ^ 64 - 1) small) deeper)

-- ---- one number more

-- the side of what is left of two paths, where both go on
abbrev pub beside : ℕ → ℕ → Side → Side
beside i j x = cond (nat_lt i j) sides.Before (cond (nat_lt j i) sides.Beyond x)

pub before_here : (i j : ℕ) (x : Side) → i < j → beside i j x ≡ sides.Before
before_here i j x l = ap (λ b. cond b sides.Before (cond (nat_lt j i) sides.Beyond x)) (lt-ltb i j l)

pub beyond_here : (i j : ℕ) (x : Side) → j < i → beside i j x ≡ sides.Beyond
beyond_here i j x l =
    ap (λ b. cond b sides.Before (cond (nat_lt j i) sides.Beyond x)) (le-ltb i j (omega arith))
    ∙ ap (λ b. cond b sides.Beyond x) (lt-ltb j i l)

pub same_here : (i j : ℕ) (x : Side) → j ≤ i → i ≤ j → beside i j x ≡ x
same_here i j x l k =
    ap (λ b. cond b sides.Before (cond (nat_lt j i) sides.Beyond x)) (le-ltb i j l)
    ∙ ap (λ b. cond b sides.Beyond x) (le-ltb j i k)

-- ---- what a side says of paths

same_numbers : (i j : ℕ) → ltb i j ≡ false → ltb j i ≡ false → i ≡ j
same_numbers i j h k =
    let l : j ≤ i = ltb-false i j h in
    let m : i ≤ j = ltb-false j i k in
    omega arith

-- a path that is here is the other one
here_by : (i j : ℕ) (q p : List ℕ) → (side_of q p ≡ sides.Here → q ≡ p) → (a : Bool) → ltb i j ≡ a → (b : Bool)
    → ltb j i ≡ b → cond a sides.Before (cond b sides.Beyond (side_of q p)) ≡ sides.Here → i ∷ q ≡ j ∷ p
here_by i j q p deeper true e b f h = let g : sides.Before ≡ sides.Here = h in absurd (cc)
here_by i j q p deeper false e true f h = let g : sides.Beyond ≡ sides.Here = h in absurd (cc)
here_by i j q p deeper false e false f h = ap₂ (λ n l. n ∷ l) (same_numbers i j e f) (deeper h)

pub here_same : (q p : List ℕ) → side_of q p ≡ sides.Here → q ≡ p
here_same [] [] h = refl
here_same [] (j ∷ p) h = let f : sides.Above ≡ sides.Here = h in absurd (cc)
here_same (i ∷ q) [] h = let f : sides.Beyond ≡ sides.Here = h in absurd (cc)
here_same (i ∷ q) (j ∷ p) h = here_by i j q p (here_same q p) (ltb i j) refl (ltb j i) refl h

-- a path that is above begins the other one
above_by : (i j : ℕ) (q p : List ℕ) → (side_of q p ≡ sides.Above → IsBeginning q p) → (a : Bool) → ltb i j ≡ a
    → (b : Bool) → ltb j i ≡ b → cond a sides.Before (cond b sides.Beyond (side_of q p)) ≡ sides.Above
    → IsBeginning (i ∷ q) (j ∷ p)
above_by i j q p deeper true e b f h = let g : sides.Before ≡ sides.Above = h in absurd (cc)
above_by i j q p deeper false e true f h = let g : sides.Beyond ≡ sides.Above = h in absurd (cc)
above_by i j q p deeper false e false f h =
    let b = deeper h in
    record { behind = b.behind; whole = ap₂ (λ n l. n ∷ l) (sym (same_numbers i j e f)) b.whole }

pub above_begins : (q p : List ℕ) → side_of q p ≡ sides.Above → IsBeginning q p
above_begins [] p h = record { behind = p; whole = refl }
above_begins (i ∷ q) [] h = let f : sides.Beyond ≡ sides.Above = h in absurd (cc)
above_begins (i ∷ q) (j ∷ p) h = above_by i j q p (above_begins q p) (ltb i j) refl (ltb j i) refl h

-- each path is here beside itself
pub side_same : (p : List ℕ) → side_of p p ≡ sides.Here
side_same [] = refl
side_same (i ∷ p) = same_here i i (side_of p p) (omega arith) (omega arith) ∙ side_same p

-- nothing before a path begins it
apart_by : (i j : ℕ) (q p : List ℕ) → (side_of q p ≡ sides.Before → begins q p ≡ false) → (a : Bool) → ltb i j ≡ a
    → (b : Bool) → ltb j i ≡ b → cond a sides.Before (cond b sides.Beyond (side_of q p)) ≡ sides.Before
    → ((i == j) && begins q p) ≡ false
apart_by i j q p deeper true e b f h =
    let l : i < j = ltb-true i j e in
    ap (λ c. c && begins q p) (ne_eqb i j (λ k. omega arith))
apart_by i j q p deeper false e true f h = let g : sides.Beyond ≡ sides.Before = h in absurd (cc)
apart_by i j q p deeper false e false f h =
    ap (λ c. c && begins q p) (eq-eqb i j (same_numbers i j e f)) ∙ deeper h

pub before_apart : (q p : List ℕ) → side_of q p ≡ sides.Before → begins q p ≡ false
before_apart [] [] h = let f : sides.Here ≡ sides.Before = h in absurd (cc)
before_apart [] (j ∷ p) h = let f : sides.Above ≡ sides.Before = h in absurd (cc)
before_apart (i ∷ q) [] h = refl
before_apart (i ∷ q) (j ∷ p) h = apart_by i j q p (before_apart q p) (ltb i j) refl (ltb j i) refl h

-- a path that leads to an earlier node is before or above
pub earlier_side : (q p : List ℕ) → IsBefore q p → (side_of q p ≡ sides.Before) ⊎ (side_of q p ≡ sides.Above)
earlier_side [] [] h = absurd h
earlier_side [] (j ∷ p) h = inr refl
earlier_side (i ∷ q) [] h = absurd h
earlier_side (i ∷ q) (j ∷ p) (inl l) = inl (before_here i j (side_of q p) l)
earlier_side (i ∷ q) (j ∷ p) (inr (e, h)) =
    let same : beside i j (side_of q p) ≡ side_of q p = same_here i j (side_of q p) (omega arith) (omega arith) in
    ⊎_elim (λ k. inl (same ∙ k)) (λ k. inr (same ∙ k)) (earlier_side q p h)
