-- Lists of numbers that are apart.
use Rattle.std.proofs.Common.{◌≡◌, ℕ, zero, suc, ◌<◌, List, [], ◌∷◌, ◌++◌, length, get_or, refl, sym, subst, arith, ◌⊎◌, inl, inr, ⊎_elim}
use Rattle.std.specs.List.{Contains}
use Rattle.std.proofs.lemmas.List.Elements.{Contains-append_left, Contains-append_right, Contains-append_cases}
use Rattle.hp_links.specs.Labelled.{AreApart}

-- no number is in both lists
abbrev pub AreDisjoint : List ℕ → List ℕ → Type 0
AreDisjoint xs ys = (x : ℕ) → Contains xs x → Contains ys x → ⊥

-- each number of one list is in the other
abbrev pub AreAmong : List ℕ → List ℕ → Type 0
AreAmong xs ys = (x : ℕ) → Contains xs x → Contains ys x

-- no number is in the empty list
pub contains_nothing : (x : ℕ) → Contains [] x → ⊥
contains_nothing x h = absurd (let l = h.1 in omega arith)

-- the first number is in a list
pub contains_first : (k : ℕ) (ks : List ℕ) → Contains (k ∷ ks) k
contains_first k ks = (zero, omega arith, refl)

-- a later number is in a list
pub contains_later : (k x : ℕ) (ks : List ℕ) → Contains ks x → Contains (k ∷ ks) x
contains_later k x ks h = Contains-append_right (k ∷ []) ks x h

-- a number in a list is the first, or a later one
pub contains_cases : (k x : ℕ) (ks : List ℕ) → Contains (k ∷ ks) x → (k ≡ x) ⊎ Contains ks x
contains_cases k x ks h = by_place h.0 h.1 h.2
  where
    by_place : (i : ℕ) → i < length (k ∷ ks) → get_or (k ∷ ks) i x ≡ x → (k ≡ x) ⊎ Contains ks x
    by_place zero l e = inl e
    by_place (suc i) l e = inr (i, omega arith, e)

-- numbers apart, of which none is in another list of numbers apart, are apart together with these
pub apart-append : (xs ys : List ℕ) → AreApart xs → AreApart ys → AreDisjoint xs ys → AreApart (xs ++ ys)
apart-append [] ys a b d = b
apart-append (x ∷ xs) ys a b d = (
  λ h. ⊎_elim (λ g. a.0 g) (λ g. d x (contains_first x xs) g) (Contains-append_cases xs ys x h),
  apart-append xs ys a.1 b (λ y g. d y (contains_later x y xs g)),
)

-- the first of numbers apart are apart
pub apart_left : (xs ys : List ℕ) → AreApart (xs ++ ys) → AreApart xs
apart_left [] ys a = tt
apart_left (x ∷ xs) ys a = (λ h. a.0 (Contains-append_left xs ys x h), apart_left xs ys a.1)

-- the last of numbers apart are apart
pub apart_right : (xs ys : List ℕ) → AreApart (xs ++ ys) → AreApart ys
apart_right [] ys a = a
apart_right (x ∷ xs) ys a = apart_right xs ys a.1

-- of numbers apart none of the first is one of the last
pub apart_disjoint : (xs ys : List ℕ) → AreApart (xs ++ ys) → AreDisjoint xs ys
apart_disjoint [] ys a = λ y g h. contains_nothing y g
apart_disjoint (x ∷ xs) ys a =
    λ y g h.
    ⊎_elim (λ e. a.0 (Contains-append_right xs ys x (subst (Contains ys) (sym e) h)))
    (λ f. apart_disjoint xs ys a.1 y f h) (contains_cases x y xs g)
