-- Joins: what holds of the lists that are joined holds of the join.
use Rattle.std.proofs.Common.{◌≡◌, zero, suc, List, [], ◌∷◌, ◌++◌, refl, sym, ◌∙◌, ap, ap₂, arith, ◌⊎◌, inl, inr, ⊎_elim, map}
use Rattle.std.specs.Prelude.{flat_map, Contains}
use Rattle.std.specs.List.{All, AllPairs}
use Rattle.std.proofs.lemmas.List.{map-append}
use Rattle.std.proofs.lemmas.List.Elements.{All-nil, All-cons, All-append, All-weaker, All-head, All-tail, All-contains, All-contains_itself, Contains-append_left, Contains-append_right, Contains-append_cases}
use Rattle.std.proofs.lemmas.List.Kept.{AllPairs-cons}
use Rattle.std.proofs.lemmas.List.Concat.{flat_map-append}

-- a fact of everything is one of each element
pub all_from : {X : Type 0} (P : X → Type 0) → ((x : X) → P x) → (xs : List X) → All P xs
all_from P h [] = All-nil P
all_from P h (x ∷ xs) = All-cons P x xs (h x) (all_from P h xs)

-- a fact of one element is one of each element of the list of it
pub all_one : {X : Type 0} (P : X → Type 0) (x : X) → P x → All P (x ∷ [])
all_one P x h = All-cons P x [] h (All-nil P)

-- a fact that is passed on to each element of a list holds of all elements
pub all_from_contains : {X : Type 0} (P : X → Type 0) (xs : List X) → ((x : X) → Contains xs x → P x) → All P xs
all_from_contains P xs h = All-weaker (Contains xs) P h xs (All-contains_itself xs)

-- a list contains its first element
pub contains_first : {X : Type 0} (x : X) (xs : List X) → Contains (x ∷ xs) x
contains_first x xs = (zero, omega arith, refl)

-- a list contains what its rest contains
pub contains_later : {X : Type 0} (x y : X) (xs : List X) → Contains xs y → Contains (x ∷ xs) y
contains_later x y xs c = (suc c.0, (let l = c.1 in omega arith), c.2)

-- an element of a list is its first or is in its rest
pub contains_cases : {X : Type 0} (x y : X) (xs : List X) → Contains (x ∷ xs) y → (x ≡ y) ⊎ Contains xs y
contains_cases x y xs (zero, l, e) = inl e
contains_cases x y xs (suc k, l, e) = inr (k, omega arith, e)

-- an empty list contains nothing
pub contains_none : {X : Type 0} (y : X) → Contains [] y → ⊥
contains_none y c = let l = c.1 in omega arith

-- a fact of the elements of two lists is one of those of each
pub all_left : {X : Type 0} (P : X → Type 0) (xs ys : List X) → All P (xs ++ ys) → All P xs
all_left P [] ys a = All-nil P
all_left P (x ∷ xs) ys a =
    All-cons P x xs (All-head P x (xs ++ ys) a) (all_left P xs ys (All-tail P x (xs ++ ys) a))

pub all_right : {X : Type 0} (P : X → Type 0) (xs ys : List X) → All P (xs ++ ys) → All P ys
all_right P [] ys a = a
all_right P (x ∷ xs) ys a = all_right P xs ys (All-tail P x (xs ++ ys) a)

-- a fact of each mapped element is one of each element, mapped
pub all_unmapped : {X Y : Type 0} (P : X → Type 0) (f : Y → X) (ys : List Y) → All P (map f ys) → All (λ y. P (f y)) ys
all_unmapped P f [] a = All-nil (λ y. P (f y))
all_unmapped P f (y ∷ ys) a =
    All-cons (λ y. P (f y)) y ys (All-head P (f y) (map f ys) a) (all_unmapped P f ys (All-tail P (f y) (map f ys) a))

module _ {X A : Type 0} (f : X → List A) where
  -- a fact of all joined lists is one of the join
  pub all_join : (P : A → Type 0) (xs : List X) → All (λ x. All P (f x)) xs → All P (flat_map f xs)
  all_join P [] h = All-nil P
  all_join P (x ∷ xs) h =
      All-append P (f x) (flat_map f xs) (All-head (λ x. All P (f x)) x xs h)
      (all_join P xs (All-tail (λ x. All P (f x)) x xs h))

  -- a fact of a join is one of all joined lists
  pub all_joined : (P : A → Type 0) (xs : List X) → All P (flat_map f xs) → All (λ x. All P (f x)) xs
  all_joined P [] a = All-nil (λ x. All P (f x))
  all_joined P (x ∷ xs) a =
      All-cons (λ x. All P (f x)) x xs (all_left P (f x) (flat_map f xs) a)
      (all_joined P xs (all_right P (f x) (flat_map f xs) a))

  -- a fact of all lists that the contained elements give
  pub all_join_contains : (P : A → Type 0) (xs : List X) → ((x : X) → Contains xs x → All P (f x))
      → All P (flat_map f xs)
  all_join_contains P xs h = all_join P xs (all_from_contains (λ x. All P (f x)) xs h)

  -- a join contains what an element gives
  pub contains_join : (xs : List X) (x : X) (y : A) → Contains xs x → Contains (f x) y → Contains (flat_map f xs) y
  contains_join [] x y c d = absurd (contains_none x c)
  contains_join (z ∷ xs) x y c d =
      ⊎_elim
      (λ e. Contains-append_left (f z) (flat_map f xs) y (rw (← e) at d))
      (λ k. Contains-append_right (f z) (flat_map f xs) y (contains_join xs x y k d)) (contains_cases z x xs c)

  -- each element of a join is given by an element of the list
  pub joined_from : (xs : List X) (y : A) → Contains (flat_map f xs) y
      → (x : X) × Contains xs x × Contains (f x) y
  joined_from [] y c = absurd (contains_none y c)
  joined_from (z ∷ xs) y c =
      ⊎_elim (λ d. (z, contains_first z xs, d))
      (λ d. let k = joined_from xs y d in (k.0, contains_later z k.0 xs k.1, k.2))
      (Contains-append_cases (f z) (flat_map f xs) y c)

  -- a map of a join is the join of the maps
  pub map_join : {B : Type 0} (g : A → B) (xs : List X) → map g (flat_map f xs) ≡ flat_map (λ x. map g (f x)) xs
  map_join g [] = refl
  map_join g (x ∷ xs) = map-append g (f x) (flat_map f xs) ∙ ap (λ ys. map g (f x) ++ ys) (map_join g xs)

  -- where each element gives the same, the join is the same
  pub join_same : (g : X → List A) (xs : List X) → All (λ x. f x ≡ g x) xs → flat_map f xs ≡ flat_map g xs
  join_same g [] h = refl
  join_same g (x ∷ xs) h =
      ap₂ (λ ys zs. ys ++ zs) (All-head (λ x. f x ≡ g x) x xs h)
      (join_same g xs (All-tail (λ x. f x ≡ g x) x xs h))

  -- a join of joins is the join of what is joined of each
  pub join_join : {B : Type 0} (g : A → List B) (xs : List X)
      → flat_map g (flat_map f xs) ≡ flat_map (λ x. flat_map g (f x)) xs
  join_join g [] = refl
  join_join g (x ∷ xs) = flat_map-append g (f x) (flat_map f xs) ∙ ap (λ ys. flat_map g (f x) ++ ys) (join_join g xs)

-- where nothing is joined, a join is empty
pub join_none : {X A : Type 0} (f : X → List A) (xs : List X) → All (λ x. f x ≡ []) xs → flat_map f xs ≡ []
join_none f [] h = refl
join_none f (x ∷ xs) h =
    ap₂ (λ ys zs. ys ++ zs) (All-head (λ x. f x ≡ []) x xs h) (join_none f xs (All-tail (λ x. f x ≡ []) x xs h))

-- a join begins with the join of a prefix
pub join_prefix : {X A : Type 0} (f : X → List A) (xs ys zs : List X) → xs ++ ys ≡ zs
    → flat_map f xs ++ flat_map f ys ≡ flat_map f zs
join_prefix f xs ys zs e = sym (flat_map-append f xs ys) ∙ ap (flat_map f) e

-- one element makes no pair
pub one_pair : {X : Type 0} (R : X → X → Type 0) (x : X) → AllPairs R (x ∷ [])
one_pair R x = AllPairs-cons R x [] (All-nil (R x)) (λ i j d l m. absurd (omega arith))

-- the first element is paired with each later one
pub pairs_head : {X : Type 0} (R : X → X → Type 0) (x : X) (xs : List X) → AllPairs R (x ∷ xs) → All (R x) xs
pairs_head R x xs h = λ k d l. h 0 (suc k) d (omega arith) (omega arith)

-- later elements are paired with one another
pub pairs_tail : {X : Type 0} (R : X → X → Type 0) (x : X) (xs : List X) → AllPairs R (x ∷ xs) → AllPairs R xs
pairs_tail R x xs h = λ i j d l m. h (suc i) (suc j) d (omega arith) (omega arith)

-- a consequence for each pair holds of all pairs
pub pairs_weaker : {X : Type 0} (R S : X → X → Type 0) → ((x y : X) → R x y → S x y) → (xs : List X)
    → AllPairs R xs → AllPairs S xs
pairs_weaker R S h xs a = λ i j d l m. h _ _ (a i j d l m)

-- a fact of the pairs of two lists and across them is one of those of both
pub pairs_append : {X : Type 0} (R : X → X → Type 0) (xs ys : List X) → AllPairs R xs → AllPairs R ys
    → All (λ x. All (R x) ys) xs → AllPairs R (xs ++ ys)
pairs_append R [] ys a b c = b
pairs_append R (x ∷ xs) ys a b c =
    AllPairs-cons R x (xs ++ ys)
    (All-append (R x) xs ys (pairs_head R x xs a) (All-head (λ x. All (R x) ys) x xs c))
    (pairs_append R xs ys (pairs_tail R x xs a) b (All-tail (λ x. All (R x) ys) x xs c))

-- a fact of the pairs of all joined lists and across them is one of those of the join
pub pairs_join : {X A : Type 0} (f : X → List A) (R : A → A → Type 0) (xs : List X)
    → All (λ x. AllPairs R (f x)) xs → AllPairs (λ x y. All (λ a. All (R a) (f y)) (f x)) xs
    → AllPairs R (flat_map f xs)
pairs_join f R [] h k = λ i j d l m. absurd (omega arith)
pairs_join f R (x ∷ xs) h k =
    pairs_append R (f x) (flat_map f xs) (All-head (λ x. AllPairs R (f x)) x xs h)
    (pairs_join f R xs (All-tail (λ x. AllPairs R (f x)) x xs h)
    (pairs_tail (λ x y. All (λ a. All (R a) (f y)) (f x)) x xs k))
    (all_from_contains (λ a. All (R a) (flat_map f xs)) (f x)
    (λ a c. all_join f (R a) xs
    (All-weaker (λ y. All (λ a. All (R a) (f y)) (f x)) (λ y. All (R a) (f y))
    (λ y g. All-contains (λ a. All (R a) (f y)) (f x) a g c) xs
    (pairs_head (λ x y. All (λ a. All (R a) (f y)) (f x)) x xs k))))
