-- Places and parts of numbers.
use Rattle.std.proofs.Common.{◌≡◌, ℕ, ◌+◌, zero, suc, cond, eqb, List, [], ◌∷◌, ◌++◌, Option, Some, None, option_map, refl, sym, ap, ◌∙◌, subst, arith, ◌⊎◌, inl, inr, ⊎_elim}
use Rattle.std.specs.List.{Contains}
use Rattle.std.proofs.lemmas.Bool.{cases_eq, cond-true, cond-false, eq-eqb, ne_eqb}
use Rattle.std.proofs.lemmas.List.Elements.{Contains-append_left, Contains-append_right, Contains-append_cases}
use Rattle.hp_syntax.specs.Networks.{Place}
use Rattle.hp_links.specs.Labelled.{Tree, Trees, Gone, Leaf, Branch, NoTree, With, numbers, numbers_of_all, number_of, AreApart, or_else, place_in, place_among, part_in, part_among}
use Rattle.hp_links.proofs.NumberLemmas.{AreAmong, contains_nothing, contains_first, contains_later, contains_cases, apart_left, apart_right}

-- ---- choices

-- a choice by equal numbers is the first value
pub at_number : {A : Type 0} (k x : ℕ) (a b : A) → k ≡ x → cond (eqb k x) a b ≡ a
at_number k x a b e = cond-true (eqb k x) a b (eq-eqb k x e)

-- a choice by other numbers is the second value
pub off_number : {A : Type 0} (k x : ℕ) (a b : A) → (k ≡ x → ⊥) → cond (eqb k x) a b ≡ b
off_number k x a b n = cond-false (eqb k x) a b (ne_eqb k x n)

-- an option is nothing or something
pub option_cases : {A : Type 0} (o : Option A) → (o ≡ None) ⊎ ((a : A) × (o ≡ Some a))
option_cases None = inl refl
option_cases (Some a) = inr (a, refl)

-- ---- which numbers have places

-- a number has a place and a part where it is one of these, and neither where it isn't
abbrev pub Tells : List ℕ → ℕ → Option Place → Option Tree → Type 0
Tells ns x None None = Contains ns x → ⊥
Tells ns x None (Some s) = ⊥
Tells ns x (Some p) None = ⊥
Tells ns x (Some p) (Some s) = Contains ns x

-- what is told of a number is told of it among more, if it isn't the first
tells_later : (k x : ℕ) (ns : List ℕ) (o : Option Place) (r : Option Tree) → (k ≡ x → ⊥) → Tells ns x o r
    → Tells (k ∷ ns) x o r
tells_later k x ns None None n h = λ c. ⊎_elim n h (contains_cases k x ns c)
tells_later k x ns None (Some s) n h = h
tells_later k x ns (Some p) None n h = h
tells_later k x ns (Some p) (Some s) n h = contains_later k x ns h

-- what is told of a number in one tree and among others is told of it among all
tells_either : (ns ms : List ℕ) (x i : ℕ) (o u : Option Place) (r v : Option Tree) → Tells ns x o r → Tells ms x u v
    → Tells (ns ++ ms) x (or_else (option_map (λ p. i ∷ p) o) u) (or_else r v)
tells_either ns ms x i (Some p) u (Some s) v h g = Contains-append_left ns ms x h
tells_either ns ms x i (Some p) u None v h g = absurd h
tells_either ns ms x i None u (Some s) v h g = absurd h
tells_either ns ms x i None None None None h g = λ c. ⊎_elim h g (Contains-append_cases ns ms x c)
tells_either ns ms x i None None None (Some s) h g = g
tells_either ns ms x i None (Some p) None None h g = g
tells_either ns ms x i None (Some p) None (Some s) h g = Contains-append_right ns ms x g

-- the numbers of a tree are those that have a place and a part in it
mutual
  pub tells_in : (x : ℕ) (t : Tree) → Tells (numbers t) x (place_in x t) (part_in x t)
  tells_in x Gone = contains_nothing x
  tells_in x (Leaf k cell immediate) =
      ⊎_elim (λ e. rw (eq-eqb k x e) (subst (Contains (k ∷ [])) e (contains_first k [])))
      (λ n. rw (ne_eqb k x n) (λ c. ⊎_elim n (contains_nothing x) (contains_cases k x [] c))) (cases_eq k x)
  tells_in x (Branch k order ts) =
      ⊎_elim
      (λ e. rw (eq-eqb k x e)
      (subst (Contains (k ∷ numbers_of_all ts)) e (contains_first k (numbers_of_all ts))))
      (λ n. rw (ne_eqb k x n)
      (tells_later k x (numbers_of_all ts) (place_among x 0 ts) (part_among x ts) n (tells_among x 0 ts)))
      (cases_eq k x)

  pub tells_among : (x i : ℕ) (ts : Trees) → Tells (numbers_of_all ts) x (place_among x i ts) (part_among x ts)
  tells_among x i NoTree = contains_nothing x
  tells_among x i (With t ts) =
      tells_either (numbers t) (numbers_of_all ts) x i (place_in x t) (place_among x (suc i) ts) (part_in x t)
      (part_among x ts) (tells_in x t) (tells_among x (suc i) ts)

-- where a number has a place it has a part, and is one of these
tells_place : (ns : List ℕ) (x : ℕ) (o : Option Place) (r : Option Tree) (p : Place) → Tells ns x o r → o ≡ Some p
    → (s : Tree) × (r ≡ Some s) × Contains ns x
tells_place ns x None r p h e = absurd cc
tells_place ns x (Some q) None p h e = absurd h
tells_place ns x (Some q) (Some s) p h e = (s, refl, h)

-- where a number has a part it has a place, and is one of these
tells_part : (ns : List ℕ) (x : ℕ) (o : Option Place) (r : Option Tree) (s : Tree) → Tells ns x o r → r ≡ Some s
    → (p : Place) × (o ≡ Some p) × Contains ns x
tells_part ns x o None s h e = absurd cc
tells_part ns x None (Some u) s h e = absurd h
tells_part ns x (Some p) (Some u) s h e = (p, refl, h)

-- one of these numbers has a place and a part
tells_there : (ns : List ℕ) (x : ℕ) (o : Option Place) (r : Option Tree) → Tells ns x o r → Contains ns x
    → (p : Place) × (s : Tree) × (o ≡ Some p) × (r ≡ Some s)
tells_there ns x None None h c = absurd (h c)
tells_there ns x None (Some s) h c = absurd h
tells_there ns x (Some p) None h c = absurd h
tells_there ns x (Some p) (Some s) h c = (p, s, refl, refl)

-- another number has neither
tells_absent : (ns : List ℕ) (x : ℕ) (o : Option Place) (r : Option Tree) → Tells ns x o r → (Contains ns x → ⊥)
    → (o ≡ None) × (r ≡ None)
tells_absent ns x None None h c = (refl, refl)
tells_absent ns x None (Some s) h c = absurd h
tells_absent ns x (Some p) None h c = absurd h
tells_absent ns x (Some p) (Some s) h c = absurd (c h)

-- a number is one of these, or it isn't
tells_cases : (ns : List ℕ) (x : ℕ) (o : Option Place) (r : Option Tree) → Tells ns x o r
    → Contains ns x ⊎ (Contains ns x → ⊥)
tells_cases ns x None None h = inr h
tells_cases ns x None (Some s) h = absurd h
tells_cases ns x (Some p) None h = absurd h
tells_cases ns x (Some p) (Some s) h = inl h

-- a number with a place in a tree has a part there, and is one of its numbers
pub place_tells : (x : ℕ) (t : Tree) (p : Place) → place_in x t ≡ Some p
    → (s : Tree) × (part_in x t ≡ Some s) × Contains (numbers t) x
place_tells x t p e = tells_place (numbers t) x (place_in x t) (part_in x t) p (tells_in x t) e

-- a number with a part in a tree has a place there, and is one of its numbers
pub part_tells : (x : ℕ) (t s : Tree) → part_in x t ≡ Some s
    → (p : Place) × (place_in x t ≡ Some p) × Contains (numbers t) x
part_tells x t s e = tells_part (numbers t) x (place_in x t) (part_in x t) s (tells_in x t) e

-- a number with a part among trees is one of their numbers
pub part_among_tells : (x : ℕ) (ts : Trees) (s : Tree) → part_among x ts ≡ Some s → Contains (numbers_of_all ts) x
part_among_tells x ts s e =
    (tells_part (numbers_of_all ts) x (place_among x 0 ts) (part_among x ts) s (tells_among x 0 ts) e).2

-- a number of a tree has a place and a part in it
pub number_tells : (x : ℕ) (t : Tree) → Contains (numbers t) x
    → (p : Place) × (s : Tree) × (place_in x t ≡ Some p) × (part_in x t ≡ Some s)
number_tells x t c = tells_there (numbers t) x (place_in x t) (part_in x t) (tells_in x t) c

-- another number has neither place nor part in a tree
pub absent_tells : (x : ℕ) (t : Tree) → (Contains (numbers t) x → ⊥) → (place_in x t ≡ None) × (part_in x t ≡ None)
absent_tells x t c = tells_absent (numbers t) x (place_in x t) (part_in x t) (tells_in x t) c

-- another number has neither place nor part among trees
pub absent_among_tells : (x i : ℕ) (ts : Trees) → (Contains (numbers_of_all ts) x → ⊥)
    → (place_among x i ts ≡ None) × (part_among x ts ≡ None)
absent_among_tells x i ts c =
    tells_absent (numbers_of_all ts) x (place_among x i ts) (part_among x ts) (tells_among x i ts) c

-- a number is one of a tree's, or it isn't
pub is_number : (x : ℕ) (t : Tree) → Contains (numbers t) x ⊎ (Contains (numbers t) x → ⊥)
is_number x t = tells_cases (numbers t) x (place_in x t) (part_in x t) (tells_in x t)

-- ---- in which of some trees a number stands

-- a number has this place and part in the tree of that number among some, and it is none of those before that tree
abbrev pub IsAt : ℕ → Trees → ℕ → Place → Tree → Type 0
IsAt x NoTree j p s = ⊥
IsAt x (With t ts) zero p s = (place_in x t ≡ Some p) × (part_in x t ≡ Some s)
IsAt x (With t ts) (suc j) p s = (Contains (numbers t) x → ⊥) × IsAt x ts j p s

-- a place among trees is one in one of them
pub place_among_parts : (x i : ℕ) (ts : Trees) (p : Place) → place_among x i ts ≡ Some p
    → (j : ℕ) × (q : Place) × (s : Tree) × (p ≡ (i + j) ∷ q) × IsAt x ts j q s
place_among_parts x i NoTree p h = absurd cc
place_among_parts x i (With t ts) p h =
    ⊎_elim
    (λ c.
    let a = number_tells x t c in
    let e : Some (i ∷ a.0) ≡ Some p =
    sym (ap (λ o. or_else (option_map (λ q. i ∷ q) o) (place_among x (suc i) ts)) a.2) ∙ h in
    let f : p ≡ i ∷ a.0 = cc in
    let z : i ≡ i + 0 = omega arith in
    (zero, a.0, a.1, f ∙ ap (λ n. n ∷ a.0) z, (a.2, a.3)))
    (λ c.
    let a = absent_tells x t c in
    let r = place_among_parts x (suc i) ts p
    (sym (ap (λ o. or_else (option_map (λ q. i ∷ q) o) (place_among x (suc i) ts)) a.0) ∙ h) in
    let z : suc i + r.0 ≡ i + suc r.0 = omega arith in
    (suc r.0, r.1, r.2, r.3 ∙ ap (λ n. n ∷ r.1) z, (c, r.4)))
    (is_number x t)

-- a number that stands in one of some trees has its place among them
pub place_among_at : (x i : ℕ) (ts : Trees) (j : ℕ) (q : Place) (s : Tree) → IsAt x ts j q s
    → place_among x i ts ≡ Some ((i + j) ∷ q)
place_among_at x i NoTree j q s h = absurd h
place_among_at x i (With t ts) zero q s h =
    let z : i ≡ i + 0 = omega arith in
    ap (λ o. or_else (option_map (λ p. i ∷ p) o) (place_among x (suc i) ts)) h.0 ∙ ap (λ n. Some (n ∷ q)) z
place_among_at x i (With t ts) (suc j) q s h =
    let z : suc i + j ≡ i + suc j = omega arith in
    ap (λ o. or_else (option_map (λ p. i ∷ p) o) (place_among x (suc i) ts)) (absent_tells x t h.0).0
    ∙ (place_among_at x (suc i) ts j q s h.1 ∙ ap (λ n. Some (n ∷ q)) z)

-- and its part
pub part_among_at : (x : ℕ) (ts : Trees) (j : ℕ) (q : Place) (s : Tree) → IsAt x ts j q s
    → part_among x ts ≡ Some s
part_among_at x NoTree j q s h = absurd h
part_among_at x (With t ts) zero q s h = ap (λ o. or_else o (part_among x ts)) h.1
part_among_at x (With t ts) (suc j) q s h =
    ap (λ o. or_else o (part_among x ts)) (absent_tells x t h.0).1 ∙ part_among_at x ts j q s h.1

-- a part among trees is one in one of them
pub part_among_parts : (x : ℕ) (ts : Trees) (s : Tree) → part_among x ts ≡ Some s
    → (j : ℕ) × (q : Place) × IsAt x ts j q s
part_among_parts x ts s e =
    let a = tells_part (numbers_of_all ts) x (place_among x 0 ts) (part_among x ts) s (tells_among x 0 ts) e in
    let r = place_among_parts x 0 ts a.0 a.1 in
    let f : Some r.2 ≡ Some s = sym (part_among_at x ts r.0 r.1 r.2 r.4) ∙ e in
    let g : r.2 ≡ s = cc in
    (r.0, r.1, subst (IsAt x ts r.0 r.1) g r.4)

-- a number that stands in one of some trees is one of their numbers
pub number_at : (x : ℕ) (ts : Trees) (j : ℕ) (q : Place) (s : Tree) → IsAt x ts j q s → Contains (numbers_of_all ts) x
number_at x ts j q s h = part_among_tells x ts s (part_among_at x ts j q s h)

-- ---- the numbers of parts

-- the numbers of a part are numbers of the whole
mutual
  pub part_within : (x : ℕ) (t s : Tree) → part_in x t ≡ Some s → AreAmong (numbers s) (numbers t)
  part_within x Gone s e = absurd cc
  part_within x (Leaf k cell immediate) s e =
      ⊎_elim
      (λ n.
      let f : Some (Leaf k cell immediate) ≡ Some s =
      sym (at_number k x (Some (Leaf k cell immediate)) None n) ∙ e in
      let g : Leaf k cell immediate ≡ s = cc in
      subst (λ u. AreAmong (numbers u) (k ∷ [])) g (λ y c. c))
      (λ n.
      absurd (let f : None ≡ Some s = sym (off_number k x (Some (Leaf k cell immediate)) None n) ∙ e in cc))
      (cases_eq k x)
  part_within x (Branch k order ts) s e =
      ⊎_elim
      (λ n.
      let f : Some (Branch k order ts) ≡ Some s =
      sym (at_number k x (Some (Branch k order ts)) (part_among x ts) n) ∙ e in
      let g : Branch k order ts ≡ s = cc in
      subst (λ u. AreAmong (numbers u) (k ∷ numbers_of_all ts)) g (λ y c. c))
      (λ n y c.
      contains_later k y (numbers_of_all ts)
      (part_among_within x ts s (sym (off_number k x (Some (Branch k order ts)) (part_among x ts) n) ∙ e) y c))
      (cases_eq k x)

  pub part_among_within : (x : ℕ) (ts : Trees) (s : Tree) → part_among x ts ≡ Some s
      → AreAmong (numbers s) (numbers_of_all ts)
  part_among_within x NoTree s e = absurd cc
  part_among_within x (With t ts) s e =
      ⊎_elim
      (λ c y d.
      let a = number_tells x t c in
      let f : Some a.1 ≡ Some s = sym (ap (λ o. or_else o (part_among x ts)) a.3) ∙ e in
      let g : a.1 ≡ s = cc in
      Contains-append_left (numbers t) (numbers_of_all ts) y (part_within x t s (a.3 ∙ ap Some g) y d))
      (λ c y d.
      Contains-append_right (numbers t) (numbers_of_all ts) y
      (part_among_within x ts s
      (sym (ap (λ o. or_else o (part_among x ts)) (absent_tells x t c).1) ∙ e) y d))
      (is_number x t)

-- the numbers of a part are apart where those of the whole are
mutual
  pub part_apart : (x : ℕ) (t s : Tree) → part_in x t ≡ Some s → AreApart (numbers t) → AreApart (numbers s)
  part_apart x Gone s e a = absurd cc
  part_apart x (Leaf k cell immediate) s e a =
      ⊎_elim
      (λ n.
      let f : Some (Leaf k cell immediate) ≡ Some s =
      sym (at_number k x (Some (Leaf k cell immediate)) None n) ∙ e in
      let g : Leaf k cell immediate ≡ s = cc in
      subst (λ u. AreApart (numbers u)) g a)
      (λ n.
      absurd (let f : None ≡ Some s = sym (off_number k x (Some (Leaf k cell immediate)) None n) ∙ e in cc))
      (cases_eq k x)
  part_apart x (Branch k order ts) s e a =
      ⊎_elim
      (λ n.
      let f : Some (Branch k order ts) ≡ Some s =
      sym (at_number k x (Some (Branch k order ts)) (part_among x ts) n) ∙ e in
      let g : Branch k order ts ≡ s = cc in
      subst (λ u. AreApart (numbers u)) g a)
      (λ n.
      part_among_apart x ts s (sym (off_number k x (Some (Branch k order ts)) (part_among x ts) n) ∙ e) a.1)
      (cases_eq k x)

  part_among_apart : (x : ℕ) (ts : Trees) (s : Tree) → part_among x ts ≡ Some s → AreApart (numbers_of_all ts)
      → AreApart (numbers s)
  part_among_apart x NoTree s e a = absurd cc
  part_among_apart x (With t ts) s e a =
      ⊎_elim
      (λ c.
      let b = number_tells x t c in
      let f : Some b.1 ≡ Some s = sym (ap (λ o. or_else o (part_among x ts)) b.3) ∙ e in
      let g : b.1 ≡ s = cc in
      part_apart x t s (b.3 ∙ ap Some g) (apart_left (numbers t) (numbers_of_all ts) a))
      (λ c.
      part_among_apart x ts s (sym (ap (λ o. or_else o (part_among x ts)) (absent_tells x t c).1) ∙ e)
      (apart_right (numbers t) (numbers_of_all ts) a))
      (is_number x t)

-- the number of a tree has it as its part
pub part_of_number : (x : ℕ) (t : Tree) → number_of t ≡ Some x → part_in x t ≡ Some t
part_of_number x Gone e = absurd cc
part_of_number x (Leaf k cell immediate) e = let f : k ≡ x = cc in at_number k x _ _ f
part_of_number x (Branch k order ts) e = let f : k ≡ x = cc in at_number k x _ _ f

-- the number of a tree has the place at its top
pub place_of_number : (x : ℕ) (t : Tree) → number_of t ≡ Some x → place_in x t ≡ Some []
place_of_number x Gone e = absurd cc
place_of_number x (Leaf k cell immediate) e = let f : k ≡ x = cc in at_number k x _ _ f
place_of_number x (Branch k order ts) e = let f : k ≡ x = cc in at_number k x _ _ f

-- ---- numbers with one place

-- no two numbers have the same place in a tree
mutual
  pub places_apart : (x y : ℕ) (t : Tree) (p : Place) → place_in x t ≡ Some p → place_in y t ≡ Some p → x ≡ y
  places_apart x y Gone p e f = absurd cc
  places_apart x y (Leaf k cell immediate) p e f =
      ⊎_elim
      (λ n.
      ⊎_elim (λ m. sym n ∙ m)
      (λ m. absurd (let g : None ≡ Some p = sym (off_number k y (Some []) None m) ∙ f in cc)) (cases_eq k y))
      (λ n. absurd (let g : None ≡ Some p = sym (off_number k x (Some []) None n) ∙ e in cc)) (cases_eq k x)
  places_apart x y (Branch k order ts) p e f =
      ⊎_elim
      (λ n.
      let g : Some [] ≡ Some p = sym (at_number k x (Some []) (place_among x 0 ts) n) ∙ e in
      ⊎_elim (λ m. sym n ∙ m)
      (λ m.
      let b = place_among_parts y 0 ts p (sym (off_number k y (Some []) (place_among y 0 ts) m) ∙ f) in
      let h : [] ≡ (0 + b.0) ∷ b.1 = let i : [] ≡ p = cc in i ∙ b.3 in
      absurd cc) (cases_eq k y))
      (λ n.
      let a = place_among_parts x 0 ts p (sym (off_number k x (Some []) (place_among x 0 ts) n) ∙ e) in
      ⊎_elim
      (λ m.
      let g : Some [] ≡ Some p = sym (at_number k y (Some []) (place_among y 0 ts) m) ∙ f in
      let h : [] ≡ (0 + a.0) ∷ a.1 = let i : [] ≡ p = cc in i ∙ a.3 in
      absurd cc)
      (λ m.
      let b = place_among_parts y 0 ts p (sym (off_number k y (Some []) (place_among y 0 ts) m) ∙ f) in
      let h : (0 + b.0) ∷ b.1 ≡ (0 + a.0) ∷ a.1 = sym b.3 ∙ a.3 in
      let i : 0 + b.0 ≡ 0 + a.0 = cc in
      let j : b.0 ≡ a.0 = omega arith in
      let l : b.1 ≡ a.1 = cc in
      at_apart x y ts a.0 a.1 a.2 b.2 a.4
      (subst (λ q. IsAt y ts a.0 q b.2) l (subst (λ o. IsAt y ts o b.1 b.2) j b.4)))
      (cases_eq k y)) (cases_eq k x)

  -- nor among trees
  at_apart : (x y : ℕ) (ts : Trees) (j : ℕ) (p : Place) (s u : Tree) → IsAt x ts j p s → IsAt y ts j p u → x ≡ y
  at_apart x y NoTree j p s u e f = absurd e
  at_apart x y (With t ts) zero p s u e f = places_apart x y t p e.0 f.0
  at_apart x y (With t ts) (suc j) p s u e f = at_apart x y ts j p s u e.1 f.1
