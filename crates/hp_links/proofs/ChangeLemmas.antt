-- Numbered trees without a part, and with another tree in the place of one.
use Rattle.std.proofs.Common.{◌≡◌, ℕ, ◌≤◌, suc, true, false, cond, eqb, [], ◌∷◌, ◌++◌, Some, None, option_map, refl, sym, ap, ap₂, ◌∙◌, subst, arith, ◌⊎◌, inl, inr, ⊎_elim}
use Rattle.std.specs.List.{Contains}
use Rattle.std.proofs.lemmas.Bool.{cases_eq}
use Rattle.std.proofs.lemmas.List.Elements.{Contains-append_left, Contains-append_right, Contains-append_cases}
use Rattle.hp_links.specs.declared.entry.Order.{Order}
use Rattle.hp_links.specs.Labelled.{Tree, Trees, Gone, Leaf, Branch, NoTree, With, numbers, numbers_of_all, number_of, AreApart, or_else, place_in, place_among, part_in, part_among, count, IsFull, AreFull, IsNormal, replaced, replaced_among, unless_gone, as_branch, without, without_among}
use Rattle.hp_links.proofs.NumberLemmas.{AreDisjoint, AreAmong, contains_nothing, contains_first, contains_later, contains_cases, apart-append, apart_left, apart_right, apart_disjoint}
use Rattle.hp_links.proofs.PlaceLemmas.{at_number, off_number, number_tells, absent_tells, is_number, part_within, part_among_within, part_of_number, place_of_number}

-- ---- normal form

-- a full tree is in normal form
pub normal_from_full : (t : Tree) → IsFull t → IsNormal t
normal_from_full Gone f = tt
normal_from_full (Leaf k cell immediate) f = f
normal_from_full (Branch k order ts) f = f

-- a tree in normal form is nothing, or full
pub normal_cases : (t : Tree) → IsNormal t → (t ≡ Gone) ⊎ IsFull t
normal_cases Gone n = inl refl
normal_cases (Leaf k cell immediate) n = inr n
normal_cases (Branch k order ts) n = inr n

-- a part of a full tree is full
mutual
  pub part_full : (x : ℕ) (t s : Tree) → part_in x t ≡ Some s → IsFull t → IsFull s
  part_full x Gone s e f = absurd f
  part_full x (Leaf k cell immediate) s e f =
      ⊎_elim
      (λ n.
      let g : Some (Leaf k cell immediate) ≡ Some s =
      sym (at_number k x (Some (Leaf k cell immediate)) None n) ∙ e in
      let h : Leaf k cell immediate ≡ s = cc in
      subst IsFull h tt)
      (λ n.
      absurd (let g : None ≡ Some s = sym (off_number k x (Some (Leaf k cell immediate)) None n) ∙ e in cc))
      (cases_eq k x)
  part_full x (Branch k order ts) s e f =
      ⊎_elim
      (λ n.
      let g : Some (Branch k order ts) ≡ Some s =
      sym (at_number k x (Some (Branch k order ts)) (part_among x ts) n) ∙ e in
      let h : Branch k order ts ≡ s = cc in
      subst IsFull h f)
      (λ n.
      part_among_full x ts s (sym (off_number k x (Some (Branch k order ts)) (part_among x ts) n) ∙ e) f.1)
      (cases_eq k x)

  part_among_full : (x : ℕ) (ts : Trees) (s : Tree) → part_among x ts ≡ Some s → AreFull ts → IsFull s
  part_among_full x NoTree s e f = absurd cc
  part_among_full x (With t ts) s e f =
      ⊎_elim
      (λ c.
      let a = number_tells x t c in
      let g : Some a.1 ≡ Some s = sym (ap (λ o. or_else o (part_among x ts)) a.3) ∙ e in
      let h : a.1 ≡ s = cc in
      part_full x t s (a.3 ∙ ap Some h) f.0)
      (λ c.
      part_among_full x ts s (sym (ap (λ o. or_else o (part_among x ts)) (absent_tells x t c).1) ∙ e) f.1)
      (is_number x t)

-- a full tree stays before others
pub kept_full : (t : Tree) (ts : Trees) → IsFull t → unless_gone t ts ≡ With t ts
kept_full Gone ts f = absurd f
kept_full (Leaf k cell immediate) ts f = refl
kept_full (Branch k order us) ts f = refl

-- full trees stay so before others, or as a tree in normal form goes
unless_gone_full : (t : Tree) (ts : Trees) → IsNormal t → AreFull ts → AreFull (unless_gone t ts)
unless_gone_full Gone ts n f = f
unless_gone_full (Leaf k cell immediate) ts n f = (n, f)
unless_gone_full (Branch k order us) ts n f = (n, f)

-- a list of full trees is in normal form, once it is one of two parts or more
as_branch_normal : (k : ℕ) (order : Order) (ts : Trees) → AreFull ts → IsNormal (as_branch k order ts)
as_branch_normal k order NoTree f = tt
as_branch_normal k order (With t NoTree) f = normal_from_full t f.0
as_branch_normal k order (With t (With u ts)) f = (omega arith, f)

-- a list of one full tree or more is full
as_branch_full : (k : ℕ) (order : Order) (ts : Trees) → AreFull ts → 1 ≤ count ts → IsFull (as_branch k order ts)
as_branch_full k order NoTree f l = absurd (omega arith)
as_branch_full k order (With t NoTree) f l = f.0
as_branch_full k order (With t (With u ts)) f l = (omega arith, f)

-- a list of two parts or more stays a list
pub as_branch_many : (k : ℕ) (order : Order) (ts : Trees) → 2 ≤ count ts → as_branch k order ts ≡ Branch k order ts
as_branch_many k order NoTree l = absurd (omega arith)
as_branch_many k order (With t NoTree) l = absurd (omega arith)
as_branch_many k order (With t (With u ts)) l = refl

-- ---- numbers that aren't there

-- nothing is replaced where a number isn't there
mutual
  pub replaced_absent : (x : ℕ) (s t : Tree) → (Contains (numbers t) x → ⊥) → replaced x s t ≡ t
  replaced_absent x s Gone c = refl
  replaced_absent x s (Leaf k cell immediate) c =
      off_number k x _ _ (λ e. c (subst (Contains (k ∷ [])) e (contains_first k [])))
  replaced_absent x s (Branch k order ts) c =
      off_number k x _ _ (λ e. c (subst (Contains (k ∷ numbers_of_all ts)) e (contains_first k (numbers_of_all ts))))
      ∙ ap (Branch k order)
      (replaced_among_absent x s ts (λ h. c (contains_later k x (numbers_of_all ts) h)))

  pub replaced_among_absent : (x : ℕ) (s : Tree) (ts : Trees) → (Contains (numbers_of_all ts) x → ⊥)
      → replaced_among x s ts ≡ ts
  replaced_among_absent x s NoTree c = refl
  replaced_among_absent x s (With t ts) c =
      ap₂ With
      (replaced_absent x s t (λ h. c (Contains-append_left (numbers t) (numbers_of_all ts) x h)))
      (replaced_among_absent x s ts (λ h. c (Contains-append_right (numbers t) (numbers_of_all ts) x h)))

-- a full tree without a number that isn't there stays
mutual
  pub without_absent : (x : ℕ) (t : Tree) → IsFull t → (Contains (numbers t) x → ⊥) → without x t ≡ t
  without_absent x Gone f c = refl
  without_absent x (Leaf k cell immediate) f c =
      off_number k x _ _ (λ e. c (subst (Contains (k ∷ [])) e (contains_first k [])))
  without_absent x (Branch k order ts) f c =
      off_number k x _ _ (λ e. c (subst (Contains (k ∷ numbers_of_all ts)) e (contains_first k (numbers_of_all ts))))
      ∙ (ap (as_branch k order)
      (without_among_absent x ts f.1 (λ h. c (contains_later k x (numbers_of_all ts) h)))
      ∙ as_branch_many k order ts f.0)

  pub without_among_absent : (x : ℕ) (ts : Trees) → AreFull ts → (Contains (numbers_of_all ts) x → ⊥)
      → without_among x ts ≡ ts
  without_among_absent x NoTree f c = refl
  without_among_absent x (With t ts) f c =
      ap₂ unless_gone
      (without_absent x t f.0 (λ h. c (Contains-append_left (numbers t) (numbers_of_all ts) x h)))
      (without_among_absent x ts f.1 (λ h. c (Contains-append_right (numbers t) (numbers_of_all ts) x h)))
      ∙ kept_full t ts f.0

-- ---- a part goes

-- a full tree without a part is in normal form
mutual
  pub without_full : (x : ℕ) (t : Tree) → IsFull t → IsNormal (without x t)
  without_full x Gone f = tt
  without_full x (Leaf k cell immediate) f =
      elim (eqb k x) as (λ b. IsNormal (cond b Gone (Leaf k cell immediate))) [ true ↦ tt | false ↦ tt ]
  without_full x (Branch k order ts) f =
      elim (eqb k x) as (λ b. IsNormal (cond b Gone (as_branch k order (without_among x ts)))) [
        | true ↦ tt
        | false ↦ as_branch_normal k order (without_among x ts) (without_among_full x ts f.1)
      ]

  pub without_among_full : (x : ℕ) (ts : Trees) → AreFull ts → AreFull (without_among x ts)
  without_among_full x NoTree f = tt
  without_among_full x (With t ts) f =
      unless_gone_full (without x t) (without_among x ts) (without_full x t f.0) (without_among_full x ts f.1)

-- a tree in normal form stays so without a part
pub without_normal : (x : ℕ) (t : Tree) → IsNormal t → IsNormal (without x t)
without_normal x t n =
    ⊎_elim (λ e. subst (λ u. IsNormal (without x u)) (sym e) tt) (λ f. without_full x t f) (normal_cases t n)

-- the numbers of a tree before others are its own and theirs
numbers-unless_gone : (t : Tree) (ts : Trees) → numbers_of_all (unless_gone t ts) ≡ numbers t ++ numbers_of_all ts
numbers-unless_gone Gone ts = refl
numbers-unless_gone (Leaf k cell immediate) ts = refl
numbers-unless_gone (Branch k order us) ts = refl

-- a list has no numbers but its own and those of its parts
as_branch_within : (k : ℕ) (order : Order) (ts : Trees)
    → AreAmong (numbers (as_branch k order ts)) (k ∷ numbers_of_all ts)
as_branch_within k order NoTree = λ y c. absurd (contains_nothing y c)
as_branch_within k order (With t NoTree) =
    λ y c. contains_later k y (numbers t ++ []) (Contains-append_left (numbers t) [] y c)
as_branch_within k order (With t (With u ts)) = λ y c. c

-- without a part no numbers are new
mutual
  pub without_within : (x : ℕ) (t : Tree) → AreAmong (numbers (without x t)) (numbers t)
  without_within x Gone = λ y c. c
  without_within x (Leaf k cell immediate) =
      elim (eqb k x) as (λ b. AreAmong (numbers (cond b Gone (Leaf k cell immediate))) (k ∷ [])) [
        | true ↦ λ y c. absurd (contains_nothing y c)
        | false ↦ λ y c. c
      ]
  without_within x (Branch k order ts) =
      elim (eqb k x) as
      (λ b. AreAmong (numbers (cond b Gone (as_branch k order (without_among x ts)))) (k ∷ numbers_of_all ts)) [
        | true ↦ λ y c. absurd (contains_nothing y c)
        | false ↦ λ y c.
            ⊎_elim
            (λ e. subst (Contains (k ∷ numbers_of_all ts)) e (contains_first k (numbers_of_all ts)))
            (λ d. contains_later k y (numbers_of_all ts) (without_among_within x ts y d))
            (contains_cases k y (numbers_of_all (without_among x ts))
            (as_branch_within k order (without_among x ts) y c))
      ]

  pub without_among_within : (x : ℕ) (ts : Trees) → AreAmong (numbers_of_all (without_among x ts)) (numbers_of_all ts)
  without_among_within x NoTree = λ y c. c
  without_among_within x (With t ts) =
      λ y c.
      ⊎_elim
      (λ d. Contains-append_left (numbers t) (numbers_of_all ts) y (without_within x t y d))
      (λ d. Contains-append_right (numbers t) (numbers_of_all ts) y (without_among_within x ts y d))
      (Contains-append_cases (numbers (without x t)) (numbers_of_all (without_among x ts)) y
      (subst (λ ns. Contains ns y) (numbers-unless_gone (without x t) (without_among x ts)) c))

-- the numbers of a list are apart
as_branch_apart : (k : ℕ) (order : Order) (ts : Trees) → AreApart (k ∷ numbers_of_all ts)
    → AreApart (numbers (as_branch k order ts))
as_branch_apart k order NoTree a = tt
as_branch_apart k order (With t NoTree) a = apart_left (numbers t) [] a.1
as_branch_apart k order (With t (With u ts)) a = a

-- without a part the numbers stay apart
mutual
  pub without_apart : (x : ℕ) (t : Tree) → AreApart (numbers t) → AreApart (numbers (without x t))
  without_apart x Gone a = a
  without_apart x (Leaf k cell immediate) a =
      elim (eqb k x) as (λ b. AreApart (numbers (cond b Gone (Leaf k cell immediate)))) [ true ↦ tt | false ↦ a ]
  without_apart x (Branch k order ts) a =
      elim (eqb k x) as (λ b. AreApart (numbers (cond b Gone (as_branch k order (without_among x ts))))) [
        | true ↦ tt
        | false ↦ as_branch_apart k order (without_among x ts)
            (λ c. a.0 (without_among_within x ts k c), without_among_apart x ts a.1)
      ]

  pub without_among_apart : (x : ℕ) (ts : Trees) → AreApart (numbers_of_all ts)
      → AreApart (numbers_of_all (without_among x ts))
  without_among_apart x NoTree a = a
  without_among_apart x (With t ts) a =
      subst AreApart (sym (numbers-unless_gone (without x t) (without_among x ts)))
      (apart-append (numbers (without x t)) (numbers_of_all (without_among x ts))
      (without_apart x t (apart_left (numbers t) (numbers_of_all ts) a))
      (without_among_apart x ts (apart_right (numbers t) (numbers_of_all ts) a))
      (λ y c d.
      apart_disjoint (numbers t) (numbers_of_all ts) a y (without_within x t y c) (without_among_within x ts y d)))

-- ---- another tree in the place of a part

-- there are as many parts as before
pub count-replaced : (x : ℕ) (s : Tree) (ts : Trees) → count (replaced_among x s ts) ≡ count ts
count-replaced x s NoTree = refl
count-replaced x s (With t ts) = ap suc (count-replaced x s ts)

-- a full tree stays so with another full tree in the place of a part
mutual
  pub replaced_full : (x : ℕ) (s t : Tree) → IsFull s → IsFull t → IsFull (replaced x s t)
  replaced_full x s Gone g f = f
  replaced_full x s (Leaf k cell immediate) g f =
      elim (eqb k x) as (λ b. IsFull (cond b s (Leaf k cell immediate))) [ true ↦ g | false ↦ tt ]
  replaced_full x s (Branch k order ts) g f =
      elim (eqb k x) as (λ b. IsFull (cond b s (Branch k order (replaced_among x s ts)))) [
        | true ↦ g
        | false ↦ (subst (λ n. 2 ≤ n) (sym (count-replaced x s ts)) f.0, replaced_among_full x s ts g f.1)
      ]

  pub replaced_among_full : (x : ℕ) (s : Tree) (ts : Trees) → IsFull s → AreFull ts → AreFull (replaced_among x s ts)
  replaced_among_full x s NoTree g f = tt
  replaced_among_full x s (With t ts) g f = (replaced_full x s t g f.0, replaced_among_full x s ts g f.1)

-- a tree in normal form stays so with a full tree in the place of a part
pub replaced_normal : (x : ℕ) (s t : Tree) → IsFull s → IsNormal t → IsNormal (replaced x s t)
replaced_normal x s t g n =
    ⊎_elim (λ e. subst (λ u. IsNormal (replaced x s u)) (sym e) tt)
    (λ f. normal_from_full (replaced x s t) (replaced_full x s t g f)) (normal_cases t n)

-- the numbers are those of the tree and of the part
mutual
  pub replaced_within : (x : ℕ) (s t : Tree) (y : ℕ) → Contains (numbers (replaced x s t)) y
      → Contains (numbers t) y ⊎ Contains (numbers s) y
  replaced_within x s Gone y c = inl c
  replaced_within x s (Leaf k cell immediate) y c =
      ⊎_elim (λ e. inr (subst (λ u. Contains (numbers u) y) (at_number k x s (Leaf k cell immediate) e) c))
      (λ e. inl (subst (λ u. Contains (numbers u) y) (off_number k x s (Leaf k cell immediate) e) c)) (cases_eq k x)
  replaced_within x s (Branch k order ts) y c =
      ⊎_elim
      (λ e. inr (subst (λ u. Contains (numbers u) y) (at_number k x s (Branch k order (replaced_among x s ts)) e) c))
      (λ e.
      ⊎_elim
      (λ f. inl (subst (Contains (k ∷ numbers_of_all ts)) f (contains_first k (numbers_of_all ts))))
      (λ d.
      ⊎_elim (λ h. inl (contains_later k y (numbers_of_all ts) h)) (λ h. inr h) (replaced_among_within x s ts y d))
      (contains_cases k y (numbers_of_all (replaced_among x s ts))
      (subst (λ u. Contains (numbers u) y) (off_number k x s (Branch k order (replaced_among x s ts)) e) c)))
      (cases_eq k x)

  pub replaced_among_within : (x : ℕ) (s : Tree) (ts : Trees) (y : ℕ)
      → Contains (numbers_of_all (replaced_among x s ts)) y → Contains (numbers_of_all ts) y ⊎ Contains (numbers s) y
  replaced_among_within x s NoTree y c = inl c
  replaced_among_within x s (With t ts) y c =
      ⊎_elim
      (λ d.
      ⊎_elim (λ h. inl (Contains-append_left (numbers t) (numbers_of_all ts) y h)) (λ h. inr h)
      (replaced_within x s t y d))
      (λ d.
      ⊎_elim (λ h. inl (Contains-append_right (numbers t) (numbers_of_all ts) y h)) (λ h. inr h)
      (replaced_among_within x s ts y d))
      (Contains-append_cases (numbers (replaced x s t)) (numbers_of_all (replaced_among x s ts)) y c)

-- they are apart, where those of the part are apart and not among those of the tree
module _ (x : ℕ) (s : Tree) (own : AreApart (numbers s)) where
  mutual
    pub replaced_apart : (t : Tree) → AreApart (numbers t) → AreDisjoint (numbers t) (numbers s)
        → AreApart (numbers (replaced x s t))
    replaced_apart Gone a d = a
    replaced_apart (Leaf k cell immediate) a d =
        elim (eqb k x) as (λ b. AreApart (numbers (cond b s (Leaf k cell immediate)))) [ true ↦ own | false ↦ a ]
    replaced_apart (Branch k order ts) a d =
        elim (eqb k x) as (λ b. AreApart (numbers (cond b s (Branch k order (replaced_among x s ts))))) [
          | true ↦ own
          | false ↦ (
            λ c.
                ⊎_elim a.0 (λ h. d k (contains_first k (numbers_of_all ts)) h) (replaced_among_within x s ts k c),
            replaced_among_apart ts a.1 (λ y g h. d y (contains_later k y (numbers_of_all ts) g) h),
          )
        ]

    pub replaced_among_apart : (ts : Trees) → AreApart (numbers_of_all ts)
        → AreDisjoint (numbers_of_all ts) (numbers s) → AreApart (numbers_of_all (replaced_among x s ts))
    replaced_among_apart NoTree a d = a
    replaced_among_apart (With t ts) a d =
        let ns = numbers t in
        let ms = numbers_of_all ts in
        let first = apart_left ns ms a in
        let rest = apart_right ns ms a in
        let both = apart_disjoint ns ms a in
        ⊎_elim
        (λ c.
        let same = replaced_among_absent x s ts (λ h. both x c h) in
        subst (λ us. AreApart (numbers (replaced x s t) ++ numbers_of_all us)) (sym same)
        (apart-append (numbers (replaced x s t)) ms
        (replaced_apart t first (λ y g h. d y (Contains-append_left ns ms y g) h)) rest
        (λ y g h.
        ⊎_elim (λ i. both y i h) (λ i. d y (Contains-append_right ns ms y h) i) (replaced_within x s t y g))))
        (λ c.
        subst (λ u. AreApart (numbers u ++ numbers_of_all (replaced_among x s ts))) (sym (replaced_absent x s t c))
        (apart-append ns (numbers_of_all (replaced_among x s ts)) first
        (replaced_among_apart ts rest (λ y g h. d y (Contains-append_right ns ms y g) h))
        (λ y g h.
        ⊎_elim (λ i. both y g i) (λ i. d y (Contains-append_left ns ms y g) i) (replaced_among_within x s ts y h))))
        (is_number x t)

-- ---- the new part

-- the new part has its number's place, which is that of the old part, where its number is not among those of the tree
module _ (x : ℕ) (s : Tree) (f : ℕ) (number : number_of s ≡ Some f) where
  mutual
    pub replaced_part : (t u : Tree) → (Contains (numbers t) f → ⊥) → part_in x t ≡ Some u
        → (part_in f (replaced x s t) ≡ Some s) × (place_in f (replaced x s t) ≡ place_in x t)
    replaced_part Gone u c e = absurd cc
    replaced_part (Leaf k cell immediate) u c e =
        ⊎_elim
        (λ n. (
          ap (part_in f) (at_number k x s (Leaf k cell immediate) n) ∙ part_of_number f s number,
          ap (place_in f) (at_number k x s (Leaf k cell immediate) n)
              ∙ (place_of_number f s number ∙ sym (at_number k x (Some []) None n)),
        ))
        (λ n.
        absurd (let g : None ≡ Some u = sym (off_number k x (Some (Leaf k cell immediate)) None n) ∙ e in cc))
        (cases_eq k x)
    replaced_part (Branch k order ts) u c e =
        ⊎_elim
        (λ n. (
          ap (part_in f) (at_number k x s (Branch k order (replaced_among x s ts)) n) ∙ part_of_number f s number,
          ap (place_in f) (at_number k x s (Branch k order (replaced_among x s ts)) n)
              ∙ (place_of_number f s number ∙ sym (at_number k x (Some []) (place_among x 0 ts) n)),
        ))
        (λ n.
        let m : k ≡ f → ⊥ =
        λ g. c (subst (Contains (k ∷ numbers_of_all ts)) g (contains_first k (numbers_of_all ts))) in
        let r = replaced_among_part 0 ts u (λ h. c (contains_later k f (numbers_of_all ts) h))
        (sym (off_number k x (Some (Branch k order ts)) (part_among x ts) n) ∙ e) in (
          ap (part_in f) (off_number k x s (Branch k order (replaced_among x s ts)) n)
              ∙ (off_number k f _ _ m ∙ r.0),
          ap (place_in f) (off_number k x s (Branch k order (replaced_among x s ts)) n)
              ∙ (off_number k f _ _ m ∙ (r.1 ∙ sym (off_number k x (Some []) (place_among x 0 ts) n))),
        )) (cases_eq k x)

    pub replaced_among_part : (i : ℕ) (ts : Trees) (u : Tree) → (Contains (numbers_of_all ts) f → ⊥)
        → part_among x ts ≡ Some u
        → (part_among f (replaced_among x s ts) ≡ Some s)
        × (place_among f i (replaced_among x s ts) ≡ place_among x i ts)
    replaced_among_part i NoTree u c e = absurd cc
    replaced_among_part i (With t ts) u c e =
        let others = replaced_among x s ts in
        ⊎_elim
        (λ d.
        let a = number_tells x t d in
        let r = replaced_part t a.1 (λ h. c (Contains-append_left (numbers t) (numbers_of_all ts) f h)) a.3 in (
          ap (λ o. or_else o (part_among f others)) r.0,
          ap (λ o. or_else (option_map (λ p. i ∷ p) o) (place_among f (suc i) others)) (r.1 ∙ a.2)
              ∙ sym (ap (λ o. or_else (option_map (λ p. i ∷ p) o) (place_among x (suc i) ts)) a.2),
        ))
        (λ d.
        let a = absent_tells x t d in
        let b = absent_tells f t (λ h. c (Contains-append_left (numbers t) (numbers_of_all ts) f h)) in
        let same = replaced_absent x s t d in
        let r = replaced_among_part (suc i) ts u
        (λ h. c (Contains-append_right (numbers t) (numbers_of_all ts) f h))
        (sym (ap (λ o. or_else o (part_among x ts)) a.1) ∙ e) in (
          ap (λ o. or_else o (part_among f others)) (ap (part_in f) same ∙ b.1) ∙ r.0,
          ap (λ o. or_else (option_map (λ p. i ∷ p) o) (place_among f (suc i) others)) (ap (place_in f) same ∙ b.0)
              ∙ (r.1 ∙ sym (ap (λ o. or_else (option_map (λ p. i ∷ p) o) (place_among x (suc i) ts)) a.0)),
        )) (is_number x t)

-- ---- a part goes from its list

-- before others there are more by one, or as many
count-unless_gone : (t : Tree) (ts : Trees) → count ts ≤ count (unless_gone t ts)
count-unless_gone Gone ts = omega arith
count-unless_gone (Leaf k cell immediate) ts = omega arith
count-unless_gone (Branch k order us) ts = omega arith

-- of trees whose numbers are apart at most one goes
pub count-without : (x : ℕ) (ts : Trees) → AreFull ts → AreApart (numbers_of_all ts)
    → count ts ≤ suc (count (without_among x ts))
count-without x NoTree f a = omega arith
count-without x (With t ts) f a =
    ⊎_elim
    (λ c.
    let same = without_among_absent x ts f.1 (λ h. apart_disjoint (numbers t) (numbers_of_all ts) a x c h) in
    let l = count-unless_gone (without x t) ts in
    let e = ap (λ us. count (unless_gone (without x t) us)) same in
    omega arith)
    (λ c.
    let l = count-without x ts f.1 (apart_right (numbers t) (numbers_of_all ts) a) in
    let e = ap (λ u. count (unless_gone u (without_among x ts))) (without_absent x t f.0 c)
    ∙ ap count (kept_full t (without_among x ts) f.0) in
    omega arith)
    (is_number x t)

-- what is left of a list without a part below it is full
pub left_full : (x k : ℕ) (order : Order) (ts : Trees) → IsFull (Branch k order ts) → AreApart (k ∷ numbers_of_all ts)
    → Contains (numbers_of_all ts) x → IsFull (without x (Branch k order ts))
left_full x k order ts f a c =
    let n : k ≡ x → ⊥ = λ e. a.0 (subst (Contains (numbers_of_all ts)) (sym e) c) in
    let l = count-without x ts f.1 a.1 in
    let m = f.0 in
    subst IsFull (sym (off_number k x Gone (as_branch k order (without_among x ts)) n))
    (as_branch_full k order (without_among x ts) (without_among_full x ts f.1) (omega arith))

-- a tree without a part below a list is the tree with what is left of the list in its place
module _ (x q : ℕ) (order : Order) (ts : Trees) (c : Contains (numbers_of_all ts) x)
    (left : IsFull (without x (Branch q order ts))) where
  mutual
    pub without_below : (t : Tree) → part_in q t ≡ Some (Branch q order ts) → IsFull t → AreApart (numbers t)
        → without x t ≡ replaced q (without x (Branch q order ts)) t
    without_below Gone e f a = refl
    without_below (Leaf k cell immediate) e f a =
        ⊎_elim
        (λ n.
        absurd
        (let g : Some (Leaf k cell immediate) ≡ Some (Branch q order ts) =
        sym (at_number k q (Some (Leaf k cell immediate)) None n) ∙ e in cc))
        (λ n.
        absurd
        (let g : None ≡ Some (Branch q order ts) = sym (off_number k q (Some (Leaf k cell immediate)) None n) ∙ e in
        cc))
        (cases_eq k q)
    without_below (Branch k o us) e f a =
        let r = without x (Branch q order ts) in
        ⊎_elim
        (λ n.
        let g : Some (Branch k o us) ≡ Some (Branch q order ts) =
        sym (at_number k q (Some (Branch k o us)) (part_among q us) n) ∙ e in
        let h : Branch k o us ≡ Branch q order ts = cc in
        ap (without x) h ∙ sym (at_number k q r (Branch k o (replaced_among q r us)) n))
        (λ n.
        let there = sym (off_number k q (Some (Branch k o us)) (part_among q us) n) ∙ e in
        let d = part_among_within q us (Branch q order ts) there x (contains_later q x (numbers_of_all ts) c) in
        let m : k ≡ x → ⊥ = λ h. a.0 (subst (Contains (numbers_of_all us)) (sym h) d) in
        off_number k x Gone (as_branch k o (without_among x us)) m
        ∙ (ap (as_branch k o) (without_among_below us there f.1 a.1)
        ∙ (as_branch_many k o (replaced_among q r us) (subst (λ j. 2 ≤ j) (sym (count-replaced q r us)) f.0)
        ∙ sym (off_number k q r (Branch k o (replaced_among q r us)) n))))
        (cases_eq k q)

    without_among_below : (us : Trees) → part_among q us ≡ Some (Branch q order ts) → AreFull us
        → AreApart (numbers_of_all us)
        → without_among x us ≡ replaced_among q (without x (Branch q order ts)) us
    without_among_below NoTree e f a = refl
    without_among_below (With t us) e f a =
        let r = without x (Branch q order ts) in
        let both = apart_disjoint (numbers t) (numbers_of_all us) a in
        ⊎_elim
        (λ d.
        let p = number_tells q t d in
        let g : Some p.1 ≡ Some (Branch q order ts) = sym (ap (λ o. or_else o (part_among q us)) p.3) ∙ e in
        let h : p.1 ≡ Branch q order ts = cc in
        let there = p.3 ∙ ap Some h in
        let i = part_within q t (Branch q order ts) there x (contains_later q x (numbers_of_all ts) c) in
        ap₂ unless_gone
        (without_below t there f.0 (apart_left (numbers t) (numbers_of_all us) a))
        (without_among_absent x us f.1 (λ j. both x i j))
        ∙ (kept_full (replaced q r t) us (replaced_full q r t left f.0)
        ∙ ap (With (replaced q r t)) (sym (replaced_among_absent q r us (λ j. both q d j)))))
        (λ d.
        let there = sym (ap (λ o. or_else o (part_among q us)) (absent_tells q t d).1) ∙ e in
        let i = part_among_within q us (Branch q order ts) there x (contains_later q x (numbers_of_all ts) c) in
        ap₂ unless_gone
        (without_absent x t f.0 (λ j. both x j i))
        (without_among_below us there f.1 (apart_right (numbers t) (numbers_of_all us) a))
        ∙ (kept_full t (replaced_among q r us) f.0
        ∙ ap (λ u. With u (replaced_among q r us)) (sym (replaced_absent q r t d))))
        (is_number q t)
