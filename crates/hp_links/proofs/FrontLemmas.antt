-- The part below which all first tasks stand.
use Rattle.std.proofs.Common.{◌≡◌, ℕ, Bool, [], ◌∷◌, ◌++◌, Some, None, refl, sym, ap, ◌∙◌, subst, arith, ◌⊎◌, inl, inr, ⊎_elim}
use Rattle.std.specs.List.{Contains}
use Rattle.std.proofs.lemmas.Bool.{cases_eq}
use Rattle.std.proofs.lemmas.List.Elements.{Contains-append_left, Contains-append_right}
use Rattle.hp_links.specs.declared.entry.Order.{Order}
use Rattle.hp_links.specs.declared.entry.Order.TheVariants.{Ordered, Unordered}
use Rattle.hp_links.specs.Labelled.{Tree, Trees, Gone, Leaf, Branch, NoTree, With, numbers, numbers_of_all, number_of, AreApart, or_else, part_in, part_among, IsFull, AreFull, leads, front_of, replaced, replaced_among, unless_gone, as_branch, without, without_among}
use Rattle.hp_links.proofs.NumberLemmas.{contains_first, contains_later, apart_left, apart_disjoint}
use Rattle.hp_links.proofs.PlaceLemmas.{at_number, off_number, number_tells, absent_tells, is_number, part_among_within}
use Rattle.hp_links.proofs.ChangeLemmas.{replaced_absent, without_absent, kept_full, left_full, without_below}

-- the front is a number of the tree
pub front_there : (t : Tree) (f : ℕ) → front_of t ≡ Some f → Contains (numbers t) f
front_there Gone f e = absurd cc
front_there (Leaf k cell immediate) f e = let g : k ≡ f = cc in subst (Contains (k ∷ [])) g (contains_first k [])
front_there (Branch k Ordered NoTree) f e = absurd cc
front_there (Branch k Ordered (With t ts)) f e =
    contains_later k f (numbers t ++ numbers_of_all ts)
    (Contains-append_left (numbers t) (numbers_of_all ts) f (front_there t f e))
front_there (Branch k Unordered ts) f e =
    let g : k ≡ f = cc in
    subst (Contains (k ∷ numbers_of_all ts)) g (contains_first k (numbers_of_all ts))

-- a full tree has a front
pub front_full : (t : Tree) → IsFull t → (f : ℕ) × (front_of t ≡ Some f)
front_full Gone h = absurd h
front_full (Leaf k cell immediate) h = (k, refl)
front_full (Branch k Ordered NoTree) h = absurd (let l = h.0 in omega arith)
front_full (Branch k Ordered (With t ts)) h = front_full t h.1.0
front_full (Branch k Unordered ts) h = (k, refl)

-- the first tasks of a tree are those of the part at its front
pub front_leads : (t : Tree) (f : ℕ) → AreApart (numbers t) → front_of t ≡ Some f
    → (s : Tree) × (part_in f t ≡ Some s) × (leads t ≡ leads s) × (number_of s ≡ Some f)
front_leads Gone f a e = absurd cc
front_leads (Leaf k cell immediate) f a e =
    let g : k ≡ f = cc in
    (Leaf k cell immediate, at_number k f _ _ g, refl, e)
front_leads (Branch k Ordered NoTree) f a e = absurd cc
front_leads (Branch k Ordered (With t ts)) f a e =
    let r = front_leads t f (apart_left (numbers t) (numbers_of_all ts) a.1) e in
    let c = Contains-append_left (numbers t) (numbers_of_all ts) f (front_there t f e) in
    let n : k ≡ f → ⊥ = λ g. a.0 (subst (Contains (numbers t ++ numbers_of_all ts)) (sym g) c) in
    (r.0, off_number k f _ _ n ∙ ap (λ o. or_else o (part_among f ts)) r.1, r.2, r.3)
front_leads (Branch k Unordered ts) f a e =
    let g : k ≡ f = cc in
    (Branch k Unordered ts, at_number k f _ _ g, refl, e)

-- ---- another tree in the place of a part

-- the front of a tree is that of a part, and stays so with another part; or it isn't in the part, and stays
abbrev pub FrontStays : Tree → Tree → Tree → Tree → Type 0
FrontStays t s new r =
    ((front_of t ≡ front_of s) × (front_of new ≡ front_of r))
    ⊎ ((front_of new ≡ front_of t) × ((f : ℕ) → front_of t ≡ Some f → Contains (numbers s) f → ⊥))

pub front_replaced : (q : ℕ) (r t s : Tree) → part_in q t ≡ Some s → AreApart (numbers t)
    → FrontStays t s (replaced q r t) r
front_replaced q r Gone s e a = absurd cc
front_replaced q r (Leaf k cell immediate) s e a =
    ⊎_elim
    (λ n.
    let g : Some (Leaf k cell immediate) ≡ Some s =
    sym (at_number k q (Some (Leaf k cell immediate)) None n) ∙ e in
    let h : Leaf k cell immediate ≡ s = cc in
    inl (ap front_of h, ap front_of (at_number k q r (Leaf k cell immediate) n)))
    (λ n. absurd (let g : None ≡ Some s = sym (off_number k q (Some (Leaf k cell immediate)) None n) ∙ e in cc))
    (cases_eq k q)
front_replaced q r (Branch k Ordered NoTree) s e a =
    ⊎_elim
    (λ n.
    let g : Some (Branch k Ordered NoTree) ≡ Some s =
    sym (at_number k q (Some (Branch k Ordered NoTree)) None n) ∙ e in
    let h : Branch k Ordered NoTree ≡ s = cc in
    inl (ap front_of h, ap front_of (at_number k q r (Branch k Ordered NoTree) n)))
    (λ n. absurd (let g : None ≡ Some s = sym (off_number k q (Some (Branch k Ordered NoTree)) None n) ∙ e in cc))
    (cases_eq k q)
front_replaced q r (Branch k Ordered (With t ts)) s e a =
    let all = With t ts in
    let others = replaced_among q r all in
    ⊎_elim
    (λ n.
    let g : Some (Branch k Ordered all) ≡ Some s =
    sym (at_number k q (Some (Branch k Ordered all)) (part_among q all) n) ∙ e in
    let h : Branch k Ordered all ≡ s = cc in
    inl (ap front_of h, ap front_of (at_number k q r (Branch k Ordered others) n)))
    (λ n.
    let new = ap front_of (off_number k q r (Branch k Ordered others) n) in
    let there = sym (off_number k q (Some (Branch k Ordered all)) (part_among q all) n) ∙ e in
    ⊎_elim
    (λ c.
    let p = number_tells q t c in
    let g : Some p.1 ≡ Some s = sym (ap (λ o. or_else o (part_among q ts)) p.3) ∙ there in
    let h : p.1 ≡ s = cc in
    ⊎_elim (λ i. inl (i.0, new ∙ i.1)) (λ i. inr (new ∙ i.0, i.1))
    (front_replaced q r t s (p.3 ∙ ap Some h) (apart_left (numbers t) (numbers_of_all ts) a.1)))
    (λ c.
    let later = sym (ap (λ o. or_else o (part_among q ts)) (absent_tells q t c).1) ∙ there in
    inr (
      new ∙ ap front_of (replaced_absent q r t c),
      λ f h i.
          apart_disjoint (numbers t) (numbers_of_all ts) a.1 f (front_there t f h)
          (part_among_within q ts s later f i),
    )) (is_number q t))
    (cases_eq k q)
front_replaced q r (Branch k Unordered ts) s e a =
    ⊎_elim
    (λ n.
    let g : Some (Branch k Unordered ts) ≡ Some s =
    sym (at_number k q (Some (Branch k Unordered ts)) (part_among q ts) n) ∙ e in
    let h : Branch k Unordered ts ≡ s = cc in
    inl (ap front_of h, ap front_of (at_number k q r (Branch k Unordered (replaced_among q r ts)) n)))
    (λ n.
    let there = sym (off_number k q (Some (Branch k Unordered ts)) (part_among q ts) n) ∙ e in
    inr (
      ap front_of (off_number k q r (Branch k Unordered (replaced_among q r ts)) n),
      λ f h i.
          let g : k ≡ f = cc in
          a.0 (subst (Contains (numbers_of_all ts)) (sym g) (part_among_within q ts s there f i)),
    ))
    (cases_eq k q)

-- with another tree in the place of a task the front is that of the tree, where the task was the front, else it stays
pub front_expanded : (x cell : ℕ) (immediate : Bool) (r t : Tree) → part_in x t ≡ Some (Leaf x cell immediate)
    → AreApart (numbers t)
    → (front_of t ≡ Some x → front_of (replaced x r t) ≡ front_of r)
    × ((front_of t ≡ Some x → ⊥) → front_of (replaced x r t) ≡ front_of t)
front_expanded x cell immediate r t e a =
    ⊎_elim (λ h. (λ i. h.1, λ i. absurd (i h.0)))
    (λ h. (λ i. absurd (h.1 x i (contains_first x [])), λ i. h.0))
    (front_replaced x r t (Leaf x cell immediate) e a)

-- ---- a part goes from its list

-- one of some trees is this task
abbrev pub HasLeaf : ℕ → ℕ → Bool → Trees → Type 0
HasLeaf x cell immediate NoTree = ⊥
HasLeaf x cell immediate (With t ts) = (t ≡ Leaf x cell immediate) ⊎ HasLeaf x cell immediate ts

-- the number of a task that is one of some trees is among theirs
pub leaf_number : (x cell : ℕ) (immediate : Bool) (ts : Trees) → HasLeaf x cell immediate ts
    → Contains (numbers_of_all ts) x
leaf_number x cell immediate NoTree h = absurd h
leaf_number x cell immediate (With t ts) h =
    ⊎_elim
    (λ e.
    Contains-append_left (numbers t) (numbers_of_all ts) x
    (subst (λ u. Contains (numbers u) x) (sym e) (contains_first x [])))
    (λ i. Contains-append_right (numbers t) (numbers_of_all ts) x (leaf_number x cell immediate ts i)) h

-- the front of a list without a later part stays
front_of_rest : (q : ℕ) (t : Tree) (ts : Trees) → front_of (as_branch q Ordered (With t ts)) ≡ front_of t
front_of_rest q t NoTree = refl
front_of_rest q t (With u ts) = refl

module _ (x q cell : ℕ) (immediate : Bool) where
  -- the front of a list stays without a task of it that isn't the front, unless it is the list
  front_of_left : (order : Order) (ts : Trees) → HasLeaf x cell immediate ts → AreFull ts
      → AreApart (q ∷ numbers_of_all ts)
      → (front_of (Branch q order ts) ≡ Some x → ⊥) → (front_of (Branch q order ts) ≡ Some q → ⊥)
      → front_of (without x (Branch q order ts)) ≡ front_of (Branch q order ts)
  front_of_left Unordered ts h f a n m = absurd (m refl)
  front_of_left Ordered NoTree h f a n m = absurd h
  front_of_left Ordered (With t ts) h f a n m =
      let c = leaf_number x cell immediate (With t ts) h in
      let k : q ≡ x → ⊥ = λ e. a.0 (subst (Contains (numbers t ++ numbers_of_all ts)) (sym e) c) in
      ⊎_elim (λ e. absurd (n (ap front_of e)))
      (λ i.
      let d = leaf_number x cell immediate ts i in
      let same = without_absent x t f.0 (λ j. apart_disjoint (numbers t) (numbers_of_all ts) a.1 x j d) in
      ap front_of (off_number q x Gone (as_branch q Ordered (without_among x (With t ts))) k)
      ∙ (ap (λ u. front_of (as_branch q Ordered (unless_gone u (without_among x ts)))) same
      ∙ (ap (λ us. front_of (as_branch q Ordered us)) (kept_full t (without_among x ts) f.0)
      ∙ front_of_rest q t (without_among x ts)))) h

  -- without a task of a list the front is that of what is left of the list, where the task or the list was the front,
  -- else it stays
  pub front_finished : (order : Order) (ts : Trees) (t : Tree) → part_in q t ≡ Some (Branch q order ts)
      → HasLeaf x cell immediate ts → IsFull t → IsFull (Branch q order ts) → AreApart (numbers t)
      → AreApart (q ∷ numbers_of_all ts)
      → (front_of t ≡ Some x → front_of (without x t) ≡ front_of (without x (Branch q order ts)))
      × (front_of t ≡ Some q → front_of (without x t) ≡ front_of (without x (Branch q order ts)))
      × ((front_of t ≡ Some x → ⊥) → (front_of t ≡ Some q → ⊥) → front_of (without x t) ≡ front_of t)
  front_finished order ts t e h f g a b =
      let c = leaf_number x cell immediate ts h in
      let r = without x (Branch q order ts) in
      let is = ap front_of (without_below x q order ts c (left_full x q order ts g b c) t e f a) in
      ⊎_elim
      (λ i. (
        λ j. is ∙ i.1,
        λ j. is ∙ i.1,
        λ j k.
            is
            ∙ (i.1
            ∙ (front_of_left order ts h g.1 b (λ l. j (i.0 ∙ l)) (λ l. k (i.0 ∙ l)) ∙ sym i.0)),
      ))
      (λ i. (
        λ j. absurd (i.1 x j (contains_later q x (numbers_of_all ts) c)),
        λ j. absurd (i.1 q j (contains_first q (numbers_of_all ts))),
        λ j k. is ∙ i.0,
      ))
      (front_replaced q r t (Branch q order ts) e a)
