-- The networks that numbered trees stand for.
use Rattle.std.proofs.Common.{◌≡◌, ℕ, ◌+◌, ◌≤◌, zero, suc, true, false, List, [], ◌∷◌, ◌++◌, Some, None, refl, sym, ap, ap₂, ◌∙◌, subst, arith, ⊎_elim}
use Rattle.std.specs.List.{Contains}
use Rattle.std.proofs.lemmas.Bool.{cases_eq}
use Rattle.hp_syntax.specs.Networks as plain
use Rattle.hp_syntax.specs.Networks.{Network, Networks, Place}
use Rattle.hp_syntax.specs.Terms.{Term}
use Rattle.hp_laws.proofs.NetworkLemmas.{IsInForm, AreInForm, has_more, normal_from_form, normal_parts_from_form}
use Rattle.hp_links.specs.declared.entry.Order.{Order}
use Rattle.hp_links.specs.declared.entry.Order.TheVariants.{Ordered, Unordered}
use Rattle.hp_links.specs.Labelled.{Tree, Trees, Gone, Leaf, Branch, NoTree, With, listed, network, networks, numbers, numbers_of_all, number_of, AreApart, place_in, place_among, part_in, part_among, count, IsFull, AreFull, IsNormal, replaced, replaced_among, unless_gone, as_branch, without, without_among}
use Rattle.hp_links.proofs.NumberLemmas.{apart_left, apart_right, apart_disjoint}
use Rattle.hp_links.proofs.PlaceLemmas.{at_number, off_number, part_tells, IsAt, place_among_parts, place_among_at, part_among_at, number_at}
use Rattle.hp_links.proofs.ChangeLemmas.{normal_cases, replaced_absent, replaced_among_absent, without_absent, without_among_absent}

-- ---- lists in order or not

-- a list is not empty
pub some_listed : (order : Order) (ns : Networks) → plain.is_empty (listed order ns) ≡ false
some_listed Ordered ns = refl
some_listed Unordered ns = refl

-- the normal form of a list is that of its parts
pub normal-listed : (order : Order) (ns : Networks)
    → plain.normal (listed order ns) ≡ plain.as_list (listed order) (plain.normal_parts ns)
unfolding plain.normal
normal-listed Ordered ns = refl
normal-listed Unordered ns = refl

-- a part of a list is changed among its parts
pub with_part-listed : (order : Order) (ns : Networks) (i : ℕ) (p : Place) (x : Network)
    → plain.with_part (listed order ns) (i ∷ p) x ≡ listed order (plain.with_nth_part ns i p x)
unfolding plain.with_part
with_part-listed Ordered ns i p x = refl
with_part-listed Unordered ns i p x = refl

-- a part of a list is a part of its parts
pub part_at-listed : (order : Order) (ns : Networks) (i : ℕ) (p : Place)
    → plain.part_at (listed order ns) (i ∷ p) ≡ plain.nth_part_at ns i p
unfolding plain.part_at
part_at-listed Ordered ns i p = refl
part_at-listed Unordered ns i p = refl

-- at its top a network is changed as a whole
pub with_part-top : (n x : Network) → plain.with_part n [] x ≡ x
unfolding plain.with_part
with_part-top n x = refl

-- at its top stands the whole network
pub part_at-top : (n : Network) → plain.part_at n [] ≡ Some n
unfolding plain.part_at
part_at-top n = refl

-- the normal form of nothing is nothing
normal-empty : plain.normal plain.Empty ≡ plain.Empty
unfolding plain.normal
normal-empty = refl

-- a list of more parts than one, in normal form, is in normal form
list_in_form : (order : Order) (ns : Networks) → has_more ns ≡ true → AreInForm ns → IsInForm (listed order ns)
list_in_form Ordered ns m h = (m, h)
list_in_form Unordered ns m h = (m, h)

-- an empty part of parts is left out
unless_empty-some : (n : Network) (ns : Networks) → plain.is_empty n ≡ false → plain.unless_empty n ns ≡ plain.And n ns
unless_empty-some n ns e = rw e refl

module _ (terms : List Term) where
  -- ---- normal form

  -- as many networks as trees
  has_more-networks : (ts : Trees) → 2 ≤ count ts → has_more (networks terms ts) ≡ true
  has_more-networks NoTree l = absurd (omega arith)
  has_more-networks (With t NoTree) l = absurd (omega arith)
  has_more-networks (With t (With u ts)) l = refl

  -- a full tree is a network in normal form that isn't empty
  mutual
    pub network_in_form : (t : Tree) → IsFull t
        → (plain.is_empty (network terms t) ≡ false) × IsInForm (network terms t)
    network_in_form Gone f = absurd f
    network_in_form (Leaf k cell immediate) f = (refl, tt)
    network_in_form (Branch k order ts) f = (
      some_listed order (networks terms ts),
      list_in_form order (networks terms ts) (has_more-networks ts f.0) (networks_in_form ts f.1),
    )

    pub networks_in_form : (ts : Trees) → AreFull ts → AreInForm (networks terms ts)
    networks_in_form NoTree f = tt
    networks_in_form (With t ts) f =
        let h = network_in_form t f.0 in
        (h.0, h.1, networks_in_form ts f.1)

  -- a tree in normal form is a network in normal form
  pub network_form : (t : Tree) → IsNormal t → IsInForm (network terms t)
  network_form t n =
      ⊎_elim (λ e. subst (λ u. IsInForm (network terms u)) (sym e) tt) (λ f. (network_in_form t f).1)
      (normal_cases t n)

  -- so its normal form is the network
  pub normal-network : (t : Tree) → IsNormal t → plain.normal (network terms t) ≡ network terms t
  normal-network t n = normal_from_form (network terms t) (network_form t n)

  -- a network is empty where the tree is nothing
  pub is_empty-gone : (t : Tree) → number_of t ≡ None → plain.is_empty (network terms t) ≡ true
  is_empty-gone Gone e = refl
  is_empty-gone (Leaf k cell immediate) e = absurd cc
  is_empty-gone (Branch k order ts) e = absurd cc

  -- and nowhere else
  pub is_empty-some : (t : Tree) (f : ℕ) → number_of t ≡ Some f → plain.is_empty (network terms t) ≡ false
  is_empty-some Gone f e = absurd cc
  is_empty-some (Leaf k cell immediate) f e = refl
  is_empty-some (Branch k order ts) f e = some_listed order (networks terms ts)

  -- ---- changes

  -- a tree before others is its network before theirs, unless it is empty
  networks-unless_gone : (t : Tree) (ts : Trees)
      → networks terms (unless_gone t ts) ≡ plain.unless_empty (network terms t) (networks terms ts)
  networks-unless_gone Gone ts = refl
  networks-unless_gone (Leaf k cell immediate) ts = refl
  networks-unless_gone (Branch k order us) ts =
      sym (unless_empty-some (listed order (networks terms us)) (networks terms ts)
      (some_listed order (networks terms us)))

  -- a list without empty parts and without lists of one part is that of their networks
  network-as_branch : (k : ℕ) (order : Order) (ts : Trees)
      → network terms (as_branch k order ts) ≡ plain.as_list (listed order) (networks terms ts)
  network-as_branch k order NoTree = refl
  network-as_branch k order (With t NoTree) = refl
  network-as_branch k order (With t (With u ts)) = refl

  -- without a part a full tree is the normal form of its network without it
  mutual
    unfolding plain.normal plain.with_part

    pub network-without_full : (x : ℕ) (t : Tree) (p : Place) → IsFull t → AreApart (numbers t)
        → place_in x t ≡ Some p
        → network terms (without x t) ≡ plain.normal (plain.with_part (network terms t) p plain.Empty)
    network-without_full x Gone p f a e = absurd f
    network-without_full x (Leaf k cell immediate) p f a e =
        ⊎_elim
        (λ n.
        let g : Some [] ≡ Some p = sym (at_number k x (Some []) None n) ∙ e in
        let h : [] ≡ p = cc in
        ap (network terms) (at_number k x Gone (Leaf k cell immediate) n)
        ∙ (sym normal-empty
        ∙ (sym (ap plain.normal (with_part-top (network terms (Leaf k cell immediate)) plain.Empty))
        ∙ ap (λ q. plain.normal (plain.with_part (network terms (Leaf k cell immediate)) q plain.Empty)) h)))
        (λ n. absurd (let g : None ≡ Some p = sym (off_number k x (Some []) None n) ∙ e in cc)) (cases_eq k x)
    network-without_full x (Branch k order ts) p f a e =
        let net = network terms (Branch k order ts) in
        ⊎_elim
        (λ n.
        let g : Some [] ≡ Some p = sym (at_number k x (Some []) (place_among x 0 ts) n) ∙ e in
        let h : [] ≡ p = cc in
        ap (network terms) (at_number k x Gone (as_branch k order (without_among x ts)) n)
        ∙ (sym normal-empty
        ∙ (sym (ap plain.normal (with_part-top net plain.Empty))
        ∙ ap (λ q. plain.normal (plain.with_part net q plain.Empty)) h)))
        (λ n.
        let r = place_among_parts x 0 ts p (sym (off_number k x (Some []) (place_among x 0 ts) n) ∙ e) in
        let z : r.0 ≡ 0 + r.0 = omega arith in
        let same : r.0 ∷ r.1 ≡ p = ap (λ i. i ∷ r.1) z ∙ sym r.3 in
        ap (network terms) (off_number k x Gone (as_branch k order (without_among x ts)) n)
        ∙ (network-as_branch k order (without_among x ts)
        ∙ (ap (plain.as_list (listed order)) (networks-without_full x ts r.0 r.1 r.2 f.1 a.1 r.4)
        ∙ (sym (normal-listed order (plain.with_nth_part (networks terms ts) r.0 r.1 plain.Empty))
        ∙ (ap plain.normal (sym (with_part-listed order (networks terms ts) r.0 r.1 plain.Empty))
        ∙ ap (λ q. plain.normal (plain.with_part net q plain.Empty)) same)))))
        (cases_eq k x)

    pub networks-without_full : (x : ℕ) (ts : Trees) (j : ℕ) (q : Place) (s : Tree) → AreFull ts
        → AreApart (numbers_of_all ts) → IsAt x ts j q s
        → networks terms (without_among x ts)
        ≡ plain.normal_parts (plain.with_nth_part (networks terms ts) j q plain.Empty)
    networks-without_full x NoTree j q s f a h = absurd h
    networks-without_full x (With t ts) zero q s f a h =
        let c = (part_tells x t s h.1).2 in
        let same =
        without_among_absent x ts f.1 (λ d. apart_disjoint (numbers t) (numbers_of_all ts) a x c d) in
        ap (λ us. networks terms (unless_gone (without x t) us)) same
        ∙ (networks-unless_gone (without x t) ts
        ∙ ap₂ plain.unless_empty
        (network-without_full x t q f.0 (apart_left (numbers t) (numbers_of_all ts) a) h.0)
        (sym (normal_parts_from_form (networks terms ts) (networks_in_form ts f.1))))
    networks-without_full x (With t ts) (suc j) q s f a h =
        ap (λ u. networks terms (unless_gone u (without_among x ts))) (without_absent x t f.0 h.0)
        ∙ (networks-unless_gone t (without_among x ts)
        ∙ ap₂ plain.unless_empty
        (sym (normal_from_form (network terms t) (network_in_form t f.0).1))
        (networks-without_full x ts j q s f.1 (apart_right (numbers t) (numbers_of_all ts) a) h.1))

  -- without a part a tree in normal form is the normal form of its network without it
  pub network-without : (x : ℕ) (t : Tree) (p : Place) → IsNormal t → AreApart (numbers t) → place_in x t ≡ Some p
      → network terms (without x t) ≡ plain.normal (plain.with_part (network terms t) p plain.Empty)
  network-without x t p n a e =
      ⊎_elim
      (λ g. absurd (let h : None ≡ Some p = ap (place_in x) (sym g) ∙ e in cc))
      (λ f. network-without_full x t p f a e)
      (normal_cases t n)

  -- with another tree in the place of a part a tree is its network with that tree's network there
  mutual
    unfolding plain.with_part

    pub network-replaced : (x : ℕ) (r t : Tree) (p : Place) → AreApart (numbers t) → place_in x t ≡ Some p
        → network terms (replaced x r t) ≡ plain.with_part (network terms t) p (network terms r)
    network-replaced x r Gone p a e = absurd cc
    network-replaced x r (Leaf k cell immediate) p a e =
        ⊎_elim
        (λ n.
        let g : Some [] ≡ Some p = sym (at_number k x (Some []) None n) ∙ e in
        let h : [] ≡ p = cc in
        ap (network terms) (at_number k x r (Leaf k cell immediate) n)
        ∙ (sym (with_part-top (network terms (Leaf k cell immediate)) (network terms r))
        ∙ ap (λ q. plain.with_part (network terms (Leaf k cell immediate)) q (network terms r)) h))
        (λ n. absurd (let g : None ≡ Some p = sym (off_number k x (Some []) None n) ∙ e in cc)) (cases_eq k x)
    network-replaced x r (Branch k order ts) p a e =
        let net = network terms (Branch k order ts) in
        ⊎_elim
        (λ n.
        let g : Some [] ≡ Some p = sym (at_number k x (Some []) (place_among x 0 ts) n) ∙ e in
        let h : [] ≡ p = cc in
        ap (network terms) (at_number k x r (Branch k order (replaced_among x r ts)) n)
        ∙ (sym (with_part-top net (network terms r)) ∙ ap (λ q. plain.with_part net q (network terms r)) h))
        (λ n.
        let b = place_among_parts x 0 ts p (sym (off_number k x (Some []) (place_among x 0 ts) n) ∙ e) in
        let z : b.0 ≡ 0 + b.0 = omega arith in
        let same : b.0 ∷ b.1 ≡ p = ap (λ i. i ∷ b.1) z ∙ sym b.3 in
        ap (network terms) (off_number k x r (Branch k order (replaced_among x r ts)) n)
        ∙ (ap (listed order) (networks-replaced x r ts b.0 b.1 b.2 a.1 b.4)
        ∙ (sym (with_part-listed order (networks terms ts) b.0 b.1 (network terms r))
        ∙ ap (λ q. plain.with_part net q (network terms r)) same)))
        (cases_eq k x)

    pub networks-replaced : (x : ℕ) (r : Tree) (ts : Trees) (j : ℕ) (q : Place) (s : Tree)
        → AreApart (numbers_of_all ts) → IsAt x ts j q s
        → networks terms (replaced_among x r ts) ≡ plain.with_nth_part (networks terms ts) j q (network terms r)
    networks-replaced x r NoTree j q s a h = absurd h
    networks-replaced x r (With t ts) zero q s a h =
        let c = (part_tells x t s h.1).2 in
        ap₂ plain.And
        (network-replaced x r t q (apart_left (numbers t) (numbers_of_all ts) a) h.0)
        (ap (networks terms)
        (replaced_among_absent x r ts (λ d. apart_disjoint (numbers t) (numbers_of_all ts) a x c d)))
    networks-replaced x r (With t ts) (suc j) q s a h =
        ap₂ plain.And
        (ap (network terms) (replaced_absent x r t h.0))
        (networks-replaced x r ts j q s (apart_right (numbers t) (numbers_of_all ts) a) h.1)

  -- ---- parts

  -- equal trees are equal networks
  same_network : (t s : Tree) → Some t ≡ Some s → Some (network terms t) ≡ Some (network terms s)
  same_network t s e = let f : t ≡ s = cc in ap (λ u. Some (network terms u)) f

  -- at a number's place stands the network of its part
  mutual
    unfolding plain.part_at

    pub part_at-place : (x : ℕ) (t s : Tree) (p : Place) → place_in x t ≡ Some p → part_in x t ≡ Some s
        → plain.part_at (network terms t) p ≡ Some (network terms s)
    part_at-place x Gone s p e f = absurd cc
    part_at-place x (Leaf k cell immediate) s p e f =
        ⊎_elim
        (λ n.
        let g : Some [] ≡ Some p = sym (at_number k x (Some []) None n) ∙ e in
        let h : [] ≡ p = cc in
        let i = sym (at_number k x (Some (Leaf k cell immediate)) None n) ∙ f in
        ap (plain.part_at (network terms (Leaf k cell immediate))) (sym h)
        ∙ (part_at-top (network terms (Leaf k cell immediate)) ∙ same_network (Leaf k cell immediate) s i))
        (λ n. absurd (let g : None ≡ Some p = sym (off_number k x (Some []) None n) ∙ e in cc)) (cases_eq k x)
    part_at-place x (Branch k order ts) s p e f =
        let net = network terms (Branch k order ts) in
        ⊎_elim
        (λ n.
        let g : Some [] ≡ Some p = sym (at_number k x (Some []) (place_among x 0 ts) n) ∙ e in
        let h : [] ≡ p = cc in
        let i = sym (at_number k x (Some (Branch k order ts)) (part_among x ts) n) ∙ f in
        ap (plain.part_at net) (sym h) ∙ (part_at-top net ∙ same_network (Branch k order ts) s i))
        (λ n.
        let b = place_among_parts x 0 ts p (sym (off_number k x (Some []) (place_among x 0 ts) n) ∙ e) in
        let z : b.0 ≡ 0 + b.0 = omega arith in
        let same : b.0 ∷ b.1 ≡ p = ap (λ i. i ∷ b.1) z ∙ sym b.3 in
        let i = sym (part_among_at x ts b.0 b.1 b.2 b.4)
        ∙ (sym (off_number k x (Some (Branch k order ts)) (part_among x ts) n) ∙ f) in
        ap (plain.part_at net) (sym same)
        ∙ (part_at-listed order (networks terms ts) b.0 b.1
        ∙ (nth_part_at-place x ts b.0 b.1 b.2 b.4 ∙ same_network b.2 s i)))
        (cases_eq k x)

    pub nth_part_at-place : (x : ℕ) (ts : Trees) (j : ℕ) (q : Place) (s : Tree) → IsAt x ts j q s
        → plain.nth_part_at (networks terms ts) j q ≡ Some (network terms s)
    nth_part_at-place x NoTree j q s h = absurd h
    nth_part_at-place x (With t ts) zero q s h = part_at-place x t s q h.0 h.1
    nth_part_at-place x (With t ts) (suc j) q s h = nth_part_at-place x ts j q s h.1

-- ---- numbers of a part

-- a number of a part has its place below that of the part, and is the same part of the whole
mutual
  pub place_below : (f : ℕ) (t s : Tree) (p : Place) → AreApart (numbers t) → place_in f t ≡ Some p
      → part_in f t ≡ Some s → (y : ℕ) (q : Place) (u : Tree) → place_in y s ≡ Some q → part_in y s ≡ Some u
      → (place_in y t ≡ Some (p ++ q)) × (part_in y t ≡ Some u)
  place_below f Gone s p a e g y q u h i = absurd cc
  place_below f (Leaf k cell immediate) s p a e g y q u h i =
      ⊎_elim
      (λ n.
      let j : Some [] ≡ Some p = sym (at_number k f (Some []) None n) ∙ e in
      let l : [] ≡ p = cc in
      let m : Some (Leaf k cell immediate) ≡ Some s =
      sym (at_number k f (Some (Leaf k cell immediate)) None n) ∙ g in
      let o : Leaf k cell immediate ≡ s = cc in
      (ap (place_in y) o ∙ (h ∙ ap (λ r. Some (r ++ q)) l), ap (part_in y) o ∙ i))
      (λ n. absurd (let j : None ≡ Some p = sym (off_number k f (Some []) None n) ∙ e in cc)) (cases_eq k f)
  place_below f (Branch k order ts) s p a e g y q u h i =
      ⊎_elim
      (λ n.
      let j : Some [] ≡ Some p = sym (at_number k f (Some []) (place_among f 0 ts) n) ∙ e in
      let l : [] ≡ p = cc in
      let m : Some (Branch k order ts) ≡ Some s =
      sym (at_number k f (Some (Branch k order ts)) (part_among f ts) n) ∙ g in
      let o : Branch k order ts ≡ s = cc in
      (ap (place_in y) o ∙ (h ∙ ap (λ r. Some (r ++ q)) l), ap (part_in y) o ∙ i))
      (λ n.
      let b = place_among_parts f 0 ts p (sym (off_number k f (Some []) (place_among f 0 ts) n) ∙ e) in
      let j : Some b.2 ≡ Some s = sym (part_among_at f ts b.0 b.1 b.2 b.4)
      ∙ (sym (off_number k f (Some (Branch k order ts)) (part_among f ts) n) ∙ g) in
      let l : b.2 ≡ s = cc in
      let m = at_below f ts b.0 b.1 s a.1 (subst (IsAt f ts b.0 b.1) l b.4) y q u h i in
      let c = number_at y ts b.0 (b.1 ++ q) u m in
      let o : k ≡ y → ⊥ = λ r. a.0 (subst (Contains (numbers_of_all ts)) (sym r) c) in
      let z : b.0 ≡ 0 + b.0 = omega arith in
      let same : b.0 ∷ b.1 ≡ p = ap (λ r. r ∷ b.1) z ∙ sym b.3 in (
        off_number k y _ _ o
            ∙ (place_among_at y 0 ts b.0 (b.1 ++ q) u m
            ∙ (ap (λ r. Some (r ∷ (b.1 ++ q))) (sym z) ∙ ap (λ r. Some (r ++ q)) same)),
        off_number k y _ _ o ∙ part_among_at y ts b.0 (b.1 ++ q) u m,
      )) (cases_eq k f)

  pub at_below : (f : ℕ) (ts : Trees) (j : ℕ) (p : Place) (s : Tree) → AreApart (numbers_of_all ts) → IsAt f ts j p s
      → (y : ℕ) (q : Place) (u : Tree) → place_in y s ≡ Some q → part_in y s ≡ Some u → IsAt y ts j (p ++ q) u
  at_below f NoTree j p s a e y q u h i = absurd e
  at_below f (With t ts) zero p s a e y q u h i =
      place_below f t s p (apart_left (numbers t) (numbers_of_all ts) a) e.0 e.1 y q u h i
  at_below f (With t ts) (suc j) p s a e y q u h i =
      let r = at_below f ts j p s (apart_right (numbers t) (numbers_of_all ts) a) e.1 y q u h i in
      let c = number_at y ts j (p ++ q) u r in
      (λ d. apart_disjoint (numbers t) (numbers_of_all ts) a y d c, r)
