-- Children with labels: the labels come in order, and it is known which Did has which label.
use Rattle.std.proofs.Common.{◌≡◌, ℕ, zero, suc, ◌+◌, ◌<◌, ◌≤◌, List, [], ◌∷◌, ◌++◌, map, Option, Some, None, refl, sym, ◌∙◌, ap, ap₂, subst, ⊎_elim, arith}
use Rattle.std.specs.Prelude.{Contains, slice_get, flat_map, ◌↔◌}
use Rattle.std.specs.List.{All, AllPairs}
use Rattle.std.proofs.lemmas.List.{map-append}
use Rattle.std.proofs.lemmas.List.Elements.{All-nil, All-append, All-map, Contains-append_left, Contains-append_right, Contains-append_cases}
use Rattle.std.proofs.lemmas.List.Kept.{AllPairs-cons}
use Rattle.hp_syntax.specs.Walk.{Node, Child, DidChild}
use Rattle.hp_laws.proofs.JoinLemmas.{contains_first, contains_later, contains_cases, contains_none, pairs_head, pairs_tail, pairs_append}

module _ {X Y : Type 0} (h : X → Y) where
  -- an element of a list is mapped with it
  pub map_has : (xs : List X) (x : X) → Contains xs x → Contains (map h xs) (h x)
  map_has [] x c = absurd (contains_none x c)
  map_has (y ∷ xs) x c = ⊎_elim
      (λ e. subst (λ z. Contains (h y ∷ map h xs) (h z)) e (contains_first (h y) (map h xs)))
      (λ d. contains_later (h y) (h x) (map h xs) (map_has xs x d))
      (contains_cases y x xs c)

  -- an element of a mapped list comes from the list
  pub has_mapped : (xs : List X) (z : Y) → Contains (map h xs) z → (x : X) × Contains xs x × (h x ≡ z)
  has_mapped [] z c = absurd (contains_none z c)
  has_mapped (x ∷ xs) z c = ⊎_elim
      (λ e. (x, contains_first x xs, e))
      (λ d. let r = has_mapped xs z d in (r.0, contains_later x r.0 xs r.1, r.2))
      (contains_cases (h x) z (map h xs) c)

  -- pairs of a list that was mapped are pairs of the list
  pub pairs_mapped : (R : Y → Y → Type 0) (xs : List X) → AllPairs (λ x y. R (h x) (h y)) xs → AllPairs R (map h xs)
  pairs_mapped R [] a = λ i j d l m. absurd (omega arith)
  pairs_mapped R (x ∷ xs) a =
      AllPairs-cons R (h x) (map h xs)
      (All-map (R (h x)) h xs (pairs_head (λ x y. R (h x) (h y)) x xs a))
      (pairs_mapped R xs (pairs_tail (λ x y. R (h x) (h y)) x xs a))

-- children with labels in order; the Dids have the labels that a relation gives them
pub record Listing {L : Type 0} (IsLess : L → L → Type 0) (R : L → Node → Type 0) (cs : List Child) : Type 0 where
  pub list : List (L × Child)
  pub same : map (λ x. x.1) list ≡ cs
  pub order : AllPairs (λ x y. IsLess x.0 y.0) list
  pub dids : (l : L) (m : Node) → Contains list (l, DidChild m) ↔ R l m

-- a relation may be said in other words
pub restated : {L : Type 0} (IsLess : L → L → Type 0) (R Q : L → Node → Type 0) (cs : List Child)
    → ((l : L) (m : Node) → R l m → Q l m) → ((l : L) (m : Node) → Q l m → R l m) → Listing IsLess R cs
    → Listing IsLess Q cs
restated IsLess R Q cs f g x = record {
  list = x.list;
  same = x.same;
  order = x.order;
  dids = λ l m. (λ c. f l m ((x.dids l m).0 c), λ q. (x.dids l m).1 (g l m q));
}

-- no children
pub no_listing : {L : Type 0} (IsLess : L → L → Type 0) (R : L → Node → Type 0) → ((l : L) (m : Node) → R l m → ⊥)
    → Listing IsLess R []
no_listing IsLess R never = record {
  list = [];
  same = refl;
  order = λ i j d l m. absurd (omega arith);
  dids = λ l m. (λ c. absurd (contains_none (l, DidChild m) c), λ r. absurd (never l m r));
}

-- one thing needs no label: none comes before another
abbrev pub IsOther : Unit {0} → Unit {0} → Type 0
IsOther x y = ⊥

-- one child, which is a Did of such a node or no Did
pub one_listing : (R : Node → Type 0) (c : Child) → ((m : Node) → c ≡ DidChild m → R m)
    → ((m : Node) → R m → c ≡ DidChild m) → Listing IsOther (λ l m. R m) (c ∷ [])
one_listing R c f g = record {
  list = (tt, c) ∷ [];
  same = refl;
  order = λ i j d l m. absurd (omega arith);
  dids = λ l m. (λ h. f m (only m l h), λ r. there m (g m r));
}
  where
    there : (m : Node) → c ≡ DidChild m → Contains {X = Unit {0} × Child} ((tt, c) ∷ []) (tt, DidChild m)
    there m e = subst (λ x. Contains {X = Unit {0} × Child} ((tt, c) ∷ []) (tt, x)) e (contains_first (tt, c) [])

    only : (m : Node) (l : Unit {0}) → Contains {X = Unit {0} × Child} ((tt, c) ∷ []) (l, DidChild m) → c ≡ DidChild m
    only m l h = ⊎_elim (λ e. ap (λ (x : Unit {0} × Child). x.1) e)
        (λ n. absurd (contains_none (l, DidChild m) n)) (contains_cases (tt, c) (l, DidChild m) [] h)

-- of an option: there are children only if it has something
pub option_listing : {A L : Type 0} (IsLess : L → L → Type 0) (R : A → L → Node → Type 0) (f : Option A → List Child)
    → f None ≡ [] → ((a : A) → Listing IsLess (R a) (f (Some a))) → (o : Option A)
    → Listing IsLess (λ l m. (a : A) × (o ≡ Some a) × R a l m) (f o)
option_listing {A} {L} IsLess R f e g None =
    let Q : L → Node → Type 0 = λ l m. (a : A) × (None ≡ Some a) × R a l m in
    subst (Listing IsLess Q) (sym e) (no_listing IsLess Q (λ l m (a, h, r). let never : ⊥ = cc in never))
option_listing {A} {L} IsLess R f e g (Some b) =
    restated IsLess (R b) (λ l m. (a : A) × (Some b ≡ Some a) × R a l m) (f (Some b)) (λ l m r. (b, refl, r))
    (λ l m (a, h, r). let q : b ≡ a = cc in subst (λ z. R z l m) (sym q) r) (g b)

-- ---- joins

-- a Did of a join: which element it comes from, and its label there
pub record Joined {X L K : Type 0} (labelled : ℕ → L → K) (R : X → L → Node → Type 0) (xs : List X) (k : K)
    (m : Node) : Type 0 where
  pub number : ℕ
  pub label : L
  pub element : X
  pub is : k ≡ labelled number label
  pub there : slice_get xs number ≡ Some element
  pub did : R element label m

module _ {X L K : Type 0} (IsLess : L → L → Type 0) (IsBelow : K → K → Type 0) (labelled : ℕ → L → K)
    (inner : (i : ℕ) (l m : L) → IsLess l m → IsBelow (labelled i l) (labelled i m))
    (outer : (i j : ℕ) (l m : L) → i < j → IsBelow (labelled i l) (labelled j m))
    (f : X → List Child) (R : X → L → Node → Type 0) (g : (x : X) → Listing IsLess (R x) (f x)) where
  -- a label with the number of its element
  placed : ℕ → L × Child → K × Child
  placed i y = (labelled i y.0, y.1)

  -- the labelled children of elements, of which the first has this number
  joined : ℕ → List X → List (K × Child)
  joined i [] = []
  joined i (x ∷ xs) = map (placed i) (g x).list ++ joined (suc i) xs

  -- the children stay the same
  same_placed : (i : ℕ) (ys : List (L × Child)) → map (λ (x : K × Child). x.1) (map (placed i) ys) ≡ map (λ x. x.1) ys
  unfolding placed
  same_placed i [] = refl
  same_placed i (y ∷ ys) = ap (λ zs. y.1 ∷ zs) (same_placed i ys)

  -- the children are those of the join
  same_joined : (i : ℕ) (xs : List X) → map (λ (x : K × Child). x.1) (joined i xs) ≡ flat_map f xs
  unfolding joined
  same_joined i [] = refl
  same_joined i (x ∷ xs) =
      map-append (λ (y : K × Child). y.1) (map (placed i) (g x).list) (joined (suc i) xs)
      ∙ ap₂ (λ ys zs. ys ++ zs) (same_placed i (g x).list ∙ (g x).same) (same_joined (suc i) xs)

  -- a label has this number or a later one
  IsFrom : ℕ → K × Child → Type 0
  IsFrom i y = (j : ℕ) × (l : L) × (i ≤ j) × (y.0 ≡ labelled j l)

  -- so it is with each label
  labels_from : (i : ℕ) (xs : List X) → All (IsFrom i) (joined i xs)
  unfolding joined IsFrom placed
  labels_from i [] = All-nil (IsFrom i)
  labels_from i (x ∷ xs) =
      All-append (IsFrom i) (map (placed i) (g x).list) (joined (suc i) xs)
      (All-map (IsFrom i) (placed i) (g x).list (λ k d l. (i, _, omega arith, refl)))
      (λ k d l. let r = labels_from (suc i) xs k d l in (r.0, r.1, omega (arith, r.2), r.3))

  -- the labels come in order
  order_joined : (i : ℕ) (xs : List X) → AllPairs (λ x y. IsBelow x.0 y.0) (joined i xs)
  unfolding joined IsFrom placed
  order_joined i [] = λ a b d l m. absurd (omega arith)
  order_joined i (x ∷ xs) =
      pairs_append (λ a b. IsBelow a.0 b.0) (map (placed i) (g x).list) (joined (suc i) xs)
      (pairs_mapped (placed i) (λ a b. IsBelow a.0 b.0) (g x).list
      (λ a b d l m. inner i _ _ ((g x).order a b d l m)))
      (order_joined (suc i) xs)
      (All-map (λ z. All (λ w. IsBelow z.0 w.0) (joined (suc i) xs)) (placed i) (g x).list
      (λ k d l a e m. let r = labels_from (suc i) xs a e m in
      subst (IsBelow _) (sym r.3) (outer i r.0 _ r.1 (omega (arith, r.2)))))

  -- a Did of the first element has a label of its own
  from_first : (i : ℕ) (x : X) (xs : List X) (k : K) (m : Node) → Contains (map (placed i) (g x).list) (k, DidChild m)
      → Joined (λ j l. labelled (i + j) l) R (x ∷ xs) k m
  unfolding placed
  from_first i x xs k m c =
      let y = has_mapped (placed i) (g x).list (k, DidChild m) c in
      let e : labelled i y.0.0 ≡ k = ap (λ (z : K × Child). z.0) y.2 in
      let q : y.0.1 ≡ DidChild m = ap (λ (z : K × Child). z.1) y.2 in
      record {
        number = 0;
        label = y.0.0;
        element = x;
        is = sym e ∙ ap (λ j. labelled j y.0.0) (omega arith);
        there = refl;
        did = ((g x).dids y.0.0 m).0 (subst (λ z. Contains (g x).list (y.0.0, z)) q y.1);
      }

  -- and one of a later element keeps its own
  from_later : (i : ℕ) (x : X) (xs : List X) (k : K) (m : Node) → Joined (λ j l. labelled (suc i + j) l) R xs k m
      → Joined (λ j l. labelled (i + j) l) R (x ∷ xs) k m
  from_later i x xs k m r = record {
    number = suc r.number;
    label = r.label;
    element = r.element;
    is = r.is ∙ ap (λ j. labelled j r.label) (omega arith);
    there = r.there;
    did = r.did;
  }

  -- a Did among them has a label of its element
  from_joined : (i : ℕ) (xs : List X) (k : K) (m : Node) → Contains (joined i xs) (k, DidChild m)
      → Joined (λ j l. labelled (i + j) l) R xs k m
  unfolding joined
  from_joined i [] k m c = absurd (contains_none (k, DidChild m) c)
  from_joined i (x ∷ xs) k m c =
      ⊎_elim (λ d. from_first i x xs k m d) (λ d. from_later i x xs k m (from_joined (suc i) xs k m d))
      (Contains-append_cases (map (placed i) (g x).list) (joined (suc i) xs) (k, DidChild m) c)

  -- and each label of an element is there
  to_joined : (i : ℕ) (xs : List X) (j : ℕ) (l : L) (x : X) (m : Node) → slice_get xs j ≡ Some x → R x l m
      → Contains (joined i xs) (labelled (i + j) l, DidChild m)
  unfolding joined placed
  to_joined i [] j l x m e r = absurd cc
  to_joined i (y ∷ xs) zero l x m e r =
      let q : y ≡ x = cc in
      Contains-append_left (map (placed i) (g y).list) (joined (suc i) xs) (labelled (i + 0) l, DidChild m)
      (subst (λ k. Contains (map (placed i) (g y).list) (labelled k l, DidChild m)) (omega arith)
      (map_has (placed i) (g y).list (l, DidChild m) (((g y).dids l m).1 (subst (λ z. R z l m) (sym q) r))))
  to_joined i (y ∷ xs) (suc j) l x m e r =
      Contains-append_right (map (placed i) (g y).list) (joined (suc i) xs) (labelled (i + suc j) l, DidChild m)
      (subst (λ k. Contains (joined (suc i) xs) (labelled k l, DidChild m)) (omega arith)
      (to_joined (suc i) xs j l x m e r))

  -- a join of children with labels
  pub join_listing : (xs : List X) → Listing IsBelow (Joined labelled R xs) (flat_map f xs)
  join_listing xs = record {
    list = joined 0 xs;
    same = same_joined 0 xs;
    order = order_joined 0 xs;
    dids = λ k m. (λ c. from k m (from_joined 0 xs k m c), λ r. to k m r);
  }
    where
      from : (k : K) (m : Node) → Joined (λ j l. labelled (0 + j) l) R xs k m → Joined labelled R xs k m
      from k m r = record {
        number = r.number;
        label = r.label;
        element = r.element;
        is = r.is ∙ ap (λ j. labelled j r.label) (omega arith);
        there = r.there;
        did = r.did;
      }

      to : (k : K) (m : Node) → Joined labelled R xs k m → Contains (joined 0 xs) (k, DidChild m)
      to k m r =
          subst (λ z. Contains (joined 0 xs) (z, DidChild m)) (ap (λ j. labelled j r.label) (omega arith) ∙ sym r.is)
          (to_joined 0 xs r.number r.label r.element m r.there r.did)
