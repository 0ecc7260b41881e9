-- Visits come in the order of their paths.
use Rattle.std.proofs.Common.{◌≡◌, ℕ, zero, suc, ◌<◌, ◌≤◌, cond, List, [], ◌∷◌, ◌++◌, refl, sym, ◌∙◌, subst₂, arith, append_assoc, inl, inr}
use Rattle.std.specs.Prelude.{flat_map}
use Rattle.std.specs.List.{All, AllPairs}
use Rattle.std.proofs.lemmas.Bool.{false≢true, cond_both}
use Rattle.std.proofs.lemmas.List.{append-nil}
use Rattle.std.proofs.lemmas.List.Elements.{All-nil, All-cons, All-weaker}
use Rattle.std.proofs.lemmas.List.Kept.{AllPairs-cons}
use Rattle.hp_syntax.specs.Syntax.{Rule}
use Rattle.hp_syntax.specs.Networks.{is_empty}
use Rattle.hp_laws.specs.TreeLaws.{IsReached, IsBefore, PlanOf, ComesBefore}
use Rattle.hp_syntax.specs.Walk as walk
use Rattle.hp_laws.proofs.JoinLemmas.{all_from, all_one, all_join, one_pair, pairs_weaker, pairs_join}
use Rattle.hp_laws.proofs.VisitLemmas.{all_visits_within}

-- a path comes before each path below it
before_below : (p : List ℕ) (i : ℕ) (q : List ℕ) → IsBefore p (p ++ i ∷ q)
before_below [] i q = tt
before_below (j ∷ p) i q = inr (refl, before_below p i q)

-- where paths part, that with the smaller number comes before
before_later : (p q r : List ℕ) (i j : ℕ) → i < j → IsBefore (p ++ i ∷ q) (p ++ j ∷ r)
before_later [] q r i j l = inl l
before_later (k ∷ p) q r i j l = inr (refl, before_later p q r i j l)

-- the child is a node
abbrev IsDid : walk.Child → Type 0
IsDid (walk.DidChild m) = Unit {0}
IsDid walk.CutChild = ⊥
IsDid (walk.FaultChild f) = ⊥

-- the numbers of children begin at the first number
numbers_from : (i : ℕ) (cs : List walk.Child) → All (λ x. i ≤ x.0) (walk.numbered_children i cs)
numbers_from i [] = All-nil (λ x. i ≤ x.0)
numbers_from i (c ∷ cs) =
    All-cons (λ x. i ≤ x.0) (i, c) (walk.numbered_children (walk.number_after i c) cs) (omega arith)
    (All-weaker (λ x. walk.number_after i c ≤ x.0) (λ x. i ≤ x.0) (λ x l. from c x.0 l)
    (walk.numbered_children (walk.number_after i c) cs) (numbers_from (walk.number_after i c) cs))
  where
    from : (c : walk.Child) (j : ℕ) → walk.number_after i c ≤ j → i ≤ j
    from (walk.DidChild m) j l = omega arith
    from walk.CutChild j l = l
    from (walk.FaultChild f) j l = l

-- a number behind that of a node is greater
numbers_rise : (i : ℕ) (cs : List walk.Child) → AllPairs (λ x y. IsDid x.1 → x.0 < y.0) (walk.numbered_children i cs)
numbers_rise i [] = λ j k d l m. absurd (omega arith)
numbers_rise i (c ∷ cs) =
    AllPairs-cons (λ x y. IsDid x.1 → x.0 < y.0) (i, c) (walk.numbered_children (walk.number_after i c) cs)
    (All-weaker (λ y. walk.number_after i c ≤ y.0) (λ y. IsDid c → i < y.0) (λ y l. from c y.0 l)
    (walk.numbered_children (walk.number_after i c) cs) (numbers_from (walk.number_after i c) cs))
    (numbers_rise (walk.number_after i c) cs)
  where
    from : (c : walk.Child) (j : ℕ) → walk.number_after i c ≤ j → IsDid c → i < j
    from (walk.DidChild m) j l h = l
    from walk.CutChild j l h = absurd h
    from (walk.FaultChild f) j l h = absurd h

-- two visits come in order, if both are of nodes that are reached
abbrev InOrder : walk.Visit → walk.Visit → Type 0
InOrder v w = IsReached v.sight → IsReached w.sight → ComesBefore v w

-- a visit of a node at or below the one at p
abbrev pub Below : List ℕ → walk.Visit → Type 0
Below p v = (q : List ℕ) × (v.path ≡ p ++ q)

-- a visit of a node that is reached is at or below a numbered child, which is a node
abbrev OfNumber : List ℕ → ℕ × walk.Child → walk.Visit → Type 0
OfNumber p c v = IsReached v.sight → IsDid c.1 × ((q : List ℕ) × (v.path ≡ p ++ c.0 ∷ q))

-- so reached visits of a child and of a later one come in order
across : (p : List ℕ) (x y : ℕ × walk.Child) → (IsDid x.1 → x.0 < y.0) → (v w : walk.Visit) → OfNumber p x v
    → OfNumber p y w
    → InOrder v w
across p x y l v w a b = λ e f.
    let c = a e in
    let d = b f in
    inl (subst₂ IsBefore (sym c.1.1) (sym d.1.1) (before_later p c.1.0 d.1.0 x.0 y.0 (l c.0)))

module _ (rules : List Rule) (nest : ℕ) where
  -- the visits at and below a node are at or below its path
  pub visits_below : (d : ℕ) (n : walk.Node) (p : List ℕ) → All (Below p) (walk.visits_within rules nest d n p)
  visits_below d n p =
      all_visits_within rules nest (λ n. Below) (λ n p x. ([], sym (append-nil p)))
      (λ n m p i v c e b. (i ∷ b.0, b.1 ∙ append_assoc p (i ∷ []) b.0)) d n p

  -- those of a child that are reached are at or below its number
  of_number : (d : ℕ) (n : walk.Node) (p : List ℕ) (i : ℕ) (c : walk.Child)
      → All (OfNumber p (i, c)) (walk.child_visits (walk.visits_within rules nest d) n p (i, c))
  of_number d n p i (walk.DidChild m) =
      All-cons (OfNumber p (i, walk.DidChild m)) (walk.visit (p ++ i ∷ []) m walk.Did)
      (walk.visits_within rules nest d m (p ++ i ∷ []))
      (λ h. (tt, ([], refl)))
      (All-weaker (Below (p ++ i ∷ [])) (OfNumber p (i, walk.DidChild m))
      (λ v b h. (tt, (b.0, b.1 ∙ append_assoc p (i ∷ []) b.0))) (walk.visits_within rules nest d m (p ++ i ∷ []))
      (visits_below d m (p ++ i ∷ [])))
  of_number d n p i walk.CutChild = all_one (OfNumber p (i, walk.CutChild)) (walk.visit p n walk.CutHere)
      (λ h. absurd (false≢true h))
  of_number d n p i (walk.FaultChild f) =
      all_one (OfNumber p (i, walk.FaultChild f)) (walk.visit p n (walk.FaultHere f)) (λ h. absurd (false≢true h))

  -- the plan of a node without tasks stands behind the decomposition that reached it
  plan_behind : (n m : walk.Node) (p : List ℕ) → InOrder (walk.visit p n walk.Did) (walk.visit p m walk.Plan)
  plan_behind n m p = λ e f. inr (refl, PlanOf)

  -- all that is reached at and below a node stands behind the decomposition that reached the node
  behind : (d : ℕ) (k n : walk.Node) (p : List ℕ) → All (InOrder (walk.visit p k walk.Did))
      (walk.visits_within rules nest d n p)
  unfolding walk.visits_within
  behind zero k n p =
      all_one (InOrder (walk.visit p k walk.Did)) (walk.visit p n (cond (is_empty n.network) walk.Plan walk.CutHere))
      (cond_both (is_empty n.network) walk.Plan walk.CutHere (λ s. InOrder (walk.visit p k walk.Did) (walk.visit p n s))
      (λ e. plan_behind k n p) (λ e f g. absurd (false≢true g)))
  behind (suc d) k n p =
      cond_both (is_empty n.network) (walk.visit p n walk.Plan ∷ [])
      (flat_map (walk.child_visits (walk.visits_within rules nest d) n p)
      (walk.numbered_children 0 (walk.children rules nest n)))
      (All (InOrder (walk.visit p k walk.Did)))
      (λ e. all_one (InOrder (walk.visit p k walk.Did)) (walk.visit p n walk.Plan) (plan_behind k n p))
      (λ e. all_join (walk.child_visits (walk.visits_within rules nest d) n p) (InOrder (walk.visit p k walk.Did))
      (walk.numbered_children 0 (walk.children rules nest n))
      (all_from (λ c. All (InOrder (walk.visit p k walk.Did)) (walk.child_visits
      (walk.visits_within rules nest d) n p c))
      (λ c. All-weaker (OfNumber p c) (InOrder (walk.visit p k walk.Did))
      (λ v a f g. let b = (a g).1 in inl (rw b.1 (before_below p c.0 b.0)))
      (walk.child_visits (walk.visits_within rules nest d) n p c) (of_number d n p c.0 c.1))
      (walk.numbered_children 0 (walk.children rules nest n))))

  -- the visits of a child come in order, where those below it do
  order_of_child : (d : ℕ) (n : walk.Node) (p : List ℕ)
      → ((m : walk.Node) (q : List ℕ) → AllPairs InOrder (walk.visits_within rules nest d m q))
      → (i : ℕ) (c : walk.Child)
      → AllPairs InOrder (walk.child_visits (walk.visits_within rules nest d) n p (i, c))
  order_of_child d n p deep i (walk.DidChild m) =
      AllPairs-cons InOrder (walk.visit (p ++ i ∷ []) m walk.Did) (walk.visits_within rules nest d m (p ++ i ∷ []))
      (behind d m m (p ++ i ∷ [])) (deep m (p ++ i ∷ []))
  order_of_child d n p deep i walk.CutChild = one_pair InOrder (walk.visit p n walk.CutHere)
  order_of_child d n p deep i (walk.FaultChild f) = one_pair InOrder (walk.visit p n (walk.FaultHere f))

  -- so all visits come in order
  order_within : (d : ℕ) (n : walk.Node) (p : List ℕ) → AllPairs InOrder (walk.visits_within rules nest d n p)
  unfolding walk.visits_within
  order_within zero n p = one_pair InOrder (walk.visit p n (cond (is_empty n.network) walk.Plan walk.CutHere))
  order_within (suc d) n p =
      cond_both (is_empty n.network) (walk.visit p n walk.Plan ∷ [])
      (flat_map (walk.child_visits (walk.visits_within rules nest d) n p)
      (walk.numbered_children 0 (walk.children rules nest n)))
      (AllPairs InOrder)
      (λ e. one_pair InOrder (walk.visit p n walk.Plan))
      (λ e. let of = walk.child_visits (walk.visits_within rules nest d) n p in
      let cs = walk.numbered_children 0 (walk.children rules nest n) in
      pairs_join of InOrder cs
      (all_from (λ c. AllPairs InOrder (of c)) (λ c. order_of_child d n p (λ m q. order_within d m q) c.0 c.1) cs)
      (pairs_weaker (λ x y. IsDid x.1 → x.0 < y.0) (λ x y. All (λ v. All (InOrder v) (of y)) (of x))
      (λ x y l. All-weaker (OfNumber p x) (λ v. All (InOrder v) (of y))
      (λ v a. All-weaker (OfNumber p y) (InOrder v) (λ w b. across p x y l v w a b) (of y)
      (of_number d n p y.0 y.1)) (of x) (of_number d n p x.0 x.1)) cs (numbers_rise 0 (walk.children rules nest n))))

  pub visits_in_order : (root : walk.Node) → AllPairs InOrder (walk.visits rules nest root [])
  unfolding walk.visits
  visits_in_order root = order_within root.depth root []
