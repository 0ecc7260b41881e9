-- The visits of the successors of a node, and those of them that lie below a node.
use Rattle.std.proofs.Common.{◌≡◌, ◌⊎◌, inl, inr, ℕ, zero, suc, ◌-◌, ◌<◌, ◌≤◌, Bool, true, false, ◌&&◌, ◌==◌, cond, List, [], ◌∷◌, ◌++◌, map, Some, None, refl, sym, ◌∙◌, ap, ap₂, subst, arith, append_assoc, rules, tests}
use Rattle.std.specs.Prelude.{flat_map}
use Rattle.std.specs.List.{All}
use Rattle.std.proofs.lemmas.Bool.{ne_eqb}
use Rattle.std.proofs.lemmas.List.{append-nil}
use Rattle.std.proofs.lemmas.List.Elements.{All-nil, All-cons, All-append, All-head, All-tail, All-weaker}
use Rattle.hp_syntax.specs.Syntax.{Rule}
use Rattle.hp_syntax.specs.Networks.{is_empty}
use Rattle.hp_syntax.specs.Walk as walk
use Rattle.hp_net.specs.Standings.{next_below}
use Rattle.hp_laws.proofs.DepthLemmas.{HasDepth, children_have_depth}
use Rattle.hp_laws.proofs.VisitLemmas.{all_visits}
use Rattle.hp_tree.specs.Successors.{Successor, ThePlan, TheChild, successors, visits_of}

-- ---- the visits of a node are those of its successors

module _ (rules : List Rule) (nest : ℕ) where
  -- the visits of numbered children, where each has this depth
  numbered_visits : (d i : ℕ) (n : walk.Node) (p : List ℕ) (cs : List walk.Child) → All (HasDepth d) cs
      → flat_map (walk.child_visits (walk.visits_within rules nest d) n p) (walk.numbered_children i cs)
      ≡ visits_of rules nest n p i (map TheChild cs)
  unfolding visits_of walk.visits
  numbered_visits d i n p [] h = refl
  numbered_visits d i n p (walk.DidChild m ∷ cs) h =
      let e : m.depth ≡ d = All-head (HasDepth d) (walk.DidChild m) cs h in
      ap₂ (λ k vs. walk.visit (p ++ i ∷ []) m walk.Did ∷ (walk.visits_within rules nest k m (p ++ i ∷ []) ++ vs))
      (sym e)
      (numbered_visits d (suc i) n p cs (All-tail (HasDepth d) (walk.DidChild m) cs h))
  numbered_visits d i n p (walk.CutChild ∷ cs) h =
      ap (λ vs. walk.visit p n walk.CutHere ∷ vs) (numbered_visits d i n p cs
      (All-tail (HasDepth d) walk.CutChild cs h))
  numbered_visits d i n p (walk.FaultChild f ∷ cs) h =
      ap (λ vs. walk.visit p n (walk.FaultHere f) ∷ vs) (numbered_visits d i n p cs
      (All-tail (HasDepth d) (walk.FaultChild f) cs h))

  within_split : (d : ℕ) (n : walk.Node) (p : List ℕ) → n.depth ≡ d
      → walk.visits_within rules nest d n p ≡ visits_of rules nest n p 0 (successors rules nest n)
  unfolding walk.visits_within visits_of successors
  within_split zero n p e =
      let z : (n.depth == 0) ≡ true = ap (λ k. k == 0) e in
      elim (is_empty n.network) as (λ b. walk.visit p n (cond b walk.Plan walk.CutHere) ∷ []
      ≡ visits_of rules nest n p 0
      (cond b (ThePlan ∷ []) (cond (n.depth == 0) (TheChild walk.CutChild ∷ []) (map TheChild
      (walk.children rules nest n))))) [
        | true ↦ refl
        | false ↦ sym (ap (λ c. visits_of rules nest n p 0 (cond c (TheChild walk.CutChild ∷ []) (map TheChild
            (walk.children rules nest n)))) z)
      ]
  within_split (suc d) n p e =
      let z : (n.depth == 0) ≡ false = ne_eqb n.depth 0 (λ k. omega arith) in
      let one : n.depth - 1 ≡ d = omega arith in
      let deep = subst (λ k. All (HasDepth k) (walk.children rules nest n)) one (children_have_depth rules nest n) in
      elim (is_empty n.network) as (λ b. cond b (walk.visit p n walk.Plan ∷ [])
      (flat_map (walk.child_visits (walk.visits_within rules nest d) n p)
      (walk.numbered_children 0 (walk.children rules nest n)))
      ≡ visits_of rules nest n p 0
      (cond b (ThePlan ∷ []) (cond (n.depth == 0) (TheChild walk.CutChild ∷ []) (map TheChild
      (walk.children rules nest n))))) [
        | true ↦ refl
        | false ↦ numbered_visits d 0 n p (walk.children rules nest n) deep
            ∙ sym (ap (λ c. visits_of rules nest n p 0 (cond c (TheChild walk.CutChild ∷ []) (map TheChild
            (walk.children rules nest n)))) z)
      ]

  -- the visits of a node are those of its successors
  pub visits_split : (n : walk.Node) (p : List ℕ)
      → walk.visits rules nest n p ≡ visits_of rules nest n p 0 (successors rules nest n)
  unfolding walk.visits
  visits_split n p = within_split n.depth n p refl

-- ---- paths that begin others

-- a number is itself
same_number : (i : ℕ) → (i == i) ≡ true
same_number i = search (rules, tests)

-- a path begins what goes on from it
pub begins_on : (p q : List ℕ) → walk.begins p (p ++ q) ≡ true
begins_on [] q = refl
begins_on (i ∷ p) q = ap₂ ◌&&◌ (same_number i) (begins_on p q)

-- a path begins itself
pub begins_itself : (p : List ℕ) → walk.begins p p ≡ true
begins_itself p = ap (walk.begins p) (sym (append-nil p)) ∙ begins_on p []

and_false : (b : Bool) → (b && false) ≡ false
and_false true = refl
and_false false = refl

-- a path doesn't begin one that goes on by another number
begins_other : (p q r : List ℕ) (j k : ℕ) → j < k → walk.begins (p ++ j ∷ r) (p ++ k ∷ q) ≡ false
begins_other [] q r j k l = ap (λ b. b && walk.begins r q) (ne_eqb j k (λ e. omega arith))
begins_other (i ∷ p) q r j k l = ap (λ b. (i == i) && b) (begins_other p q r j k l) ∙ and_false (i == i)

-- a path doesn't begin a shorter one
begins_short : (p r : List ℕ) (j : ℕ) → walk.begins (p ++ j ∷ r) p ≡ false
begins_short [] r j = refl
begins_short (i ∷ p) r j = ap (λ b. (i == i) && b) (begins_short p r j) ∙ and_false (i == i)

-- where a path doesn't begin another, neither does what goes on from it
begins_further : (p r w : List ℕ) → walk.begins p w ≡ false → walk.begins (p ++ r) w ≡ false
begins_further [] r w h = absurd cc
begins_further (i ∷ p) r [] h = refl
begins_further (i ∷ p) r (j ∷ w) h =
    elim (i == j) as (λ b. (b && walk.begins p w) ≡ false → (b && walk.begins (p ++ r) w) ≡ false)
    [ true ↦ λ k. begins_further p r w k | false ↦ λ k. refl ] h

-- ---- visits below a node

-- a visit is at or below the end of a path
abbrev IsUnder : List ℕ → walk.Visit → Type 0
IsUnder p v = (q : List ℕ) × (v.path ≡ p ++ q)

-- it is at the end of a path, or below it by this number or a greater one
abbrev IsBeyond : List ℕ → ℕ → walk.Visit → Type 0
IsBeyond p i v = (v.path ≡ p) ⊎ ((k : ℕ) × (q : List ℕ) × (i ≤ k) × (v.path ≡ p ++ k ∷ q))

-- such a visit isn't below a smaller number
not_below : (p r : List ℕ) (i j : ℕ) (v : walk.Visit) → j < i → IsBeyond p i v → walk.begins (p ++ j ∷ r) v.path ≡ false
not_below p r i j v l (inl e) = ap (walk.begins (p ++ j ∷ r)) e ∙ begins_short p r j
not_below p r i j v l (inr (k, q, m, e)) = ap (walk.begins (p ++ j ∷ r)) e ∙ begins_other p q r j k (omega arith)

-- it is at or below the end of the path
at_or_below : (p : List ℕ) (i : ℕ) (v : walk.Visit) → IsBeyond p i v → walk.begins p v.path ≡ true
at_or_below p i v (inl e) = ap (walk.begins p) e ∙ begins_itself p
at_or_below p i v (inr (k, q, m, e)) = ap (walk.begins p) e ∙ begins_on p (k ∷ q)

beyond_more : (p : List ℕ) (i : ℕ) (v : walk.Visit) → IsBeyond p (suc i) v → IsBeyond p i v
beyond_more p i v (inl e) = inl e
beyond_more p i v (inr (k, q, m, e)) = inr (k, q, omega arith, e)

module _ (rules : List Rule) (nest : ℕ) where
  visits_under : (n : walk.Node) (p : List ℕ) → All (IsUnder p) (walk.visits rules nest n p)
  visits_under n p =
      all_visits rules nest (λ n p v. IsUnder p v) (λ n p x. ([], sym (append-nil p)))
      (λ n m p i v c e h. (i ∷ h.0, h.1 ∙ append_assoc p (i ∷ []) h.0)) n p

  -- the visits of successors are beyond the numbers before
  beyond : (n : walk.Node) (p : List ℕ) (i : ℕ) (cs : List Successor)
      → All (IsBeyond p i) (visits_of rules nest n p i cs)
  unfolding visits_of
  beyond n p i [] = All-nil (IsBeyond p i)
  beyond n p i (ThePlan ∷ cs) = All-cons (IsBeyond p i) (walk.visit p n walk.Plan) _ (inl refl) (beyond n p i cs)
  beyond n p i (TheChild (walk.DidChild m) ∷ cs) =
      All-cons (IsBeyond p i) (walk.visit (p ++ i ∷ []) m walk.Did) _ (inr (i, [], omega arith, refl))
      (All-append (IsBeyond p i) (walk.visits rules nest m (p ++ i ∷ [])) (visits_of rules nest n p (suc i) cs)
      (All-weaker (IsUnder (p ++ i ∷ [])) (IsBeyond p i)
      (λ v h. inr (i, h.0, omega arith, h.1 ∙ append_assoc p (i ∷ []) h.0)) (walk.visits rules nest m (p ++ i ∷ []))
      (visits_under m (p ++ i ∷ [])))
      (All-weaker (IsBeyond p (suc i)) (IsBeyond p i) (beyond_more p i) (visits_of rules nest n p (suc i) cs)
      (beyond n p (suc i) cs)))
  beyond n p i (TheChild walk.CutChild ∷ cs) = All-cons (IsBeyond p i) (walk.visit p n walk.CutHere) _ (inl refl)
      (beyond n p i cs)
  beyond n p i (TheChild (walk.FaultChild f) ∷ cs) =
      All-cons (IsBeyond p i) (walk.visit p n (walk.FaultHere f)) _ (inl refl) (beyond n p i cs)

  -- they are at or below the node
  pub visits_below : (n : walk.Node) (p : List ℕ) (i : ℕ) (cs : List Successor)
      → All (λ v. walk.begins p v.path ≡ true) (visits_of rules nest n p i cs)
  visits_below n p i cs =
      All-weaker (IsBeyond p i) (λ v. walk.begins p v.path ≡ true) (at_or_below p i) (visits_of rules nest n p i cs)
      (beyond n p i cs)

  -- they aren't below a Did that was given
  pub visits_elsewhere : (n : walk.Node) (p : List ℕ) (i j : ℕ) (cs : List Successor) → j < i
      → All (λ v. walk.begins (p ++ j ∷ []) v.path ≡ false) (visits_of rules nest n p i cs)
  visits_elsewhere n p i j cs l =
      All-weaker (IsBeyond p i) (λ v. walk.begins (p ++ j ∷ []) v.path ≡ false) (λ v h. not_below p [] i j v l h)
      (visits_of rules nest n p i cs) (beyond n p i cs)

-- a visit that isn't below a node isn't below the nodes below it
pub elsewhere_further : (p r : List ℕ) (vs : List walk.Visit) → All (λ v. walk.begins p v.path ≡ false) vs
    → All (λ v. walk.begins (p ++ r) v.path ≡ false) vs
elsewhere_further p r vs h =
    All-weaker (λ v. walk.begins p v.path ≡ false) (λ v. walk.begins (p ++ r) v.path ≡ false)
    (λ v k. begins_further p r v.path k) vs h

-- ---- the next visit

-- nothing is next below a node where all is elsewhere
pub next_none : (p : List ℕ) (vs : List walk.Visit) → All (λ v. walk.begins p v.path ≡ false) vs → next_below p vs
    ≡ None
next_none p [] h = refl
next_none p (v ∷ vs) h = ap (λ b. cond b (Some v) None) (All-head (λ v. walk.begins p v.path ≡ false) v vs h)

-- the first is next where it is below
pub next_first : (p : List ℕ) (v : walk.Visit) (vs : List walk.Visit) → walk.begins p v.path ≡ true
    → next_below p (v ∷ vs) ≡ Some v
next_first p v vs h = ap (λ b. cond b (Some v) None) h

-- where nothing is next, none of the first visits is below
pub none_below : (p : List ℕ) (xs ys : List walk.Visit) → All (λ v. walk.begins p v.path ≡ true) xs
    → next_below p (xs ++ ys) ≡ None → xs ≡ []
none_below p [] ys h e = refl
none_below p (x ∷ xs) ys h e =
    let some = next_first p x (xs ++ ys) (All-head (λ v. walk.begins p v.path ≡ true) x xs h) in absurd cc

-- visits elsewhere aren't skipped
skip_none : (p : List ℕ) (vs : List walk.Visit) → All (λ v. walk.begins p v.path ≡ false) vs → walk.skip p vs ≡ vs
skip_none p [] h = refl
skip_none p (v ∷ vs) h =
    ap (λ b. cond b (walk.skip p vs) (v ∷ vs)) (All-head (λ v. walk.begins p v.path ≡ false) v vs h)

-- visits below are skipped
pub skip_below : (p : List ℕ) (xs ys : List walk.Visit) → All (λ v. walk.begins p v.path ≡ true) xs
    → All (λ v. walk.begins p v.path ≡ false) ys → walk.skip p (xs ++ ys) ≡ ys
skip_below p [] ys h k = skip_none p ys k
skip_below p (x ∷ xs) ys h k =
    ap (λ b. cond b (walk.skip p (xs ++ ys)) (x ∷ (xs ++ ys))) (All-head (λ v. walk.begins p v.path ≡ true) x xs h)
    ∙ skip_below p xs ys (All-tail (λ v. walk.begins p v.path ≡ true) x xs h) k

-- ---- the successors of a node

module _ (rules : List Rule) (nest : ℕ) (n : walk.Node) where
  -- where nothing is left to do, the one successor is the plan
  pub successors_plan : is_empty n.network ≡ true → successors rules nest n ≡ ThePlan ∷ []
  unfolding successors
  successors_plan e =
      ap (λ b. cond b (ThePlan ∷ [])
      (cond (n.depth == 0) (TheChild walk.CutChild ∷ []) (map TheChild (walk.children rules nest n)))) e

  -- else where no decomposition may follow, it is a Cut
  pub successors_cut : is_empty n.network ≡ false → (n.depth == 0) ≡ true
      → successors rules nest n ≡ TheChild walk.CutChild ∷ []
  unfolding successors
  successors_cut e z =
      ap₂ (λ b c. cond b (ThePlan ∷ []) (cond c (TheChild walk.CutChild ∷ [])
      (map TheChild (walk.children rules nest n)))) e z

  -- else the successors are the children
  pub successors_children : is_empty n.network ≡ false → (n.depth == 0) ≡ false
      → successors rules nest n ≡ map TheChild (walk.children rules nest n)
  unfolding successors
  successors_children e z =
      ap₂ (λ b c. cond b (ThePlan ∷ []) (cond c (TheChild walk.CutChild ∷ [])
      (map TheChild (walk.children rules nest n)))) e z
