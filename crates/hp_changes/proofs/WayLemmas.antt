-- The visits of a tree lead along each path at which one of them is, before any fault.
use Rattle.std.proofs.Common.{◌≡◌, ◌≢◌, ◌⊎◌, ℕ, zero, suc, ◌+◌, Bool, true, false, ◌&&◌, ◌==◌, cond, List, [], ◌∷◌, ◌++◌, length, Option, Some, None, refl, sym, ap, ap₂, ◌∙◌, subst, inl, inr, ⊎_elim, arith, append_assoc, append-nil, length-append}
use Rattle.std.specs.Prelude.{Contains, flat_map, not}
use Rattle.std.specs.List.{All}
use Rattle.std.specs.Option.{option_and_then}
use Rattle.std.proofs.lemmas.Bool.{and_parts, eq-eqb, ne_eqb}
use Rattle.std.proofs.lemmas.Bool.Decides.{nat_tests}
use Rattle.std.proofs.lemmas.List.Elements.{All-cons, All-head, All-tail}
use Rattle.hp_laws.proofs.DepthLemmas.{child_depth}
use Rattle.hp_laws.proofs.JoinLemmas.{contains_first, contains_later}
use Rattle.hp_laws.proofs.VisitLemmas.{all_visits_within}
use Rattle.hp_passes.specs.Passes.{is_out}
use Rattle.hp_syntax.specs.Networks.{is_empty}
use Rattle.hp_syntax.specs.Syntax.{Rule}
use Rattle.hp_syntax.specs.Walk.{Node, Child, DidChild, CutChild, FaultChild, children, numbered_children, child_visits, did_at, node_at, Did, Plan, CutHere, FaultHere, Visit, visit, visits_within, begins, is_did, is_fault_here, skip}
use Rattle.hp_changes.specs.Changes.{nodes_on}

-- ---- beginnings of paths

-- a path begins what goes on from it
pub begins_on : (q r : List ℕ) → begins q (q ++ r) ≡ true
begins_on [] r = refl
begins_on (i ∷ q) r = ap₂ ◌&&◌ (eq-eqb i i refl) (begins_on q r)

-- what goes on from a path by another number doesn't begin what goes on by this one
other_apart : (q r s : List ℕ) (k i : ℕ) → k ≢ i → begins (q ++ k ∷ r) (q ++ i ∷ s) ≡ false
other_apart [] r s k i n = ap (λ b. b && begins r s) (ne_eqb k i n)
other_apart (j ∷ q) r s k i n = ap₂ ◌&&◌ (eq-eqb j j refl) (other_apart q r s k i n)

-- no path is a longer one
not_longer : (q : List ℕ) (i : ℕ) (p : List ℕ) → q ≡ q ++ i ∷ p → ⊥
not_longer q i p e = let n = ap length e in omega (arith, n, length-append q (i ∷ p))

pub begins_itself : (p : List ℕ) → begins p p ≡ true
begins_itself p = subst (λ q. begins p q ≡ true) (append-nil p) (begins_on p [])

-- what begins a beginning of a path begins the path
begins_through : (q r p : List ℕ) → begins q r ≡ true → begins r p ≡ true → begins q p ≡ true
begins_through [] r p h k = refl
begins_through (i ∷ q) [] p h k = absurd (cc)
begins_through (i ∷ q) (j ∷ r) [] h k = absurd (cc)
begins_through (i ∷ q) (j ∷ r) (l ∷ p) h k =
    let a = and_parts (i == j) (begins q r) h in
    let b = and_parts (j == l) (begins r p) k in
    ap₂ ◌&&◌ (same_test i j l a.0 b.0) (begins_through q r p a.1 b.1)
  where
    same_test : (i j l : ℕ) → (i == j) ≡ true → (j == l) ≡ true → (i == l) ≡ true
    same_test i j l e f = grind (arith, nat_tests)

-- ---- visits that lead along a path

module _ (p : List ℕ) where
  -- a visit is a decomposition on the way
  abbrev pub is_on : Visit → Bool
  is_on v = is_did v.sight && begins v.path p

  -- what lies below a decomposition beside the way is left out
  abbrev pub left_out : Visit → Option (List ℕ)
  left_out v = cond (is_did v.sight && not (begins v.path p)) (Some v.path) None

  -- some visit is at a path, and among those that aren't left out no fault comes before it
  abbrev pub Comes : Option (List ℕ) → List Visit → Type 0
  Comes out [] = ⊥
  Comes out (v ∷ vs) =
      (v.path ≡ p)
      ⊎ (((is_out out v ≡ true) × Comes out vs)
      ⊎ ((is_out out v ≡ false) × (is_fault_here v.sight ≡ false) × Comes (left_out v) vs))

  -- visits lead along a path by decompositions at these nodes, and no fault comes before the last of them
  pub data Leads : Option (List ℕ) → List Node → List Visit → Type 0 where
    There : (out : Option (List ℕ)) (v : Visit) (vs : List Visit) → v.sight ≡ Did → v.path ≡ p
        → Leads out (v.node ∷ []) (v ∷ vs)
    Onward : (out : Option (List ℕ)) (v : Visit) (vs : List Visit) (ns : List Node) → v.sight ≡ Did
        → begins v.path p ≡ true → (length v.path == length p) ≡ false → Leads None ns vs
        → Leads out (v.node ∷ ns) (v ∷ vs)
    Out : (out : Option (List ℕ)) (v : Visit) (vs : List Visit) (ns : List Node) → is_out out v ≡ true
        → Leads out ns vs → Leads out ns (v ∷ vs)
    Aside : (out : Option (List ℕ)) (v : Visit) (vs : List Visit) (ns : List Node) → is_out out v ≡ false
        → is_fault_here v.sight ≡ false → is_on v ≡ false → Leads (left_out v) ns vs → Leads out ns (v ∷ vs)

  -- the last one is at the path
  pub record IsThere (ns : List Node) (v : Visit) : Type 0 where
    pub did : v.sight ≡ Did
    pub at : v.path ≡ p
    pub nodes : ns ≡ v.node ∷ []

  -- another one is above it
  pub record IsOnward (ns : List Node) (v : Visit) (vs : List Visit) : Type 0 where
    pub others : List Node
    pub did : v.sight ≡ Did
    pub begun : begins v.path p ≡ true
    pub above : (length v.path == length p) ≡ false
    pub nodes : ns ≡ v.node ∷ others
    pub rest : Leads None others vs

  -- or a visit is none of them
  pub record IsAside (out : Option (List ℕ)) (ns : List Node) (v : Visit) (vs : List Visit) : Type 0 where
    pub kept : is_out out v ≡ false
    pub fault : is_fault_here v.sight ≡ false
    pub off : is_on v ≡ false
    pub rest : Leads (left_out v) ns vs

  abbrev pub Cases : Option (List ℕ) → List Node → List Visit → Type 0
  Cases out ns [] = ⊥
  Cases out ns (v ∷ vs) =
      IsThere ns v ⊎ (IsOnward ns v vs ⊎ (((is_out out v ≡ true) × Leads out ns vs) ⊎ IsAside out ns v vs))

  pub cases : (out : Option (List ℕ)) (ns : List Node) (vs : List Visit) → Leads out ns vs → Cases out ns vs
  cases _ _ _ (There out v vs d a) = inl (record { did = d; at = a; nodes = refl })
  cases _ _ _ (Onward out v vs ns d b a rest) =
      inr (inl (record { others = ns; did = d; begun = b; above = a; nodes = refl; rest = rest }))
  cases _ _ _ (Out out v vs ns o rest) = inr (inr (inl (o, rest)))
  cases _ _ _ (Aside out v vs ns k f o rest) =
      inr (inr (inr (record { kept = k; fault = f; off = o; rest = rest })))

  -- ---- what is left out

  -- what is left out isn't on the way
  abbrev pub IsApart : Option (List ℕ) → Type 0
  IsApart None = Unit {0}
  IsApart (Some q) = begins q p ≡ false

  pub apart_left : (v : Visit) → IsApart (left_out v)
  apart_left v = by (is_did v.sight) (begins v.path p) refl
    where
      by : (a b : Bool) → begins v.path p ≡ b → IsApart (cond (a && not b) (Some v.path) None)
      by true true e = tt
      by true false e = e
      by false b e = tt

  pub not_out : (out : Option (List ℕ)) → IsApart out → (v : Visit) → begins v.path p ≡ true → is_out out v ≡ false
  not_out None a v h = refl
  not_out (Some q) a v h = by (begins q v.path) refl
    where
      by : (b : Bool) → begins q v.path ≡ b → b ≡ false
      by true e = sym (begins_through q v.path p e h) ∙ a
      by false e = refl

  -- what doesn't begin a path isn't the path
  never_it : (w : Visit) → begins w.path p ≡ false → w.path ≡ p → ⊥
  never_it w h e =
      let f : true ≡ false = sym (begins_itself p) ∙ (ap (λ q. begins q p) (sym e) ∙ h) in absurd (cc)

  pub off_way : (a b : Bool) → b ≡ false → (a && b) ≡ false
  off_way true b e = e
  off_way false b e = refl

  -- visits that aren't on the way don't matter
  past_all : (ns : List Node) (ws vs : List Visit) → All (λ w. begins w.path p ≡ false) ws
      → (out : Option (List ℕ)) → IsApart out → Comes out (ws ++ vs)
      → ((o : Option (List ℕ)) → IsApart o → Comes o vs → Leads o ns vs) → Leads out ns (ws ++ vs)
  past_all ns [] vs all out a c h = h out a c
  past_all ns (w ∷ ws) vs all out a c h =
      let off = All-head (λ w. begins w.path p ≡ false) w ws all in
      let others = past_all ns ws vs (All-tail (λ w. begins w.path p ≡ false) w ws all) in
      ⊎_elim (λ e. absurd (never_it w off e))
      (⊎_elim (λ k. Out out w (ws ++ vs) ns k.0 (others out a k.1 h))
      (λ k. Aside out w (ws ++ vs) ns k.0 k.1 (off_way (is_did w.sight) (begins w.path p) off)
      (others (left_out w) (apart_left w) k.2 h))) c

  -- visits lead along a path also without those that are left out
  pub leads_left : (q : List ℕ) → begins q p ≡ false → (vs : List Visit) (ns : List Node) → Leads (Some q) ns vs
      → Leads None ns (skip q vs)
  leads_left q apart [] ns h = absurd (cases (Some q) ns [] h)
  leads_left q apart (v ∷ vs) ns h = by (leads_left q apart vs ns) (begins q v.path) refl
    where
      stays : (k : Cases (Some q) ns (v ∷ vs)) → begins q v.path ≡ false → Leads None ns (v ∷ vs)
      stays k e =
          ⊎_elim (λ y. subst (λ ms. Leads None ms (v ∷ vs)) (sym y.nodes) (There None v vs y.did y.at))
          (⊎_elim
          (λ y. subst (λ ms. Leads None ms (v ∷ vs)) (sym y.nodes)
          (Onward None v vs y.others y.did y.begun y.above y.rest))
          (⊎_elim (λ y. let f : true ≡ false = sym y.0 ∙ e in absurd (cc))
          (λ y. Aside None v vs ns refl y.fault y.off y.rest))) k

      goes : (k : Cases (Some q) ns (v ∷ vs)) → begins q v.path ≡ true → (Leads (Some q) ns vs → Leads None ns (skip q vs))
          → Leads None ns (skip q vs)
      goes k e deep =
          ⊎_elim
          (λ y. let f : true ≡ false = sym e ∙ (ap (begins q) y.at ∙ apart) in absurd (cc))
          (⊎_elim
          (λ y. let f : true ≡ false = sym (begins_through q v.path p e y.begun) ∙ apart in absurd (cc))
          (⊎_elim (λ y. deep y.1) (λ y. let f : true ≡ false = sym e ∙ y.kept in absurd (cc)))) k

      by : (Leads (Some q) ns vs → Leads None ns (skip q vs)) → (b : Bool) → begins q v.path ≡ b
          → Leads None ns (cond b (skip q vs) (v ∷ vs))
      by deep false e = stays (cases (Some q) ns (v ∷ vs) h) e
      by deep true e = goes (cases (Some q) ns (v ∷ vs) h) e deep

module _ (rules : List Rule) (nest : ℕ) where
  -- each visit at or below a node is at or below its path
  abbrev Below : Node → List ℕ → Visit → Type 0
  Below n q v = (r : List ℕ) × (v.path ≡ q ++ r)

  all_below : (d : ℕ) (n : Node) (q : List ℕ) → All (Below n q) (visits_within rules nest d n q)
  all_below =
      all_visits_within rules nest Below (λ n q x. ([], sym (append-nil q)))
      (λ n m q i v c e r. (i ∷ r.0, r.1 ∙ append_assoc q (i ∷ []) r.0))

  -- what lies below another child isn't on the way
  module _ (q : List ℕ) (i : ℕ) (p : List ℕ) where
    abbrev whole : List ℕ
    whole = q ++ i ∷ p

    off_below : (d : ℕ) (m : Node) (k : ℕ) → k ≢ i
        → All (λ w. begins w.path whole ≡ false) (visits_within rules nest d m (q ++ k ∷ []))
    off_below d m k n = λ j w l.
        let b = all_below d m (q ++ k ∷ []) j w l in
        ap (λ x. begins x whole) (b.1 ∙ append_assoc q (k ∷ []) b.0) ∙ other_apart q b.0 p k i n

  -- ---- the child of a number

  -- the first number of a path leads to a child, and the others on from it
  record StepsTo (n : Node) (i : ℕ) (p : List ℕ) (l : Node) : Type 0 where
    some : is_empty n.network ≡ false
    deep : n.depth ≢ 0
    child : Node
    is : did_at (children rules nest n) i ≡ Some child
    others : node_at rules nest child p ≡ Some l
    nodes : nodes_on rules nest n (i ∷ p) ≡ child ∷ nodes_on rules nest child p

  child_alone : (n m : Node) (i : ℕ) → is_empty n.network ≡ false → (n.depth == 0) ≡ false
      → did_at (children rules nest n) i ≡ Some m → node_at rules nest n (i ∷ []) ≡ Some m
  unfolding node_at
  child_alone n m i e z h = rw (e, z, h) refl

  steps_to : (n : Node) (i : ℕ) (p : List ℕ) (l : Node) → node_at rules nest n (i ∷ p) ≡ Some l → StepsTo n i p l
  unfolding node_at
  steps_to n i p l h =
      by (is_empty n.network) refl (n.depth == 0) refl (did_at (children rules nest n) i) refl h
    where
      by : (e : Bool) → is_empty n.network ≡ e → (z : Bool) → (n.depth == 0) ≡ z → (o : Option Node)
          → did_at (children rules nest n) i ≡ o
          → cond e None (cond z None (option_and_then (λ m. node_at rules nest m p) o)) ≡ Some l → StepsTo n i p l
      by true e z f o g k = absurd (cc)
      by false e true f o g k = absurd (cc)
      by false e false f None g k = absurd (cc)
      by false e false f (Some m) g k = record {
        some = e;
        deep = λ x. let t : true ≡ false = sym (eq-eqb n.depth 0 x) ∙ f in absurd (cc);
        child = m;
        is = g;
        others = k;
        nodes =
            ap (λ o. elim o [ None ↦ [] | Some k ↦ k ∷ nodes_on rules nest k p ]) (child_alone n m i e f g);
      }

  numbered_did : (cs : List Child) (k j : ℕ) (m : Node) → did_at cs j ≡ Some m
      → Contains (numbered_children k cs) (k + j, DidChild m)
  numbered_did [] k j m h = absurd (cc)
  numbered_did (DidChild x ∷ cs) k zero m h =
      let e : x ≡ m = cc in
      let z : k ≡ k + 0 = omega arith in
      subst (λ y. Contains (numbered_children k (DidChild x ∷ cs)) (y, DidChild m)) z
      (subst (λ y. Contains (numbered_children k (DidChild x ∷ cs)) (k, DidChild y)) e
      (contains_first (k, DidChild x) (numbered_children (suc k) cs)))
  numbered_did (DidChild x ∷ cs) k (suc j) m h =
      let z : suc k + j ≡ k + suc j = omega arith in
      subst (λ y. Contains (numbered_children k (DidChild x ∷ cs)) (y, DidChild m)) z
      (contains_later (k, DidChild x) (suc k + j, DidChild m) (numbered_children (suc k) cs)
      (numbered_did cs (suc k) j m h))
  numbered_did (CutChild ∷ cs) k j m h =
      contains_later (k, CutChild) (k + j, DidChild m) (numbered_children k cs) (numbered_did cs k j m h)
  numbered_did (FaultChild f ∷ cs) k j m h =
      contains_later (k, FaultChild f) (k + j, DidChild m) (numbered_children k cs) (numbered_did cs k j m h)

  depth_below : (n m : Node) (d i : ℕ) → n.depth ≡ suc d → did_at (children rules nest n) i ≡ Some m → m.depth ≡ d
  depth_below n m d i e h =
      let z : 0 + i ≡ i = omega arith in
      child_depth rules nest n m d i e
      (subst (λ k. Contains (numbered_children 0 (children rules nest n)) (k, DidChild m)) z
      (numbered_did (children rules nest n) 0 i m h))

  -- ---- the visits of a node

  -- the visits at and below a node, with others behind them, lead along a path from it
  abbrev LeadFrom : ℕ → Type 0
  LeadFrom d =
      (m : Node) (q : List ℕ) (j : ℕ) (p : List ℕ) (l : Node) (rest : List Visit) → m.depth ≡ d
      → node_at rules nest m (j ∷ p) ≡ Some l → (out : Option (List ℕ)) → IsApart (q ++ j ∷ p) out
      → Comes (q ++ j ∷ p) out (visits_within rules nest d m q ++ rest)
      → Leads (q ++ j ∷ p) out (nodes_on rules nest m (j ∷ p)) (visits_within rules nest d m q ++ rest)

  module _ (d : ℕ) (deep : LeadFrom d) (n : Node) (q : List ℕ) (i : ℕ) where
    -- at the child that the first number names
    lead_here : (m l : Node) (p : List ℕ) (rest : List Visit) → m.depth ≡ d → node_at rules nest m p ≡ Some l
        → (out : Option (List ℕ)) → IsApart (q ++ i ∷ p) out
        → Comes (q ++ i ∷ p) out (visit (q ++ i ∷ []) m Did ∷ (visits_within rules nest d m (q ++ i ∷ []) ++ rest))
        → Leads (q ++ i ∷ p) out (m ∷ nodes_on rules nest m p)
        (visit (q ++ i ∷ []) m Did ∷ (visits_within rules nest d m (q ++ i ∷ []) ++ rest))
    lead_here m l [] rest e h out a c =
        There out (visit (q ++ i ∷ []) m Did) (visits_within rules nest d m (q ++ i ∷ []) ++ rest) refl refl
    lead_here m l (j ∷ p) rest e h out a c =
        let v = visit (q ++ i ∷ []) m Did in
        let way : (q ++ i ∷ []) ++ j ∷ p ≡ q ++ i ∷ j ∷ p = append_assoc q (i ∷ []) (j ∷ p) in
        let begun : begins (q ++ i ∷ []) (q ++ i ∷ j ∷ p) ≡ true =
        subst (λ x. begins (q ++ i ∷ []) x ≡ true) way (begins_on (q ++ i ∷ []) (j ∷ p)) in
        let vs = visits_within rules nest d m (q ++ i ∷ []) ++ rest in
        let none : left_out (q ++ i ∷ j ∷ p) v ≡ None =
        ap (λ b. cond (not b) (Some (q ++ i ∷ [])) None) begun in
        let come : Comes (q ++ i ∷ j ∷ p) None vs =
        ⊎_elim (λ x. absurd (not_longer (q ++ i ∷ []) j p (x ∙ sym way)))
        (⊎_elim (λ x. let f : true ≡ false = sym x.0 ∙ not_out (q ++ i ∷ j ∷ p) out a v begun in absurd (cc))
        (λ x. subst (λ o. Comes (q ++ i ∷ j ∷ p) o vs) none x.2)) c in
        Onward out v vs (nodes_on rules nest m (j ∷ p)) refl begun
        (ne_eqb (length (q ++ i ∷ [])) (length (q ++ i ∷ j ∷ p))
        (λ x. omega (arith, x, length-append q (i ∷ []), length-append q (i ∷ j ∷ p))))
        (subst (λ x. Leads x None (nodes_on rules nest m (j ∷ p)) vs) way
        (deep m (q ++ i ∷ []) j p l rest e h None tt (subst (λ x. Comes x None vs) (sym way) come)))

    abbrev of_children : ℕ → List Child → List Visit
    of_children k cs = flat_map (child_visits (visits_within rules nest d) n q) (numbered_children k cs)

    -- among the children from one on
    lead_on : (cs : List Child) (k j : ℕ) (m l : Node) (p : List ℕ) (rest : List Visit) → k + j ≡ i
        → did_at cs j ≡ Some m → m.depth ≡ d → node_at rules nest m p ≡ Some l
        → (out : Option (List ℕ)) → IsApart (q ++ i ∷ p) out → Comes (q ++ i ∷ p) out (of_children k cs ++ rest)
        → Leads (q ++ i ∷ p) out (m ∷ nodes_on rules nest m p) (of_children k cs ++ rest)
    lead_on [] k j m l p rest s h e t out a c = absurd (cc)
    lead_on (CutChild ∷ cs) k j m l p rest s h e t out a c =
        let v = visit q n CutHere in
        let vs = of_children k cs ++ rest in
        let ns = m ∷ nodes_on rules nest m p in
        let others = lead_on cs k j m l p rest s h e t in
        ⊎_elim (λ x. absurd (not_longer q i p x))
        (⊎_elim (λ x. Out out v vs ns x.0 (others out a x.1))
        (λ x. Aside out v vs ns x.0 refl refl (others None tt x.2))) c
    lead_on (FaultChild f ∷ cs) k j m l p rest s h e t out a c =
        ⊎_elim (λ x. absurd (not_longer q i p x))
        (⊎_elim (λ x. Out out (visit q n (FaultHere f)) (of_children k cs ++ rest) (m ∷ nodes_on rules nest m p) x.0
        (lead_on cs k j m l p rest s h e t out a x.1))
        (λ x. let g : true ≡ false = x.1 in absurd (cc))) c
    lead_on (DidChild x ∷ cs) k zero m l p rest s h e t out a c =
        let same : x ≡ m = cc in
        let here : k ≡ i = omega (arith, s) in
        let vs = visits_within rules nest d m (q ++ i ∷ []) in
        let whole : of_children k (DidChild x ∷ cs) ++ rest
        ≡ visit (q ++ i ∷ []) m Did ∷ (vs ++ (of_children (suc k) cs ++ rest)) =
        ap₂ (λ y z. (visit (q ++ z ∷ []) y Did ∷ (visits_within rules nest d y (q ++ z ∷ []) ++ of_children (suc k) cs)) ++ rest)
        same here
        ∙ ap (λ ws. visit (q ++ i ∷ []) m Did ∷ ws) (append_assoc vs (of_children (suc k) cs) rest) in
        subst (Leads (q ++ i ∷ p) out (m ∷ nodes_on rules nest m p)) (sym whole)
        (lead_here m l p (of_children (suc k) cs ++ rest) e t out a (subst (Comes (q ++ i ∷ p) out) whole c))
    lead_on (DidChild x ∷ cs) k (suc j) m l p rest s h e t out a c =
        let other : k ≢ i = λ y. omega (arith, y, s) in
        let ws = visit (q ++ k ∷ []) x Did ∷ visits_within rules nest d x (q ++ k ∷ []) in
        let whole : of_children k (DidChild x ∷ cs) ++ rest ≡ ws ++ (of_children (suc k) cs ++ rest) =
        append_assoc ws (of_children (suc k) cs) rest in
        subst (Leads (q ++ i ∷ p) out (m ∷ nodes_on rules nest m p)) (sym whole)
        (past_all (q ++ i ∷ p) (m ∷ nodes_on rules nest m p) ws (of_children (suc k) cs ++ rest)
        (All-cons (λ w. begins w.path (q ++ i ∷ p) ≡ false) (visit (q ++ k ∷ []) x Did)
        (visits_within rules nest d x (q ++ k ∷ [])) (other_apart q [] p k i other) (off_below q i p d x k other))
        out a (subst (Comes (q ++ i ∷ p) out) whole c)
        (λ o b y. lead_on cs (suc k) j m l p rest (omega (arith, s)) h e t o b y))

  pub lead_from : (d : ℕ) → LeadFrom d
  unfolding visits_within
  lead_from zero m q j p l rest e h out a c = absurd ((steps_to m j p l h).deep e)
  lead_from (suc d) m q j p l rest e h out a c =
      let to = steps_to m j p l h in
      subst (λ b. Comes (q ++ j ∷ p) out (cond b (visit q m Plan ∷ [])
      (of_children d (lead_from d) m q j 0 (children rules nest m)) ++ rest)
      → Leads (q ++ j ∷ p) out (nodes_on rules nest m (j ∷ p)) (cond b (visit q m Plan ∷ [])
      (of_children d (lead_from d) m q j 0 (children rules nest m)) ++ rest)) (sym to.some)
      (λ k. subst (λ ns. Leads (q ++ j ∷ p) out ns (of_children d (lead_from d) m q j 0 (children rules nest m) ++ rest))
      (sym to.nodes)
      (lead_on d (lead_from d) m q j (children rules nest m) 0 j to.child l p rest (omega arith) to.is
      (depth_below m to.child d j e to.is) to.others out a k)) c
