-- A tree without a cut and a fault is the same one deeper, apart from the depth that is left.
use Rattle.std.proofs.Common.{◌≡◌, ◌≢◌, ℕ, zero, suc, ◌-◌, ◌≤◌, Bool, true, false, cond, List, [], ◌∷◌, ◌++◌, refl, sym, ◌∙◌, ap, subst, arith, ⊎_elim, map}
use Rattle.std.specs.Prelude.{flat_map}
use Rattle.std.specs.List.{All}
use Rattle.std.proofs.lemmas.Bool.{false≢true, cond-true, cond-false, cases_Bool}
use Rattle.std.proofs.lemmas.List.Folds.{flat_map-map}
use Rattle.std.proofs.lemmas.List.Elements.{All-map, All-weaker, All-head, All-tail}
use Rattle.hp_syntax.specs.Syntax.{Rule, Pair}
use Rattle.hp_syntax.specs.Networks.{is_empty}
use Rattle.hp_laws.specs.TreeLaws.{IsFaultless, IsReached, without_depth}
use Rattle.hp_syntax.specs.Walk as walk
use Rattle.hp_laws.proofs.JoinLemmas.{all_joined, all_unmapped, map_join, join_same}
use Rattle.hp_laws.proofs.DepthLemmas.{at_depth, child_at_depth, children_at_depth}
use Rattle.hp_laws.proofs.HearingLemmas.{up_to_end, up_to-map}

-- a numbered child that has another depth
abbrev numbered_at_depth : ℕ → ℕ × walk.Child → ℕ × walk.Child
numbered_at_depth k c = (c.0, child_at_depth k c.1)

-- children of another depth have the same numbers
same_numbers : (k i : ℕ) (cs : List walk.Child)
    → walk.numbered_children i (map (child_at_depth k) cs) ≡ map (numbered_at_depth k) (walk.numbered_children i cs)
same_numbers k i [] = refl
same_numbers k i (walk.DidChild m ∷ cs) = ap (λ xs. (i, walk.DidChild (at_depth k m)) ∷ xs) (same_numbers k (suc i) cs)
same_numbers k i (walk.CutChild ∷ cs) = ap (λ xs. (i, walk.CutChild) ∷ xs) (same_numbers k i cs)
same_numbers k i (walk.FaultChild f ∷ cs) = ap (λ xs. (i, walk.FaultChild f) ∷ xs) (same_numbers k i cs)

-- visits that all reach a node: none is a cut or a fault
abbrev AreReached : List walk.Visit → Type 0
AreReached vs = All (λ v. IsReached v.sight) vs

module _ (rules : List Rule) (nest : ℕ) where
  -- a node without tasks is a plan, whatever the depth
  empty_is_plan : (d : ℕ) (n : walk.Node) (p : List ℕ) → is_empty n.network ≡ true
      → walk.visits_within rules nest d n p ≡ walk.visit p n walk.Plan ∷ []
  unfolding walk.visits_within
  empty_is_plan zero n p e = ap (λ s. walk.visit p n s ∷ []) (cond-true (is_empty n.network) walk.Plan walk.CutHere e)
  empty_is_plan (suc d) n p e =
      cond-true (is_empty n.network) (walk.visit p n walk.Plan ∷ [])
      (flat_map (walk.child_visits (walk.visits_within rules nest d) n p)
      (walk.numbered_children 0 (walk.children rules nest n))) e

  -- the visits of a child of a node that has another depth
  abbrev of_child : ℕ → ℕ → walk.Node → List ℕ → ℕ × walk.Child → List walk.Visit
  of_child d k n p c = walk.child_visits (walk.visits_within rules nest d) (at_depth k n) p
      (numbered_at_depth (k - 1) c)

  -- a node with tasks has the visits of its children, which are those of another depth
  visits_of_children : (d k : ℕ) (n : walk.Node) (p : List ℕ) → is_empty n.network ≡ false
      → walk.visits_within rules nest (suc d) (at_depth k n) p
      ≡ flat_map (of_child d k n p) (walk.numbered_children 0 (walk.children rules nest n))
  unfolding walk.visits_within
  visits_of_children d k n p e =
      cond-false (is_empty n.network) (walk.visit p (at_depth k n) walk.Plan ∷ [])
      (flat_map (walk.child_visits (walk.visits_within rules nest d) (at_depth k n) p)
      (walk.numbered_children 0 (walk.children rules nest (at_depth k n)))) e
      ∙ (ap (λ cs. flat_map (walk.child_visits (walk.visits_within rules nest d) (at_depth k n) p)
      (walk.numbered_children 0 cs))
      (children_at_depth k n rules nest)
      ∙ (ap (flat_map (walk.child_visits (walk.visits_within rules nest d) (at_depth k n) p))
      (same_numbers (k - 1) 0 (walk.children rules nest n))
      ∙ flat_map-map (walk.child_visits (walk.visits_within rules nest d) (at_depth k n) p) (numbered_at_depth (k - 1))
      (walk.numbered_children 0 (walk.children rules nest n))))

  -- where no decomposition is left and there is no cut, there are no tasks
  no_tasks : (n : walk.Node) (p : List ℕ) → AreReached (walk.visits_within rules nest zero n p) → is_empty n.network
      ≡ true
  unfolding walk.visits_within
  no_tasks n p a =
      reached (is_empty n.network)
      (All-head (λ v. IsReached v.sight) (walk.visit p n (cond (is_empty n.network) walk.Plan walk.CutHere)) [] a)
    where
      reached : (b : Bool) → IsReached (cond b walk.Plan walk.CutHere) → b ≡ true
      reached true h = refl
      reached false h = absurd (false≢true h)

  -- the visits of a child of two nodes that differ in depth differ in depth alone
  child_stays : (d e j k : ℕ) (n : walk.Node) (p : List ℕ)
      → ((m : walk.Node) (q : List ℕ) → AreReached (walk.visits_within rules nest d (at_depth (j - 1) m) q)
      → map without_depth (walk.visits_within rules nest d (at_depth (j - 1) m) q)
      ≡ map without_depth (walk.visits_within rules nest e (at_depth (k - 1) m) q))
      → (i : ℕ) (c : walk.Child)
      → AreReached (walk.child_visits (walk.visits_within rules nest d) (at_depth j n) p (i, child_at_depth (j - 1) c))
      → map without_depth (walk.child_visits (walk.visits_within rules nest d) (at_depth j n) p
      (i, child_at_depth (j - 1) c))
      ≡ map without_depth (walk.child_visits (walk.visits_within rules nest e) (at_depth k n) p
      (i, child_at_depth (k - 1) c))
  child_stays d e j k n p deep i (walk.DidChild m) a =
      ap (λ vs. walk.visit (p ++ i ∷ []) (at_depth 0 m) walk.Did ∷ vs) (deep m (p ++ i ∷ [])
      (All-tail (λ v. IsReached v.sight) (walk.visit (p ++ i ∷ []) (at_depth (j - 1) m) walk.Did)
      (walk.visits_within rules nest d (at_depth (j - 1) m) (p ++ i ∷ [])) a))
  child_stays d e j k n p deep i walk.CutChild a = refl
  child_stays d e j k n p deep i (walk.FaultChild f) a = refl

  -- a whole tree is the same one deeper
  tree_stays : (d e : ℕ) → d ≤ e → (j k : ℕ) (n : walk.Node) (p : List ℕ)
      → AreReached (walk.visits_within rules nest d (at_depth j n) p)
      → map without_depth (walk.visits_within rules nest d (at_depth j n) p)
      ≡ map without_depth (walk.visits_within rules nest e (at_depth k n) p)
  tree_stays zero e l j k n p a =
      let h = no_tasks (at_depth j n) p a in
      ap (map without_depth) (empty_is_plan zero (at_depth j n) p h)
      ∙ ap (map without_depth) (sym (empty_is_plan e (at_depth k n) p h))
  tree_stays (suc d) zero l j k n p a = absurd (omega arith)
  tree_stays (suc d) (suc e) l j k n p a =
      ⊎_elim
      (λ h. ap (map without_depth) (empty_is_plan (suc d) (at_depth j n) p h)
      ∙ ap (map without_depth) (sym (empty_is_plan (suc e) (at_depth k n) p h)))
      (λ h. let here = of_child d j n p in
      let there = of_child e k n p in
      let cs = walk.numbered_children 0 (walk.children rules nest n) in
      let w = subst AreReached (visits_of_children d j n p h) a in
      ap (map without_depth) (visits_of_children d j n p h)
      ∙ (map_join here without_depth cs
      ∙ (join_same (λ c. map without_depth (here c)) (λ c. map without_depth (there c)) cs
      (All-weaker (λ c. AreReached (here c)) (λ c. map without_depth (here c) ≡ map without_depth (there c))
      (λ c b. child_stays d e j k n p (λ m q. tree_stays d e (omega arith) (j - 1) (k - 1) m q) c.0 c.1 b) cs
      (all_joined here (λ v. IsReached v.sight) cs w))
      ∙ (sym (map_join there without_depth cs)
      ∙ sym (ap (map without_depth) (visits_of_children e k n p h))))))
      (cases_Bool (is_empty n.network))

-- an event that is no cut and no fault is no fault
reached_faultless : (s : walk.Sight) → IsReached s → IsFaultless s
reached_faultless walk.Did h = refl
reached_faultless walk.Plan h = refl
reached_faultless walk.CutHere h = refl
reached_faultless (walk.FaultHere f) h = absurd (false≢true h)

-- as much is heard of visits without their depth
heard_without_depth : (vs : List walk.Visit) → walk.heard_visits (map without_depth vs)
    ≡ map without_depth (walk.heard_visits vs)
heard_without_depth vs = up_to-map without_depth (λ v. walk.is_fault_here v.sight) vs

-- a whole walk is the same one deeper
pub walk_stays : (rules : List Rule) (nest : ℕ) (pair : Pair) (depth more : ℕ) → depth ≤ more
    → All (λ v. IsReached v.sight) (walk.walk rules nest pair depth)
    → map without_depth (walk.walk rules nest pair depth) ≡ map without_depth (walk.walk rules nest pair more)
unfolding walk.walk walk.visits walk.root
walk_stays rules nest pair depth more l a =
    let here = walk.visits_within rules nest depth (walk.root pair depth) [] in
    let there = walk.visits_within rules nest more (walk.root pair more) [] in
    let f = All-weaker (λ v. IsReached v.sight) (λ v. IsFaultless v.sight) (λ v. reached_faultless v.sight)
    (walk.heard_visits here) a in
    sym (heard_without_depth here)
    ∙ (ap walk.heard_visits (tree_stays rules nest depth more l depth more (walk.root pair 0) []
    (subst AreReached (up_to_end (λ v. walk.is_fault_here v.sight) here f) a))
    ∙ heard_without_depth there)

-- so there is no plan deeper where there is none
pub no_plan_deeper : (rules : List Rule) (nest : ℕ) (pair : Pair) (depth more : ℕ) → depth ≤ more
    → All (λ v. IsReached v.sight) (walk.walk rules nest pair depth)
    → All (λ v. v.sight ≢ walk.Plan) (walk.walk rules nest pair depth)
    → All (λ v. v.sight ≢ walk.Plan) (walk.walk rules nest pair more)
no_plan_deeper rules nest pair depth more l a b =
    all_unmapped (λ v. v.sight ≢ walk.Plan) without_depth (walk.walk rules nest pair more)
    (subst (All (λ v. v.sight ≢ walk.Plan)) (walk_stays rules nest pair depth more l a)
    (All-map (λ v. v.sight ≢ walk.Plan) without_depth (walk.walk rules nest pair depth) b))
