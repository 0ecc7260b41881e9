-- A fact of a node that passes from the visits of its children holds of all visits.
use Rattle.std.proofs.Common.{◌≡◌, ℕ, zero, suc, false, cond, List, [], ◌∷◌, ◌++◌, refl}
use Rattle.std.specs.Prelude.{Contains, flat_map}
use Rattle.std.specs.List.{All}
use Rattle.std.proofs.lemmas.Bool.{cond_both}
use Rattle.std.proofs.lemmas.List.Elements.{All-cons, All-weaker}
use Rattle.hp_syntax.specs.Syntax.{Rule}
use Rattle.hp_syntax.specs.Networks.{is_empty}
use Rattle.hp_syntax.specs.Walk as walk
use Rattle.hp_laws.proofs.JoinLemmas.{all_one, all_join_contains}
use Rattle.hp_laws.proofs.DepthLemmas.{child_depth}

-- a visit of a decomposition below a node that is not empty passes on what it says to the node
abbrev pub Passes : List Rule → ℕ → (ℕ → walk.Node → List ℕ → walk.Visit → Type 0) → Type 0
Passes rules nest P =
    (d : ℕ) (n m : walk.Node) (p : List ℕ) (i : ℕ) (v : walk.Visit)
    → Contains (walk.numbered_children 0 (walk.children rules nest n)) (i, walk.DidChild m) → is_empty n.network ≡ false
    → P d m (p ++ i ∷ []) v → P (suc d) n p v

module _ (rules : List Rule) (nest : ℕ) (P : ℕ → walk.Node → List ℕ → walk.Visit → Type 0)
    (here : (d : ℕ) (n : walk.Node) (p : List ℕ) (x : walk.Sight) → P d n p (walk.visit p n x))
    (step : Passes rules nest P) where
  -- it holds of the visits of a child of a node, where it holds below the child
  of_child : (d : ℕ) (n : walk.Node) (p : List ℕ) (i : ℕ) (c : walk.Child)
      → ((m : walk.Node) (q : List ℕ) → All (P d m q) (walk.visits_within rules nest d m q)) → is_empty n.network
      ≡ false
      → Contains (walk.numbered_children 0 (walk.children rules nest n)) (i, c)
      → All (P (suc d) n p) (walk.child_visits (walk.visits_within rules nest d) n p (i, c))
  of_child d n p i (walk.DidChild m) deep e c =
      All-cons (P (suc d) n p) (walk.visit (p ++ i ∷ []) m walk.Did) (walk.visits_within rules nest d m (p ++ i ∷ []))
      (step d n m p i (walk.visit (p ++ i ∷ []) m walk.Did) c e (here d m (p ++ i ∷ []) walk.Did))
      (All-weaker (P d m (p ++ i ∷ [])) (P (suc d) n p) (λ v h. step d n m p i v c e h)
      (walk.visits_within rules nest d m (p ++ i ∷ [])) (deep m (p ++ i ∷ [])))
  of_child d n p i walk.CutChild deep e c = all_one (P (suc d) n p) (walk.visit p n walk.CutHere)
      (here (suc d) n p walk.CutHere)
  of_child d n p i (walk.FaultChild f) deep e c =
      all_one (P (suc d) n p) (walk.visit p n (walk.FaultHere f)) (here (suc d) n p (walk.FaultHere f))

  -- a fact of each node and the depth below it that passes to the node above holds of all visits
  pub all_visits_by_depth : (d : ℕ) (n : walk.Node) (p : List ℕ) → All (P d n p) (walk.visits_within rules nest d n p)
  unfolding walk.visits_within
  all_visits_by_depth zero n p =
      all_one (P zero n p) (walk.visit p n (cond (is_empty n.network) walk.Plan walk.CutHere))
      (here zero n p (cond (is_empty n.network) walk.Plan walk.CutHere))
  all_visits_by_depth (suc d) n p =
      cond_both (is_empty n.network) (walk.visit p n walk.Plan ∷ [])
      (flat_map (walk.child_visits (walk.visits_within rules nest d) n p)
      (walk.numbered_children 0 (walk.children rules nest n)))
      (All (P (suc d) n p))
      (λ e. all_one (P (suc d) n p) (walk.visit p n walk.Plan) (here (suc d) n p walk.Plan))
      (λ e. all_join_contains (walk.child_visits (walk.visits_within rules nest d) n p) (P (suc d) n p)
      (walk.numbered_children 0 (walk.children rules nest n))
      (λ c h. of_child d n p c.0 c.1 (λ m q. all_visits_by_depth d m q) e h))

module _ (rules : List Rule) (nest : ℕ) (P : walk.Node → List ℕ → walk.Visit → Type 0)
    (here : (n : walk.Node) (p : List ℕ) (x : walk.Sight) → P n p (walk.visit p n x))
    (step : (n m : walk.Node) (p : List ℕ) (i : ℕ) (v : walk.Visit)
    → Contains (walk.numbered_children 0 (walk.children rules nest n)) (i, walk.DidChild m) → is_empty n.network ≡ false
    → P m (p ++ i ∷ []) v → P n p v) where
  -- a fact of each node that passes to the node above holds of all visits
  pub all_visits_within : (d : ℕ) (n : walk.Node) (p : List ℕ) → All (P n p) (walk.visits_within rules nest d n p)
  all_visits_within d n p =
      all_visits_by_depth rules nest (λ d. P) (λ d. here) (λ d n m p i v c e h. step n m p i v c e h) d n p

  -- so of all visits of a tree
  pub all_visits : (n : walk.Node) (p : List ℕ) → All (P n p) (walk.visits rules nest n p)
  unfolding walk.visits
  all_visits n p = all_visits_within n.depth n p

module _ (rules : List Rule) (nest : ℕ) (P : walk.Node → List ℕ → walk.Visit → Type 0)
    (here : (n : walk.Node) (p : List ℕ) (x : walk.Sight) → P n p (walk.visit p n x))
    (step : (d : ℕ) (n m : walk.Node) (p : List ℕ) (i : ℕ) (v : walk.Visit)
    → Contains (walk.numbered_children 0 (walk.children rules nest n)) (i, walk.DidChild m) → is_empty n.network ≡ false
    → n.depth ≡ suc d → m.depth ≡ d → P m (p ++ i ∷ []) v → P n p v) where
  -- where the depth is that of the node, a node with children has a decomposition left, and its child one less
  pub all_visits_of_depth : (d : ℕ) (n : walk.Node) (p : List ℕ) → n.depth ≡ d
      → All (P n p) (walk.visits_within rules nest d n p)
  all_visits_of_depth d n p e =
      All-weaker (λ v. n.depth ≡ d → P n p v) (P n p) (λ v h. h e) (walk.visits_within rules nest d n p)
      (all_visits_by_depth rules nest (λ d n p v. n.depth ≡ d → P n p v) (λ d n p x e. here n p x)
      (λ d n m p i v c k h e. let f = child_depth rules nest n m d i e c in step d n m p i v c k e f (h f)) d n p)

  -- so of all visits of a tree
  pub all_visits_of_tree : (n : walk.Node) (p : List ℕ) → All (P n p) (walk.visits rules nest n p)
  unfolding walk.visits
  all_visits_of_tree n p = all_visits_of_depth n.depth n p refl
