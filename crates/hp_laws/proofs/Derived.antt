-- The visits of a walk are derived from its root.
use Rattle.std.proofs.Common.{◌≡◌, ℕ, zero, suc, ◌+◌, true, cond, ℤ, List, [], ◌∷◌, ◌++◌, length, refl, sym, ◌∙◌, ap, subst, arith, append_assoc}
use Rattle.std.specs.Prelude.{pos, ◌+ℤ◌, flat_map}
use Rattle.std.specs.List.{All}
use Rattle.std.proofs.Math.IntN.{+ℤ_assoc, +ℤ_idl, +ℤ_idr}
use Rattle.std.proofs.lemmas.Bool.{cond_both}
use Rattle.std.proofs.lemmas.List.{append-nil, length_push}
use Rattle.std.proofs.lemmas.List.Elements.{All-cons, All-weaker}
use Rattle.hp_syntax.specs.Syntax.{Rule, Pair}
use Rattle.hp_syntax.specs.Terms.{Term}
use Rattle.hp_syntax.specs.Networks.{Network, Empty, Task, Ordered, Unordered, is_empty}
use Rattle.hp_syntax.specs.Walk as walk
use Rattle.hp_laws.specs.Derivations.{Choosing, Performs, Decomposes, Derives, Nothing, ByOperator, ByMethod, Leads, ByStep, BySubtasks, situation_at, first_situation}
use Rattle.hp_laws.proofs.JoinLemmas.{all_one, all_join, all_from}
use Rattle.hp_laws.proofs.DepthLemmas.{contained_child}
use Rattle.hp_laws.proofs.VisitLemmas.{all_visits, all_visits_of_tree}
use Rattle.hp_laws.proofs.HearingLemmas.{all_up_to}
use Rattle.hp_laws.proofs.ChildLemmas.{did_leads}

-- ---- derivations

module _ (rules : List Rule) (nest : ℕ) where
  -- a visit's node is derived from one at a path
  record IsDerived (n : walk.Node) (p : List ℕ) (v : walk.Visit) : Type 0 where
    choices : List Choosing
    more : List Term
    rest : ℤ
    derives : Derives rules nest choices (situation_at n) more rest (situation_at v.node)
    steps : v.node.steps ≡ n.steps ++ more
    cost : v.node.cost ≡ n.cost +ℤ rest
    path : length v.path ≡ length p + length choices

  -- each node is derived from itself
  derived_here : (n : walk.Node) (p : List ℕ) (x : walk.Sight) → IsDerived n p (walk.visit p n x)
  derived_here n p x = record {
    choices = [];
    more = [];
    rest = pos 0;
    derives = Nothing (situation_at n);
    steps = sym (append-nil n.steps);
    cost = sym (+ℤ_idr n.cost);
    path = omega arith;
  }

  -- a derivation from the node that a choice leads to is one from the node before it
  derived_before : (n m : walk.Node) (p : List ℕ) (i : ℕ) (v : walk.Visit) (c : Choosing) → Leads rules nest c n m
      → IsDerived m (p ++ i ∷ []) v → IsDerived n p v
  derived_before n m p i v c (ByStep s t k f q) d =
      let long = length_push p i in let w = d.path in
      record {
        choices = c ∷ d.choices;
        more = t ∷ d.more;
        rest = k +ℤ d.rest;
        derives =
            ByOperator c d.choices (situation_at n) (situation_at m) (situation_at v.node) t d.more k d.rest
            (subst (Performs rules nest c (situation_at n) t k) (sym (ap situation_at q)) f) d.derives;
        steps =
            d.steps ∙ (ap (λ (x : walk.Node). x.steps ++ d.more) q ∙ append_assoc n.steps (t ∷ []) d.more);
        cost = d.cost ∙ (ap (λ (x : walk.Node). x.cost +ℤ d.rest) q ∙ +ℤ_assoc n.cost k d.rest);
        path = omega arith;
      }
  derived_before n m p i v c (BySubtasks s f q) d =
      let long = length_push p i in let w = d.path in
      record {
        choices = c ∷ d.choices;
        more = d.more;
        rest = d.rest;
        derives =
            ByMethod c d.choices (situation_at n) (situation_at m) (situation_at v.node) d.more d.rest
            (subst (Decomposes rules nest c (situation_at n)) (sym (ap situation_at q)) f) d.derives;
        steps = d.steps ∙ ap (λ (x : walk.Node). x.steps ++ d.more) q;
        cost = d.cost ∙ ap (λ (x : walk.Node). x.cost +ℤ d.rest) q;
        path = omega arith;
      }

  -- so all visits are derived from the root
  all_derived : (n : walk.Node) (p : List ℕ) → All (IsDerived n p) (walk.visits rules nest n p)
  all_derived =
      all_visits rules nest IsDerived derived_here
      (λ n m p i v c e d.
      let l = did_leads rules nest n m (contained_child 0 i (walk.DidChild m) (walk.children rules nest n) c) in
      derived_before n m p i v l.0 l.1 d)

  -- a visit's node is derived from the first situation of a pair, by the steps and the cost that it tells
  abbrev pub IsDerivedFrom : Pair → walk.Visit → Type 0
  IsDerivedFrom pair v =
      (cs : List Choosing) × Derives rules nest cs (first_situation pair) v.node.steps v.node.cost (situation_at v.node)
      × (length cs ≡ length v.path)

  -- so it is where it is derived from the root
  derived_from_root : (pair : Pair) (depth : ℕ) (v : walk.Visit) → IsDerived (walk.root pair depth) [] v
      → IsDerivedFrom pair v
  unfolding walk.root
  derived_from_root pair depth v d =
      let start = first_situation pair in
      let k : d.rest ≡ v.node.cost = sym (d.cost ∙ +ℤ_idl d.rest) in
      let w = d.path in (
        d.choices,
        subst (λ ts. Derives rules nest d.choices start ts v.node.cost (situation_at v.node)) (sym d.steps)
            (subst (λ x. Derives rules nest d.choices start d.more x (situation_at v.node)) k d.derives),
        omega arith,
      )

  -- a visit of a walk is derived from the first situation of its pair
  pub walk_is_derived : (pair : Pair) (depth : ℕ) → All (IsDerivedFrom pair) (walk.walk rules nest pair depth)
  unfolding walk.walk
  walk_is_derived pair depth =
      all_up_to (λ v. walk.is_fault_here v.sight) (IsDerivedFrom pair)
      (walk.visits rules nest (walk.root pair depth) [])
      (All-weaker (IsDerived (walk.root pair depth) []) (IsDerivedFrom pair) (derived_from_root pair depth)
      (walk.visits rules nest (walk.root pair depth) []) (all_derived (walk.root pair depth) []))

-- ---- depth

-- a path and the depth that is left at its end make up the depth
depth_is_spent : (rules : List Rule) (nest : ℕ) (n : walk.Node) (p : List ℕ)
    → All (λ v. length v.path + v.node.depth ≡ length p + n.depth) (walk.visits rules nest n p)
depth_is_spent rules nest =
    all_visits_of_tree rules nest (λ n p v. length v.path + v.node.depth ≡ length p + n.depth) (λ n p x. refl)
    (λ d n m p i v c e f g h. let long = length_push p i in omega arith)

-- so it is in a walk
pub walk_depth : (rules : List Rule) (nest : ℕ) (pair : Pair) (depth : ℕ)
    → All (λ v. length v.path + v.node.depth ≡ depth) (walk.walk rules nest pair depth)
unfolding walk.walk walk.root
walk_depth rules nest pair depth =
    all_up_to (λ v. walk.is_fault_here v.sight) (λ v. length v.path + v.node.depth ≡ depth)
    (walk.visits rules nest (walk.root pair depth) [])
    (All-weaker (λ v. length v.path + v.node.depth ≡ 0 + depth) (λ v. length v.path + v.node.depth ≡ depth)
    (λ v h. omega arith) (walk.visits rules nest (walk.root pair depth) [])
    (depth_is_spent rules nest (walk.root pair depth) []))

-- ---- plans

-- at a plan nothing is left to do
abbrev IsFinished : walk.Visit → Type 0
IsFinished v = v.sight ≡ walk.Plan → v.node.network ≡ Empty

-- a network that has no part is empty
empty_network : (net : Network) → is_empty net ≡ true → net ≡ Empty
empty_network Empty e = refl
empty_network (Task t i) e = absurd cc
empty_network (Ordered ns) e = absurd cc
empty_network (Unordered ns) e = absurd cc

module _ (rules : List Rule) (nest : ℕ) where
  -- where it is so below a node's children, it is so of what is seen by a child
  child_finished : (below : walk.Node → List ℕ → List walk.Visit)
      → ((m : walk.Node) (q : List ℕ) → All IsFinished (below m q))
      → (n : walk.Node) (p : List ℕ) (c : ℕ × walk.Child) → All IsFinished (walk.child_visits below n p c)
  child_finished below h n p (i, walk.DidChild m) =
      All-cons IsFinished (walk.visit (p ++ i ∷ []) m walk.Did) (below m (p ++ i ∷ [])) (λ e. absurd cc)
      (h m (p ++ i ∷ []))
  child_finished below h n p (i, walk.CutChild) = all_one IsFinished (walk.visit p n walk.CutHere) (λ e. absurd cc)
  child_finished below h n p (i, walk.FaultChild f) = all_one IsFinished (walk.visit p n (walk.FaultHere f))
      (λ e. absurd cc)

  -- so it is of all visits
  all_finished : (d : ℕ) (n : walk.Node) (p : List ℕ) → All IsFinished (walk.visits_within rules nest d n p)
  unfolding walk.visits_within
  all_finished zero n p =
      all_one IsFinished (walk.visit p n (cond (is_empty n.network) walk.Plan walk.CutHere))
      (cond_both (is_empty n.network) walk.Plan walk.CutHere (λ s. s ≡ walk.Plan → n.network ≡ Empty)
      (λ e s. empty_network n.network e) (λ e s. absurd cc))
  all_finished (suc d) n p =
      let each = walk.child_visits (walk.visits_within rules nest d) n p in
      let cs = walk.numbered_children 0 (walk.children rules nest n) in
      cond_both (is_empty n.network) (walk.visit p n walk.Plan ∷ []) (flat_map each cs) (All IsFinished)
      (λ e. all_one IsFinished (walk.visit p n walk.Plan) (λ s. empty_network n.network e))
      (λ e. all_join each IsFinished cs (all_from (λ c. All IsFinished (each c))
      (child_finished (walk.visits_within rules nest d) (λ m q. all_finished d m q) n p) cs))

  -- and of those of a walk
  pub walk_is_finished : (pair : Pair) (depth : ℕ)
      → All (λ v. v.sight ≡ walk.Plan → v.node.network ≡ Empty) (walk.walk rules nest pair depth)
  unfolding walk.walk walk.visits
  walk_is_finished pair depth =
      all_up_to (λ v. walk.is_fault_here v.sight) IsFinished (walk.visits rules nest (walk.root pair depth) [])
      (all_finished (walk.root pair depth).depth (walk.root pair depth) [])
