-- Each derivation of choices is among the visits of a tree.
use Rattle.std.proofs.Common.{◌≡◌, ℕ, zero, suc, ◌+◌, ◌-◌, ◌≤◌, Bool, true, false, ℤ, List, [], ◌∷◌, ◌++◌, length, Some, refl, sym, ◌∙◌, ap, subst, ⊎_elim, arith, append_assoc}
use Rattle.std.specs.Prelude.{◌+ℤ◌, Contains, flat_map}
use Rattle.std.specs.List.{Any}
use Rattle.std.proofs.Math.IntN.{+ℤ_assoc, +ℤ_idl, +ℤ_idr}
use Rattle.std.proofs.lemmas.Bool.{cond-true, cond-false}
use Rattle.std.proofs.lemmas.List.{append-nil, length_push}
use Rattle.hp_syntax.specs.Syntax.{Rule, Pair}
use Rattle.hp_syntax.specs.Terms.{Term}
use Rattle.hp_syntax.specs.Networks.{Network, Empty, Task, Ordered, Unordered, Place, is_empty, part_at}
use Rattle.hp_syntax.specs.Walk.{Node, Child, DidChild, children, Did, Plan, CutHere, Visit, visit, number_after, numbered_children, child_visits, visits_within, visits, root}
use Rattle.hp_laws.specs.Derivations.{Situation, Choosing, Performs, Decomposes, Derives, Nothing, ByOperator, ByMethod, Leads, ByStep, BySubtasks, situation_at, node_in, first_situation, IsNext}
use Rattle.hp_laws.proofs.JoinLemmas.{contains_first, contains_later, contains_cases, contains_none, contains_join}
use Rattle.hp_laws.proofs.ChildLemmas.{leads_did}

-- where a task stands something is left to do
not_empty : (net : Network) (p : Place) (t : Term) (i : Bool) → part_at net p ≡ Some (Task t i) → is_empty net ≡ false
unfolding part_at
not_empty Empty [] t i e = absurd cc
not_empty Empty (j ∷ p) t i e = absurd cc
not_empty (Task u j) p t i e = refl
not_empty (Ordered ns) p t i e = refl
not_empty (Unordered ns) p t i e = refl

-- so it is at a node in whose situation a task is next
next_not_empty : (n : Node) (s : Situation) (k : ℕ) (p : Place) (t : Term) → situation_at n ≡ s → IsNext s k p t
    → is_empty n.network ≡ false
next_not_empty n s k p t q h =
    ap (λ (x : Situation). is_empty x.network) q ∙ not_empty s.network p t h.immediate h.there

-- a child has a number
has_number : (i : ℕ) (cs : List Child) (c : Child) → Contains cs c → (j : ℕ) × Contains (numbered_children i cs) (j, c)
has_number i [] c h = absurd (contains_none c h)
has_number i (x ∷ cs) c h =
    ⊎_elim (λ e. (
      i,
      subst (λ y. Contains ((i, x) ∷ numbered_children (number_after i x) cs) (i, y)) e
          (contains_first (i, x) (numbered_children (number_after i x) cs)),
    ))
    (λ k. let r = has_number (number_after i x) cs c k in
    (r.0, contains_later (i, x) (r.0, c) (numbered_children (number_after i x) cs) r.1)) (contains_cases x c cs h)

-- a plan with these steps, this cost and this situation at its end, after so many choices
abbrev pub IsPlanWith : ℕ → List Term → ℤ → Situation → Visit → Type 0
IsPlanWith k steps cost after v =
    (v.sight ≡ Plan) × (length v.path ≡ k) × (v.node.steps ≡ steps) × (v.node.cost ≡ cost)
    × (situation_at v.node ≡ after)

module _ (rules : List Rule) (nest : ℕ) where
  -- where nothing is left to do a plan is seen
  plan_here : (d : ℕ) (n : Node) (p : List ℕ) → is_empty n.network ≡ true
      → Contains (visits_within rules nest d n p) (visit p n Plan)
  unfolding visits_within
  plan_here zero n p e =
      subst (λ s. Contains (visit p n s ∷ []) (visit p n Plan)) (sym (cond-true (is_empty n.network) Plan CutHere e))
      (contains_first (visit p n Plan) [])
  plan_here (suc d) n p e =
      subst (λ vs. Contains vs (visit p n Plan))
      (sym (cond-true (is_empty n.network) (visit p n Plan ∷ [])
      (flat_map (child_visits (visits_within rules nest d) n p) (numbered_children 0 (children rules nest n))) e))
      (contains_first (visit p n Plan) [])

  -- a visit below a child is one below its parent
  seen_above : (d : ℕ) (n m : Node) (p : List ℕ) (i : ℕ) (v : Visit) → is_empty n.network ≡ false
      → Contains (numbered_children 0 (children rules nest n)) (i, DidChild m)
      → Contains (visits_within rules nest d m (p ++ i ∷ [])) v → Contains (visits_within rules nest (suc d) n p) v
  unfolding visits_within
  seen_above d n m p i v e c h =
      let each = child_visits (visits_within rules nest d) n p in
      let cs = numbered_children 0 (children rules nest n) in
      subst (λ vs. Contains vs v) (sym (cond-false (is_empty n.network) (visit p n Plan ∷ []) (flat_map each cs) e))
      (contains_join each cs (i, DidChild m) v c
      (contains_later (visit (p ++ i ∷ []) m Did) v (visits_within rules nest d m (p ++ i ∷ [])) h))

  -- a plan below a node: after so many choices, by these steps and this cost
  record Finds (n : Node) (p : List ℕ) (k : ℕ) (more : List Term) (rest : ℤ) (after : Situation)
      (v : Visit) : Type 0 where
    sight : v.sight ≡ Plan
    path : length v.path ≡ length p + k
    steps : v.node.steps ≡ n.steps ++ more
    cost : v.node.cost ≡ n.cost +ℤ rest
    end : situation_at v.node ≡ after

  -- such a plan is among visits
  abbrev Found : List Visit → Node → List ℕ → ℕ → List Term → ℤ → Situation → Type 0
  Found vs n p k more rest after = (v : Visit) × Contains vs v × Finds n p k more rest after v

  -- where a choice leads to a node, a plan below that one is found
  found_below : (d : ℕ) (n m : Node) (c : Choosing) (more all : List Term) (rest cost : ℤ) (k : ℕ)
      (p : List ℕ) (after : Situation) → Leads rules nest c n m → is_empty n.network ≡ false
      → m.steps ++ more ≡ n.steps ++ all → m.cost +ℤ rest ≡ n.cost +ℤ cost
      → ((q : List ℕ) → Found (visits_within rules nest d m q) m q k more rest after)
      → Found (visits_within rules nest (suc d) n p) n p (suc k) all cost after
  found_below d n m c more all rest cost k p after l e s w deep =
      let i = has_number 0 (children rules nest n) (DidChild m) (leads_did rules nest n c m l) in
      let f = deep (p ++ i.0 ∷ []) in
      let x = f.2 in
      let long = length_push p i.0 in
      let u = x.path in (
        f.0,
        seen_above d n m p i.0 f.0 e i.1 f.1,
        record {
          sight = x.sight;
          path = omega arith;
          steps = x.steps ∙ s;
          cost = x.cost ∙ w;
          end = x.end;
        },
      )

  -- each derivation of choices is found
  found : {cs : List Choosing} {before after : Situation} {steps : List Term} {cost : ℤ}
      → Derives rules nest cs before steps cost after → after.network ≡ Empty → (d : ℕ) (n : Node) (p : List ℕ)
      → situation_at n ≡ before → length cs ≤ d
      → Found (visits_within rules nest d n p) n p (length cs) steps cost after
  found (Nothing s) e d n p q l = (
    visit p n Plan,
    plan_here d n p (ap is_empty (ap (λ (x : Situation). x.network) q ∙ e)),
    record {
      sight = refl;
      path = omega arith;
      steps = sym (append-nil n.steps);
      cost = sym (+ℤ_idr n.cost);
      end = q;
    },
  )
  found (ByOperator c cs before between after t ts k rest f h) e zero n p q l = absurd (omega arith)
  found (ByOperator c cs before between after t ts k rest f h) e (suc d) n p q l =
      let m = node_in between (n.steps ++ t ∷ []) (n.cost +ℤ k) (n.depth - 1) in
      found_below d n m c ts (t ∷ ts) rest (k +ℤ rest) (length cs) p after
      (ByStep between t k (subst (λ s. Performs rules nest c s t k between) (sym q) f) refl)
      (next_not_empty n before c.candidate f.place t q f.next)
      (append_assoc n.steps (t ∷ []) ts) (+ℤ_assoc n.cost k rest)
      (λ r. found h e d m r refl (omega arith))
  found (ByMethod c cs before between after ts rest f h) e zero n p q l = absurd (omega arith)
  found (ByMethod c cs before between after ts rest f h) e (suc d) n p q l =
      let m = node_in between n.steps n.cost (n.depth - 1) in
      found_below d n m c ts ts rest rest (length cs) p after
      (BySubtasks between (subst (λ s. Decomposes rules nest c s between) (sym q) f) refl)
      (next_not_empty n before c.candidate f.place f.task q f.next)
      refl refl (λ r. found h e d m r refl (omega arith))

  -- a derivation of choices from a pair's first situation is a plan of its tree
  pub derived_is_found : (pair : Pair) (depth : ℕ) (cs : List Choosing) (steps : List Term) (cost : ℤ)
      (after : Situation) → Derives rules nest cs (first_situation pair) steps cost after → after.network ≡ Empty
      → length cs ≤ depth
      → Any (IsPlanWith (length cs) steps cost after) (visits rules nest (root pair depth) [])
  unfolding visits root
  derived_is_found pair depth cs steps cost after h e l =
      let f = found h e depth (root pair depth) [] refl l in
      let x = f.2 in
      let u = x.path in
      (f.1.0, f.0, f.1.1, f.1.2, (x.sight, omega arith, x.steps, x.cost ∙ +ℤ_idl cost, x.end))
