-- A walk by the code of a domain is one of the domain's tree.
use Rattle.std.proofs.Common.{◌≡◌, ◌≤◌, ℕ, true, false, List, [], length, Option, Some, None, refl, sym, ap, ◌∙◌, subst, cond}
use Rattle.std.specs.Prelude.{Contains, MatchOption, option_map, pos}
use Rattle.std.specs.List.{All}
use Rattle.std.proofs.lemmas.List.Elements.{All-weaker}
use Rattle.std.proofs.lemmas.Option.{IfSome_then}
use Rattle.hp_code.specs.CodeViews.{CodeView, or_empty, rules_in, rules_of}
use Rattle.hp_code.specs.Lowered.{lowered_rules}
use Rattle.hp_dead_ends.specs.declared.searching.DeadEnd.{DeadEnd}
use Rattle.hp_dead_ends.specs.declared.searching.DeadEnds.{DeadEnds}
use Rattle.hp_dead_ends.specs.Arriving.{HasArrived, HasHeldCuts, IsHeld, is_small}
use Rattle.hp_dead_ends.specs.DeadEnds.{dead_ends, until_plan, with_root}
use Rattle.hp_blame.specs.Blames.{Blame, blame_of}
use Rattle.hp_dead_ends.specs.declared.searching.SearchEnd.TheVariants as ends
use Rattle.hp_syntax.specs.declared.fault.RunFault.{RunFault}
use Rattle.hp_dead_ends.specs.Finding.{HasMet, IsFound, IsFoundIn, IsFurthest, items_of}
use Rattle.hp_net.specs.Standings.{Standing, Tree, node_reached, tree_visits}
use Rattle.hp_search.specs.Planned.{with_depth}
use Rattle.hp_syntax.specs.Syntax.{Pair, Rule}
use Rattle.hp_syntax.specs.Walk.{Node, Visit, children, node_at, root, visits}
use Rattle.hp_doctor_why.specs.Reasons.{IsBlamed, IsCutAt, lowered_tree, reason_of}
use Rattle.hp_doctor_why.specs.Whys.{Cut, Reason, reason_at}

-- the tree of a code that reads back as the lowered rules is the lowered tree
pub tree_known : (c : CodeView) (t s : Tree) → rules_of c ≡ Some (lowered_rules t.rules)
    → s ≡ record { rules = rules_in c; nest = t.nest; root = t.root } → s ≡ lowered_tree t
tree_known c t s reads is =
    is ∙ ap (λ (rs : List Rule). record { rules = rs; nest = t.nest; root = t.root }) (ap or_empty reads)

module _ (same : (rules : List Rule) (nest : ℕ) (n : Node) (p : List ℕ)
    → visits (lowered_rules rules) nest n p ≡ visits rules nest n p) (t s : Tree) (is : s ≡ lowered_tree t) where
  -- it has the visits of the tree
  same_visits : tree_visits s ≡ tree_visits t
  same_visits = ap tree_visits is ∙ same t.rules t.nest t.root []

  same_root : s.root ≡ t.root
  same_root = ap (λ (x : Tree). x.root) is

  -- so what is found in it is found in the tree
  pub found_over : (most : ℕ) (f : DeadEnds) → IsFoundIn s most f → IsFoundIn t most f
  found_over most f h =
      subst (λ (vs : List Visit). IsFound most f (dead_ends (with_root t.root (until_plan vs))) (until_plan vs))
      same_visits
      (subst (λ (r : Node). IsFound most f (dead_ends (with_root r (until_plan (tree_visits s)))) (until_plan (tree_visits s)))
      same_root h)

  -- a path is reported in it where the tree reports the path
  pub held_over : (p : List ℕ) → IsHeld s p → IsHeld t p
  held_over p h = record {
    visit = h.visit;
    did = h.did;
    within =
        subst (λ (vs : List Visit). Contains (with_root t.root (until_plan vs)) h.visit) same_visits
        (subst (λ (r : Node). Contains (with_root r (until_plan (tree_visits s))) h.visit) same_root h.within);
    is_told = h.is_told;
  }

  pub held_back : (p : List ℕ) → IsHeld t p → IsHeld s p
  held_back p h = record {
    visit = h.visit;
    did = h.did;
    within =
        subst (λ (r : Node). Contains (with_root r (until_plan (tree_visits s))) h.visit) (sym same_root)
        (subst (λ (vs : List Visit). Contains (with_root t.root (until_plan vs)) h.visit) (sym same_visits) h.within);
    is_told = h.is_told;
  }

  pub all_held_over : (es : List DeadEnd) → All (λ (e : DeadEnd). IsHeld s e.path.items) es
      → All (λ (e : DeadEnd). IsHeld t e.path.items) es
  all_held_over es h =
      All-weaker (λ (e : DeadEnd). IsHeld s e.path.items) (λ (e : DeadEnd). IsHeld t e.path.items)
      (λ e x. held_over e.path.items x) es h

  pub cuts_over : (f : DeadEnds) → HasHeldCuts s f → HasHeldCuts t f
  cuts_over f h = record {
    depth = IfSome_then (items_of f.depth_cut) h.depth held_over;
    level = IfSome_then (items_of f.level_cut) h.level held_over;
  }

  module _ (below : (rules : List Rule) (nest : ℕ) (n : Node)
      → children (lowered_rules rules) nest n ≡ children rules nest n) (nodes : (rules : List Rule) (nest : ℕ) (n : Node)
      (p : List ℕ) → node_at (lowered_rules rules) nest n p ≡ node_at rules nest n p) where
    -- and paths of the tree reach its nodes
    same_node : (p : List ℕ) → node_at s.rules s.nest s.root p ≡ node_at t.rules t.nest t.root p
    same_node p = ap (λ (x : Tree). node_at x.rules x.nest x.root p) is ∙ nodes t.rules t.nest t.root p

    same_children : (n : Node) → children s.rules s.nest n ≡ children t.rules t.nest n
    same_children n = ap (λ (x : Tree). children x.rules x.nest n) is ∙ below t.rules t.nest n

    furthest_over : (e : DeadEnd) → IsFurthest s e → IsFurthest t e
    furthest_over e h = record {
      path = h.path;
      node = h.node;
      is_told = h.is_told;
      steps = h.steps;
      decompositions = h.decompositions;
      at_node = sym (same_node h.path) ∙ h.at_node;
      dead = record {
        tasks = h.dead.tasks;
        depth = h.dead.depth;
        none = sym (same_children h.node) ∙ h.dead.none;
      };
      most =
          subst (λ (vs : List Visit). All (λ (w : Visit). length w.node.steps ≤ e.steps) (dead_ends (with_root t.root (until_plan vs))))
          same_visits
          (subst (λ (r : Node). All (λ (w : Visit). length w.node.steps ≤ e.steps)
          (dead_ends (with_root r (until_plan (tree_visits s))))) same_root h.most);
    }

    pub all_furthest_over : (es : List DeadEnd) → All (IsFurthest s) es → All (IsFurthest t) es
    all_furthest_over es h = All-weaker (IsFurthest s) (IsFurthest t) furthest_over es h

-- ---- at the node of a path

match_at : {A : Type 0} (o : Option A) (x : A) (P : A → Type 0) → o ≡ Some x → MatchOption o ⊥ P → P x
match_at o x P e h = subst (λ q. MatchOption q ⊥ P) e h

-- what is known at the node where a walk arrived are the reasons at its path
pub reason_there : (t s : Tree) (at : Standing) (nest : ℕ) (path : List ℕ) (r : Reason)
    → ((rules : List Rule) (n : ℕ) (x : Node) (p : List ℕ)
    → node_at (lowered_rules rules) n x p ≡ node_at rules n x p) → s ≡ lowered_tree t → nest ≡ t.nest
    → is_small path ≡ true → HasArrived s at path
    → MatchOption (node_reached s at) ⊥ (λ (n : Node). r ≡ reason_at t.rules nest n) → Some r ≡ reason_of t path
reason_there t s at nest path r nodes is deep small h known =
    let here : r ≡ reason_at t.rules nest h.node =
    match_at (node_reached s at) h.node (λ (n : Node). r ≡ reason_at t.rules nest n) h.at_node known in
    let there : node_at t.rules t.nest t.root path ≡ Some h.node =
    sym (nodes t.rules t.nest t.root path)
    ∙ (sym (ap (λ (x : Tree). node_at x.rules x.nest x.root path) is)
    ∙ (ap (λ p. node_at s.rules s.nest s.root p) (sym h.path) ∙ h.at_node)) in
    ap Some (here ∙ ap (λ k. reason_at t.rules k h.node) deep)
    ∙ (ap (option_map (reason_at t.rules t.nest)) (sym there)
    ∙ ap (λ b. cond b (option_map (reason_at t.rules t.nest) (node_at t.rules t.nest t.root path)) None) (sym small))

-- what was at fault at the node where a walk met a fault is what was at fault there
pub blamed_there : (t s : Tree) (at : Standing) (nest : ℕ) (f : RunFault) (b : Option Blame) → s ≡ lowered_tree t
    → nest ≡ t.nest → HasMet (lowered_tree t) at f
    → MatchOption (node_reached s at) ⊥ (λ (n : Node). b ≡ blame_of t.rules f nest n)
    → IsBlamed t (lowered_tree t) (ends.Fault f) b
blamed_there t s at nest f b is deep met known =
    let reached : node_reached s at ≡ Some met.visit.node =
    ap (λ (x : Tree). node_reached x at) is ∙ met.at_node in
    let here : b ≡ blame_of t.rules f nest met.visit.node =
    match_at (node_reached s at) met.visit.node (λ (n : Node). b ≡ blame_of t.rules f nest n) reached known in
    (at, met, here ∙ ap (λ k. blame_of t.rules f k met.visit.node) deep)

-- of a path with a number that may stand for a greater one none are known
pub no_reason : (t : Tree) (path : List ℕ) → is_small path ≡ false → None ≡ reason_of t path
no_reason t path small =
    ap (λ b. cond b (option_map (reason_at t.rules t.nest) (node_at t.rules t.nest t.root path)) None) (sym small)

-- what is known of the node where a walk arrived is known of the node of its path
pub cut_there : (t s : Tree) (at : List ℕ) (path : List ℕ) (c : Cut) → s ≡ t → at ≡ path → IsCutAt s at c
    → IsCutAt t path c
cut_there t s at path c is there h =
    subst (λ (x : Tree). IsCutAt x path c) is (subst (λ p. IsCutAt s p c) there h)

-- ---- the root

pub root_depth : (pair : Pair) (depth : ℕ) → (root pair depth).depth ≡ depth
unfolding root
root_depth pair depth = refl

pub root_cost : (pair : Pair) (depth : ℕ) → (root pair depth).cost ≡ pos 0
unfolding root
root_cost pair depth = refl

-- a tree from the same depth on is the same tree
pub same_depth : (rules : List Rule) (nest : ℕ) (pair : Pair) (depth : ℕ)
    → with_depth depth (record { rules = rules; nest = nest; root = root pair depth })
    ≡ record { rules = rules; nest = nest; root = root pair depth }
unfolding root
same_depth rules nest pair depth = refl
