-- What stands first among the effects and the cost of an operator.
use Rattle.std.proofs.Common.{◌≡◌, ◌⊎◌, inl, inr, ℕ, suc, ◌+◌, ◌-◌, ◌<◌, ◌≤◌, Bool, true, false, List, [], ◌∷◌, map, length, slice_get, Option, Some, None, is_some, option_map, option_and_then, refl, sym, ◌∙◌, ap, ap₂, subst, arith}
use Rattle.std.proofs.lemmas.List.{drop_all}
use Rattle.std.proofs.lemmas.Option.{same_Some, slice_get_cases}
use Rattle.hp_syntax.specs.declared.pattern.Span.{Span}
use Rattle.hp_syntax.specs.declared.pattern.AtomPat.{AtomPat}
use Rattle.hp_syntax.specs.declared.pattern.Pat.{Pat}
use Rattle.hp_syntax.specs.declared.domain.Side.{Side}
use Rattle.hp_syntax.specs.Syntax as syntax
use Rattle.hp_syntax.specs.Syntax.{Expression, Pattern}
use Rattle.hp_nodes.specs.declared.node.Op.{Op}
use Rattle.hp_nodes.specs.declared.node.Op.TheVariants as ops
use Rattle.hp_nodes.specs.NodeViews.{operation_of}
use Rattle.hp_nodes.specs.Trees as trees
use Rattle.hp_nodes.specs.Trees.{Laid, Operation, CostOf, Tree, Trees, Node, NoTree, More, sizes, tree_at, trees_between}
use Rattle.hp_code.specs.CodeViews.{CodeView, IsCode}
use Rattle.hp_code.specs.Sources.{Body, Sided, SidedAtom, body_read, changes_read, each_of, effect_read, expression_read, made_of, some_adds, with_effect}
use Rattle.hp_code.proofs.NodeLemmas.{node_there}
use Rattle.hp_suspended.specs.Nodes.{expression_at}
use Rattle.hp_suspended.proofs.NodeRanges.{below_ends, ends_within, stands_first}
use Rattle.hp_suspended.proofs.RangeLemmas.{code_laid, expression_of}
use Rattle.hp_operator.specs.Bodies.{IsBodyIn, IsCostAt, IsEachAt, ChangesEach, StandsCost, StandsEffect, body_at, effect_at, is_adding}
use Rattle.hp_operator.specs.Changed.{any_adds, changed_atoms}
use Rattle.hp_operator.proofs.ChangedNodes.{AreChanged, are_changed, between}

-- ---- what is read first

-- the cost alone is read
record ReadsCost (t : Tree) (us : Trees) (b : Body) : Type 0 where
  cost : Pattern
  span : Span
  is : t ≡ Node (CostOf cost) span NoTree
  none : us ≡ NoTree
  body : record { effects = []; cost = cost } ≡ b

-- an effect is read before others
record ReadsEffect (t : Tree) (us : Trees) (b : Body) : Type 0 where
  effect : Sided
  others : Body
  first : effect_read t ≡ Some effect
  rest : body_read us ≡ Some others
  is : with_effect effect others ≡ b

effect_before : (x : Option Sided) (y : Option Body) (b : Body) (t : Tree) (us : Trees) → effect_read t ≡ x
    → body_read us ≡ y → made_of with_effect x y ≡ Some b → ReadsEffect t us b
effect_before None y b t us h k e = absurd cc
effect_before (Some x) None b t us h k e = absurd cc
effect_before (Some x) (Some c) b t us h k e =
    record { effect = x; others = c; first = h; rest = k; is = cc }

read_first : (t : Tree) (us : Trees) (b : Body) → body_read (More t us) ≡ Some b → ReadsCost t us b ⊎ ReadsEffect t us b
unfolding body_read
read_first (Node (CostOf p) s NoTree) NoTree b e =
    inl (record { cost = p; span = s; is = refl; none = refl; body = cc })
read_first (Node (CostOf p) s NoTree) (More u us) b e = absurd cc
read_first (Node (CostOf p) s (More v vs)) us b e = absurd cc
read_first (Node op s ts) us b e =
    inr (effect_before (effect_read (Node op s ts)) (body_read us) b (Node op s ts) us refl refl e)

-- what is there is something
pub there_is : {A : Type 0} (o : Option A) → is_some o ≡ true → (a : A) × (o ≡ Some a)
there_is None e = absurd cc
there_is (Some a) e = (a, refl)

-- ---- the first node

-- an effect stands first
pub record EffectFirst (c : CodeView) (i to : ℕ) (node : Laid) : Type 0 where
  pub effect : Sided
  pub others : Body
  pub first : effect_read (Node node.op node.span (trees_between c.nodes (suc i) node.to)) ≡ Some effect
  pub is : body_at c i to ≡ Some (with_effect effect others)
  pub rest : body_at c node.to to ≡ Some others
  pub body : IsBodyIn c node.to to

-- the first node, at which the cost stands or an effect
pub record FirstNode (c : CodeView) (i to : ℕ) : Type 0 where
  pub node : Laid
  pub there : slice_get c.nodes i ≡ Some node
  pub less : i < to
  pub more : i < node.to
  pub most : node.to ≤ to
  pub stands : StandsCost c i to ⊎ EffectFirst c i to node

module _ (c : CodeView) (code : IsCode c) (i to : ℕ) (is : IsBodyIn c i to) where
  first_node_of : (b : Body) (ts : Trees) → body_at c i to ≡ Some b → trees_between c.nodes i to ≡ ts
      → body_read ts ≡ Some b → FirstNode c i to
  unfolding body_read body_at
  first_node_of b NoTree h k e = absurd cc
  first_node_of b (More t us) h k e =
      let f = stands_first c.nodes (code_laid c code) i to t us is.whole is.within k in
      let tree = same_Some (Node f.node.op f.node.span (trees_between c.nodes (suc i) f.node.to)) t
      (sym (node_there c.nodes i f.node f.there) ∙ f.tree) in
      record {
        node = f.node;
        there = f.there;
        less = f.less;
        more = f.more;
        most = f.most;
        stands = elim (read_first t us b e) [
          | inl r ↦ inl (record {
            cost = r.cost;
            node = f.node;
            there = f.there;
            does = let same = tree ∙ r.is in cc;
            is = h ∙ ap Some (sym r.body);
          })
          | inr r ↦ inr (record {
            effect = r.effect;
            others = r.others;
            first = ap effect_read tree ∙ r.first;
            is = h ∙ ap Some (sym r.is);
            rest = ap body_read f.others ∙ r.rest;
            body = record {
              read = ap is_some (ap body_read f.others ∙ r.rest);
              whole = f.whole;
              within = is.within;
            };
          })
        ];
      }

  -- what stands first among the nodes of an operator's effects and its cost
  pub first_node : FirstNode c i to
  unfolding body_at
  first_node = let b = there_is (body_at c i to) is.read in first_node_of b.0 (trees_between c.nodes i to) b.1 refl b.1

  -- the first node is one of the nodes
  pub first_within : i < length c.nodes
  first_within = let f = first_node in let less = f.less in let most = is.within in omega arith

-- an operation of effects that only delete, or only add
abbrev pub only_side : Operation → Option Bool
only_side (trees.Delete a) = Some false
only_side (trees.Unguard a) = Some false
only_side (trees.Add a) = Some true
only_side (trees.Guard a) = Some true
only_side _ = None

-- is that of the effect that is read of it
pub side_read : (op : Operation) (s : Span) (ts : Trees) (x : Sided) (b : Bool) → only_side op ≡ Some b
    → effect_read (Node op s ts) ≡ Some x → x.adds ≡ b
side_read (trees.Delete a) s NoTree x b h e = cc
side_read (trees.Delete a) s (More t ts) x b h e = absurd cc
side_read (trees.Unguard a) s NoTree x b h e = cc
side_read (trees.Unguard a) s (More t ts) x b h e = absurd cc
side_read (trees.Add a) s NoTree x b h e = cc
side_read (trees.Add a) s (More t ts) x b h e = absurd cc
side_read (trees.Guard a) s NoTree x b h e = cc
side_read (trees.Guard a) s (More t ts) x b h e = absurd cc
side_read _ s ts x b h e = absurd cc

-- another operation is no effect's
pub no_effect : (op : Op) (s : Span) (ts : Trees) (x : Sided) → effect_read (Node (operation_of op) s ts) ≡ Some x
    → ((a : AtomPat) → op ≡ ops.Delete a → ⊥) → ((a : AtomPat) → op ≡ ops.Unguard a → ⊥)
    → ((a : AtomPat) → op ≡ ops.Add a → ⊥) → ((a : AtomPat) → op ≡ ops.Guard a → ⊥) → (op ≡ ops.Each → ⊥) → ⊥
no_effect (ops.Delete a) s ts x e d u n g f = d a refl
no_effect (ops.Unguard a) s ts x e d u n g f = u a refl
no_effect (ops.Add a) s ts x e d u n g f = n a refl
no_effect (ops.Guard a) s ts x e d u n g f = g a refl
no_effect ops.Each s ts x e d u n g f = f refl
no_effect _ s ts x e d u n g f = absurd cc

-- a node reads back as the effect that is read of what it does and of those below it
pub effect_is : (c : CodeView) (i : ℕ) (l : Laid) → slice_get c.nodes i ≡ Some l
    → effect_at c i ≡ effect_read (Node l.op l.span (trees_between c.nodes (suc i) l.to))
unfolding effect_at
effect_is c i l there = ap (option_and_then effect_read) (node_there c.nodes i l there)

-- ---- effects for each satisfier

-- what is read of an effect for each satisfier
record EachRead (ts : Trees) : Type 0 where
  expression : Expression
  changes : List SidedAtom
  first : Tree
  rest : Trees
  is : ts ≡ More first rest
  first_read : expression_read first ≡ Some expression
  rest_read : changes_read rest ≡ Some changes

both_there : (x : Option Expression) (y : Option (List SidedAtom)) (t : Tree) (us : Trees) → expression_read t ≡ x
    → changes_read us ≡ y → is_some (made_of each_of x y) ≡ true → EachRead (More t us)
both_there None y t us h k e = absurd cc
both_there (Some E) None t us h k e = absurd cc
both_there (Some E) (Some as') t us h k e = record {
  expression = E;
  changes = as';
  first = t;
  rest = us;
  is = refl;
  first_read = h;
  rest_read = k;
}

each_read : (s : Span) (ts : Trees) → is_some (effect_read (Node trees.Each s ts)) ≡ true → EachRead ts
each_read s NoTree e = absurd cc
each_read s (More t us) e = both_there (expression_read t) (changes_read us) t us refl refl e

-- the nodes of an effect for each satisfier
pub record EachNodes (c : CodeView) (i to : ℕ) : Type 0 where
  pub node : Laid
  pub there : slice_get c.nodes (i + 1) ≡ Some node
  pub inside : i + 1 < length c.nodes
  pub order : node.to ≤ to
  pub within : to ≤ length c.nodes
  pub changes : ChangesEach c i to (between c.nodes node.to to)

module _ (c : CodeView) (code : IsCode c) (i to : ℕ) (is : IsEachAt c i to) where
  pub each_nodes : EachNodes c i to
  each_nodes =
      let l = is.node in
      let down = code_laid c code in
      let below = trees_between c.nodes (suc i) l.to in
      let does : effect_at c i ≡ effect_read (Node trees.Each l.span below) =
      effect_is c i l is.there ∙ ap (λ o. effect_read (Node o l.span below)) is.does in
      let r = each_read l.span below (sym (ap is_some does) ∙ is.read) in
      let within = ends_within c.nodes down i l is.there in
      let f = stands_first c.nodes down (suc i) l.to r.first r.rest (below_ends c.nodes down i l is.there) within
      r.is in
      let next : suc i ≡ i + 1 = omega arith in
      let nodes = between c.nodes f.node.to to in
      let d : AreChanged c.nodes f.node.to to r.changes =
      subst (λ m. AreChanged c.nodes f.node.to m r.changes) is.ends
      (are_changed c.nodes down l.to within r.rest f.node.to r.changes f.whole f.others r.rest_read) in
      let shown : Bool → List syntax.Atom → Option Sided =
      λ b as'. Some (record { adds = b; effect = syntax.Each [] r.expression as' }) in
      record {
        node = f.node;
        there = subst (λ k. slice_get c.nodes k ≡ Some f.node) next f.there;
        inside = let ends = is.ends in let less = f.less in omega arith;
        order = subst (λ m. f.node.to ≤ m) is.ends f.most;
        within = subst (λ m. m ≤ length c.nodes) is.ends within;
        changes = record {
          expression = r.expression;
          first =
              ap (expression_at c) (sym next) ∙ expression_of c (suc i) r.first f.tree ∙ r.first_read;
          effect =
              does ∙ ap (λ ts. effect_read (Node trees.Each l.span ts)) r.is
              ∙ ap₂ (made_of each_of) r.first_read r.rest_read
              ∙ ap₂ shown (sym d.adds) (sym d.atoms);
        };
      }

-- ---- the list of an effect by itself

module _ (c : CodeView) (code : IsCode c) (i to : ℕ) (is : IsBodyIn c i to) (l : Laid)
    (there : slice_get c.nodes i ≡ Some l) where
  -- where another operation than a cost's does it, an effect stands first
  pub effect_first : ((p : Pattern) → l.op ≡ CostOf p → ⊥) → EffectFirst c i to l
  effect_first other =
      let f = first_node c code i to is in
      let same = same_Some f.node l (sym f.there ∙ there) in
      elim f.stands [
        | inl s ↦
            let m = same_Some s.node l (sym s.there ∙ there) in
            absurd (other s.cost (ap (λ (n : Laid). n.op) (sym m) ∙ s.does))
        | inr s ↦ subst (EffectFirst c i to) same s
      ]

  -- the effect that stands first, on this side by itself
  pub stands_effect : (side : Side) → (e : EffectFirst c i to l) → e.effect.adds ≡ is_adding side
      → StandsEffect c i to side
  stands_effect side e h = record {
    effect = e.effect;
    others = e.others;
    node = l;
    there = there;
    reads = effect_is c i l there ∙ e.first;
    adds = h;
    is = e.is;
    rest = e.rest;
    body = e.body;
    more =
        let f = first_node c code i to is in
        subst (λ (n : Laid). i < n.to) (same_Some f.node l (sym f.there ∙ there)) f.more;
  }

  -- an effect that only deletes, or only adds, stands first on that side
  pub stands_on : (side : Side) → only_side l.op ≡ Some (is_adding side)
      → ((p : Pattern) → l.op ≡ CostOf p → ⊥) → StandsEffect c i to side
  stands_on side h other =
      let e = effect_first other in
      stands_effect side e
      (side_read l.op l.span (trees_between c.nodes (suc i) l.to) e.effect (is_adding side) h e.first)

  -- an effect for each satisfier that stands first
  pub stands_each : (h : l.op ≡ trees.Each) → IsEachAt c i l.to
  stands_each h =
      let e = effect_first (λ p k. cc) in
      record {
        node = l;
        there = there;
        ends = refl;
        does = h;
        read = ap is_some (effect_is c i l there ∙ e.first);
      }

  -- is on the side of its changes
  pub each_on : (side : Side) (nodes : List Laid) → l.op ≡ trees.Each → ChangesEach c i l.to nodes
      → is_adding side ≡ any_adds nodes → StandsEffect c i to side
  each_on side nodes h d k =
      let e = effect_first (λ p q. cc) in
      let same = same_Some _ e.effect (sym d.effect ∙ effect_is c i l there ∙ e.first) in
      stands_effect side e (sym (ap (λ (x : Sided). x.adds) same) ∙ sym k)

  -- the cost stands first where no effect does
  pub stands_cost : (op : Op) → l.op ≡ operation_of op → ((a : AtomPat) → op ≡ ops.Delete a → ⊥)
      → ((a : AtomPat) → op ≡ ops.Unguard a → ⊥) → ((a : AtomPat) → op ≡ ops.Add a → ⊥)
      → ((a : AtomPat) → op ≡ ops.Guard a → ⊥) → (op ≡ ops.Each → ⊥) → StandsCost c i to
  stands_cost op h d u n g f =
      let first = first_node c code i to is in
      let same = same_Some first.node l (sym first.there ∙ there) in
      elim first.stands [
        | inl s ↦ s
        | inr s ↦
            let e = subst (EffectFirst c i to) same s in
            absurd (no_effect op l.span (trees_between c.nodes (suc i) l.to) e.effect
            (ap (λ o. effect_read (Node o l.span (trees_between c.nodes (suc i) l.to))) (sym h) ∙ e.first) d u n g f)
      ]

-- ---- single effects

-- the effect of an operation on one atom, if it is that
abbrev pub effect_by : Operation → Option syntax.Effect
effect_by (trees.Delete a) = Some (syntax.Change a)
effect_by (trees.Add a) = Some (syntax.Change a)
effect_by (trees.Unguard a) = Some (syntax.Protection a)
effect_by (trees.Guard a) = Some (syntax.Protection a)
effect_by _ = None

by_one : (op : Operation) (s : Span) (ts : Trees) (x : Sided) (y : syntax.Effect) → effect_by op ≡ Some y
    → effect_read (Node op s ts) ≡ Some x → x.effect ≡ y
by_one (trees.Delete a) s NoTree x y h e = cc
by_one (trees.Delete a) s (More t ts) x y h e = absurd cc
by_one (trees.Add a) s NoTree x y h e = cc
by_one (trees.Add a) s (More t ts) x y h e = absurd cc
by_one (trees.Unguard a) s NoTree x y h e = cc
by_one (trees.Unguard a) s (More t ts) x y h e = absurd cc
by_one (trees.Guard a) s NoTree x y h e = cc
by_one (trees.Guard a) s (More t ts) x y h e = absurd cc
by_one _ s ts x y h e = absurd cc

-- it is the effect that the node reads back as
pub one_effect : (c : CodeView) (i : ℕ) (l : Laid) → slice_get c.nodes i ≡ Some l → (x : Sided) (y : syntax.Effect)
    → effect_by l.op ≡ Some y → effect_at c i ≡ Some x → x.effect ≡ y
one_effect c i l there x y h e =
    by_one l.op l.span (trees_between c.nodes (suc i) l.to) x y h (sym (effect_is c i l there) ∙ e)

-- the node of an effect is one of the nodes
pub effect_within : (c : CodeView) (i : ℕ) → is_some (effect_at c i) ≡ true → i < length c.nodes
unfolding effect_at trees.trees
effect_within c i is = elim ((slice_get_cases c.nodes i).1) [
  | inl w ↦ w.1
  | inr w ↦
      let none : effect_at c i ≡ None =
      ap (λ ns. option_and_then effect_read (trees.first_tree (trees.trees i ns))) (drop_all i c.nodes w.0) in
      let known : is_some {T = Sided} None ≡ true = sym (ap is_some none) ∙ is in
      absurd cc
]

-- ---- the cost

-- a body without effects is the cost
pub cost_stands : (c : CodeView) (i to : ℕ) → IsCode c → IsCostAt c i to → StandsCost c i to
cost_stands c i to code is =
    let f = first_node c code i to is.body in
    elim f.stands [
      | inl s ↦ s
      | inr s ↦ let same = same_Some _ _ (sym s.is ∙ is.is) in let none = ap (λ (b : Body). b.effects) same in absurd cc
    ]

-- an operation of a cost is that of its pattern
pub cost_pattern : (op : Op) (p : Pattern) → operation_of op ≡ CostOf p → ((q : Pat) → op ≡ ops.Cost q → ⊥) → ⊥
cost_pattern (ops.Cost q) p h other = other q refl
cost_pattern _ p h other = absurd cc
