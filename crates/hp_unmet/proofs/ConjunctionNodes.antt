-- The nodes of the parts of a precondition, by the node of the precondition that asks for them.
use Rattle.std.proofs.Common.{◌≡◌, ℕ, suc, ◌+◌, ◌<◌, [], ◌∷◌, length, slice_get, Option, Some, None, is_some, option_map, option_and_then, refl, ap, ap₂, sym, subst, ◌∙◌, arith}
use Rattle.std.proofs.lemmas.Option.{same_Some}
use Rattle.hp_syntax.specs.declared.pattern.Span.{Span}
use Rattle.hp_syntax.specs.Syntax as syntax
use Rattle.hp_syntax.specs.Syntax.{Expression, Expressions, Precondition}
use Rattle.hp_syntax.specs.Views.{as_expressions}
use Rattle.hp_nodes.specs.declared.node.Op.{Op}
use Rattle.hp_nodes.specs.declared.node.Op.TheVariants as ops
use Rattle.hp_nodes.specs.NodeViews.{operation_of}
use Rattle.hp_nodes.specs.Trees as trees
use Rattle.hp_nodes.specs.Trees.{Laid, Operation, More, Node, NoTree, Tree, Trees, trees_between, tree_at}
use Rattle.hp_code.specs.CodeViews.{CodeView, IsCode}
use Rattle.hp_code.specs.Sources.{expression_read, expressions_read, made_of, precondition_read}
use Rattle.hp_code.proofs.NodeLemmas.{node_there}
use Rattle.hp_suspended.specs.Nodes.{expression_at, expressions_in}
use Rattle.hp_suspended.proofs.NodeRanges.{below_ends, ends_within, node_of_tree, stands_first}
use Rattle.hp_suspended.proofs.NodeReadings.{expression_within}
use Rattle.hp_suspended.proofs.RangeLemmas.{code_laid, expression_of}
use Rattle.hp_precondition.specs.PreconditionNodes.{precondition_at}
use Rattle.hp_unmet.specs.Conjunctions.{body_of, conjuncts}
use Rattle.hp_unmet.specs.PartNodes.{StandBetween}
use Rattle.hp_unmet.proofs.PartLemmas.{listed_again}
use Rattle.hp_unmet.proofs.PrefixSteps.{grown, none_at, range_of_none}

-- ---- the expression of a precondition

-- where a precondition is made of an expression, it is that of the precondition
body_of_made : (make : Expression → Precondition) → ((e : Expression) → body_of (make e) ≡ e)
    → (x : Option Expression) (p : Precondition) → option_map make x ≡ Some p → x ≡ Some (body_of p)
body_of_made make back None p e = absurd cc
body_of_made make back (Some x) p e = ap Some (sym (back x) ∙ ap body_of (same_Some (make x) p e))

-- a tree alone reads back as the expression of a precondition
record IsBody (ts : Trees) (p : Precondition) : Type 0 where
  tree : Tree
  is : ts ≡ More tree NoTree
  read : expression_read tree ≡ Some (body_of p)

-- below the node of a precondition stands the tree of its expression alone
body_below : (op : Operation) (s : Span) (ts : Trees) (p : Precondition) → precondition_read (Node op s ts) ≡ Some p
    → IsBody ts p
body_below trees.AllOf s NoTree p e = absurd cc
body_below trees.AllOf s (More t NoTree) p e =
    record { tree = t; is = refl; read = body_of_made syntax.Plain (λ x. refl) (expression_read t) p e }
body_below trees.AllOf s (More t (More u us)) p e = absurd cc
body_below trees.FirstOf s NoTree p e = absurd cc
body_below trees.FirstOf s (More t NoTree) p e =
    record { tree = t; is = refl; read = body_of_made syntax.First (λ x. refl) (expression_read t) p e }
body_below trees.FirstOf s (More t (More u us)) p e = absurd cc
body_below (trees.SortedBy k) s NoTree p e = absurd cc
body_below (trees.SortedBy k) s (More t NoTree) p e =
    record { tree = t; is = refl; read = body_of_made (syntax.Sorted k) (λ x. refl) (expression_read t) p e }
body_below (trees.SortedBy k) s (More t (More u us)) p e = absurd cc
body_below _ s ts p e = absurd cc

-- what reads back as something is there
known : {A B : Type 0} (f : A → Option B) (o : Option A) (b : B) → option_and_then f o ≡ Some b
    → (a : A) × (o ≡ Some a) × (f a ≡ Some b)
known f None b e = absurd cc
known f (Some a) b e = (a, refl, e)

-- so the node behind that of a precondition is that of its expression
pub body_behind : (c : CodeView) → IsCode c → (i : ℕ) (p : Precondition) → precondition_at c i ≡ Some p
    → expression_at c (i + 1) ≡ Some (body_of p)
unfolding precondition_at
body_behind c code i p e =
    let down = code_laid c code in
    let t = known precondition_read (tree_at c.nodes i) p e in
    let l = node_of_tree c.nodes i t.0 t.1 in
    let below = trees_between c.nodes (suc i) l.0.to in
    let own : t.0 ≡ Node l.0.op l.0.span below =
    same_Some t.0 (Node l.0.op l.0.span below) (sym t.1 ∙ node_there c.nodes i l.0 l.1) in
    let b = body_below l.0.op l.0.span below p (sym (ap precondition_read own) ∙ t.2) in
    let first = stands_first c.nodes down (suc i) l.0.to b.tree NoTree (below_ends c.nodes down i l.0 l.1)
    (ends_within c.nodes down i l.0 l.1) b.is in
    let next : suc i ≡ i + 1 = omega arith in
    ap (expression_at c) (sym next) ∙ expression_of c (suc i) b.tree first.tree ∙ b.read

-- which is one of the nodes
pub body_within : (c : CodeView) → IsCode c → (i : ℕ) (p : Precondition) → precondition_at c i ≡ Some p
    → i + 1 < length c.nodes
body_within c code i p e = expression_within c (i + 1) (ap is_some (body_behind c code i p e))

-- ---- the parts of a conjunction

-- what is made of parts as a conjunction has these parts
parts_made : (s : Span) (x : Option Expressions) (e : Expression) → option_map (syntax.And s) x ≡ Some e
    → x ≡ Some (as_expressions (conjuncts e))
parts_made s None e h = absurd cc
parts_made s (Some es) e h =
    ap Some (sym (listed_again es) ∙ ap (λ y. as_expressions (conjuncts y)) (same_Some (syntax.And s es) e h))

-- below the node of a conjunction stand its parts
parts_below : (s : Span) (ts : Trees) (e : Expression) → expression_read (Node trees.And s ts) ≡ Some e
    → expressions_read ts ≡ Some (as_expressions (conjuncts e))
unfolding expression_read
parts_below s ts e h = parts_made s (expressions_read ts) e h

module _ (c : CodeView) (code : IsCode c) (i : ℕ) (e : Expression) (read : expression_at c i ≡ Some e)
    (l : Laid) (there : slice_get c.nodes i ≡ Some l) where
  abbrev below : Trees
  below = trees_between c.nodes (suc i) l.to

  -- the tree of the node reads back as the expression
  pub own_tree : expression_read (Node l.op l.span below) ≡ Some e
  own_tree = sym (expression_of c i (Node l.op l.span below) (node_there c.nodes i l there)) ∙ read

  -- between a conjunction's node and where the nodes below it end stand its parts
  pub parts_after : l.op ≡ trees.And → StandBetween c (i + 1) l.to (conjuncts e)
  unfolding expressions_in
  parts_after is =
      let down = code_laid c code in
      let are : expressions_in c (suc i) l.to ≡ Some (as_expressions (conjuncts e)) =
      parts_below l.span below e (ap (λ op. expression_read (Node op l.span below)) (sym is) ∙ own_tree) in
      let next : suc i ≡ i + 1 = omega arith in
      subst (λ k. StandBetween c k l.to (conjuncts e)) next
      (record {
        range = record {
          read = ap is_some are;
          whole = below_ends c.nodes down i l there;
          within = ends_within c.nodes down i l there;
        };
        are = are;
      })

-- ---- any other expression

-- what is made of one thing is no expression that isn't made so
pub other_made : {A : Type 0} (make : A → Expression) (E : Expression) → ((a : A) → make a ≡ E → ⊥) → (x : Option A)
    → option_map make x ≡ Some E → ⊥
other_made make E other None e = cc
other_made make E other (Some a) e = other a (same_Some (make a) E e)

-- nor is what is made of two
pub other_made_of : {A B : Type 0} (make : A → B → Expression) (E : Expression)
    → ((a : A) (b : B) → make a b ≡ E → ⊥) → (x : Option A) (y : Option B) → made_of make x y ≡ Some E → ⊥
other_made_of make E other None y e = cc
other_made_of make E other (Some a) y e = other_made (make a) E (other a) y e

-- a tree that reads back as a conjunction is one
and_alone : (op : Operation) (s : Span) (ts : Trees) (t : Span) (es : Expressions)
    → expression_read (Node op s ts) ≡ Some (syntax.And t es) → op ≡ trees.And
unfolding expression_read
and_alone trees.And s ts t es e = refl
and_alone trees.Or s ts t es e =
    absurd (other_made (syntax.Or s) (syntax.And t es) (λ a h. cc) (expressions_read ts) e)
and_alone trees.Not s NoTree t es e = absurd cc
and_alone trees.Not s (More u NoTree) t es e =
    absurd (other_made (syntax.Not s) (syntax.And t es) (λ a h. cc) (expression_read u) e)
and_alone trees.Not s (More u (More v vs)) t es e = absurd cc
and_alone trees.Forall s NoTree t es e = absurd cc
and_alone trees.Forall s (More u NoTree) t es e = absurd cc
and_alone trees.Forall s (More u (More v NoTree)) t es e =
    absurd (other_made_of (syntax.Forall s []) (syntax.And t es) (λ a b h. cc) (expression_read u) (expression_read v) e)
and_alone trees.Forall s (More u (More v (More w ws))) t es e = absurd cc
and_alone (trees.Holds a) s NoTree t es e = absurd cc
and_alone (trees.Holds a) s (More u us) t es e = absurd cc
and_alone (trees.Assign v p) s NoTree t es e = absurd cc
and_alone (trees.Assign v p) s (More u us) t es e = absurd cc
and_alone (trees.Test p) s NoTree t es e = absurd cc
and_alone (trees.Test p) s (More u us) t es e = absurd cc
and_alone _ s ts t es e = absurd cc

-- so an expression that reads back of another node is its only part
is_only_part : (op : Operation) (s : Span) (ts : Trees) (e : Expression) → expression_read (Node op s ts) ≡ Some e
    → (op ≡ trees.And → ⊥) → conjuncts e ≡ e ∷ []
is_only_part op s ts (syntax.And t es) read other = absurd (other (and_alone op s ts t es read))
is_only_part op s ts _ read other = refl

-- a node's operation that isn't a conjunction does nothing that one does
pub no_conjunction : (op : Op) → (op ≡ ops.And → ⊥) → operation_of op ≡ trees.And → ⊥
no_conjunction ops.And other e = other refl
no_conjunction _ other e = cc

module _ (c : CodeView) (code : IsCode c) (i : ℕ) (e : Expression) (read : expression_at c i ≡ Some e)
    (l : Laid) (there : slice_get c.nodes i ≡ Some l) (other : l.op ≡ trees.And → ⊥) where
  one_alone : conjuncts e ≡ e ∷ []
  one_alone =
      is_only_part l.op l.span (trees_between c.nodes (suc i) l.to) e (own_tree c code i e read l there) other

  -- from its node to where its tree ends it stands alone
  pub part_alone : StandBetween c i l.to (conjuncts e)
  part_alone =
      let none = range_of_none c l.to (ends_within c.nodes (code_laid c code) i l there) in
      let g = grown c code i l.to l there (ap is_some read) none in
      record {
        range = g.are;
        are =
            g.parts ∙ ap₂ (made_of syntax.Also) read (none_at c l.to)
            ∙ ap (λ es. Some (as_expressions es)) (sym one_alone);
      }
