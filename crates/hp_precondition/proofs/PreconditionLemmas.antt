-- What stands below the node of a precondition, and what the node reads back as by it.
use Rattle.std.proofs.Common.{◌≡◌, ℕ, suc, ◌+◌, ◌<◌, true, List, length, slice_get, Option, Some, None, inl, inr, is_some, option_map, option_and_then, refl, ap, sym, ◌∙◌, arith}
use Rattle.std.proofs.lemmas.List.{drop_all}
use Rattle.std.proofs.lemmas.Option.{slice_get_cases}
use Rattle.hp_syntax.specs.declared.expression.SortKey.{SortKey}
use Rattle.hp_syntax.specs.declared.pattern.Span.{Span}
use Rattle.hp_syntax.specs.Syntax as syntax
use Rattle.hp_syntax.specs.Syntax.{Axiom, Expression, Key, Precondition}
use Rattle.hp_syntax.specs.Values.{Bindings}
use Rattle.hp_syntax.specs.Events.{Event, State, sat}
use Rattle.hp_syntax.specs.Preconditions.{heard, keyed, precondition_events, sorted_events, up_to_sat}
use Rattle.hp_nodes.specs.declared.node.Op.{Op}
use Rattle.hp_nodes.specs.declared.node.Op.TheVariants as ops
use Rattle.hp_nodes.specs.NodeViews.{operation_of}
use Rattle.hp_nodes.specs.Trees.{Laid, Operation, AllOf, FirstOf, SortedBy, Tree, Trees, Node, NoTree, More, first_tree, trees, trees_between}
use Rattle.hp_code.specs.CodeViews.{CodeView, IsCode}
use Rattle.hp_code.specs.Sources.{expression_read, precondition_read}
use Rattle.hp_code.proofs.NodeLemmas.{node_there}
use Rattle.hp_suspended.specs.Nodes.{expression_at}
use Rattle.hp_suspended.specs.Fitting.{IsExpressionAt}
use Rattle.hp_suspended.proofs.NodeRanges.{below_ends, ends_within, stands_first}
use Rattle.hp_suspended.proofs.RangeLemmas.{code_laid, expression_of, one_there}
use Rattle.hp_precondition.specs.PreconditionNodes.{IsPreconditionAt, precondition_at}

-- the precondition that an operation makes of an expression, if it makes one
abbrev pub made_by : Operation → Option (Expression → Precondition)
made_by AllOf = Some syntax.Plain
made_by FirstOf = Some syntax.First
made_by (SortedBy k) = Some (syntax.Sorted k)
made_by _ = None

-- what stands below an operation that makes a precondition of an expression
record OnlyBelow (op : Operation) (s : Span) (ts : Trees) (make : Expression → Precondition) : Type 0 where
  tree : Tree
  is : ts ≡ More tree NoTree
  reads : precondition_read (Node op s ts) ≡ option_map make (expression_read tree)

only_below : (op : Operation) (s : Span) (ts : Trees) (make : Expression → Precondition) → made_by op ≡ Some make
    → is_some (precondition_read (Node op s ts)) ≡ true → OnlyBelow op s ts make
only_below AllOf s NoTree make m e = absurd cc
only_below AllOf s (More t NoTree) make m e =
    let same : syntax.Plain ≡ make = cc in
    record { tree = t; is = refl; reads = ap (λ f. option_map f (expression_read t)) same }
only_below AllOf s (More t (More u us)) make m e = absurd cc
only_below FirstOf s NoTree make m e = absurd cc
only_below FirstOf s (More t NoTree) make m e =
    let same : syntax.First ≡ make = cc in
    record { tree = t; is = refl; reads = ap (λ f. option_map f (expression_read t)) same }
only_below FirstOf s (More t (More u us)) make m e = absurd cc
only_below (SortedBy k) s NoTree make m e = absurd cc
only_below (SortedBy k) s (More t NoTree) make m e =
    let same : syntax.Sorted k ≡ make = cc in
    record { tree = t; is = refl; reads = ap (λ f. option_map f (expression_read t)) same }
only_below (SortedBy k) s (More t (More u us)) make m e = absurd cc
only_below _ s ts make m e = absurd cc

-- another operation makes no precondition
pub no_other : (op : Op) (s : Span) (ts : Trees) → is_some (precondition_read (Node (operation_of op) s ts)) ≡ true
    → (op ≡ ops.Plain → ⊥) → (op ≡ ops.First → ⊥) → ((k : SortKey) → op ≡ ops.Sort k → ⊥) → ⊥
no_other ops.Plain s ts e plain first sort = plain refl
no_other ops.First s ts e plain first sort = first refl
no_other (ops.Sort k) s ts e plain first sort = sort k refl
no_other _ s ts e plain first sort = absurd cc

module _ (c : CodeView) (i : ℕ) (is : IsPreconditionAt c i) where
  -- a node of a precondition is one of the nodes
  pub within : i < length c.nodes
  unfolding precondition_at trees
  within = elim ((slice_get_cases c.nodes i).1) [
    | inl w ↦ w.1
    | inr w ↦
        let none : precondition_at c i ≡ None =
        ap (λ ns. option_and_then precondition_read (first_tree (trees i ns))) (drop_all i c.nodes w.0) in
        let known : is_some {T = Precondition} None ≡ true = sym (ap is_some none) ∙ is in
        absurd cc
  ]

  module _ (l : Laid) (there : slice_get c.nodes i ≡ Some l) where
    -- it reads back as what it does with those below it
    pub reads : precondition_at c i ≡ precondition_read (Node l.op l.span (trees_between c.nodes (suc i) l.to))
    unfolding precondition_at
    reads = ap (option_and_then precondition_read) (node_there c.nodes i l there)

    -- which is a precondition
    pub is_read : is_some (precondition_read (Node l.op l.span (trees_between c.nodes (suc i) l.to))) ≡ true
    is_read = sym (ap is_some reads) ∙ is

-- the node behind a precondition's is that of its expression, of which the precondition is made
pub record HasExpression (c : CodeView) (i : ℕ) (make : Expression → Precondition) : Type 0 where
  pub expression : IsExpressionAt c (i + 1)
  pub made : precondition_at c i ≡ option_map make (expression_at c (i + 1))

pub has_expression : (c : CodeView) (i : ℕ) → IsCode c → IsPreconditionAt c i → (l : Laid)
    → slice_get c.nodes i ≡ Some l → (make : Expression → Precondition) → made_by l.op ≡ Some make
    → HasExpression c i make
has_expression c i code is l there make m =
    let below = trees_between c.nodes (suc i) l.to in
    let o = only_below l.op l.span below make m (is_read c i is l there) in
    let down = code_laid c code in
    let first = stands_first c.nodes down (suc i) l.to o.tree NoTree (below_ends c.nodes down i l there)
    (ends_within c.nodes down i l there) o.is in
    let next : suc i ≡ i + 1 = omega arith in
    let read : expression_at c (i + 1) ≡ expression_read o.tree =
    ap (expression_at c) (sym next) ∙ expression_of c (suc i) o.tree first.tree in
    let made : precondition_at c i ≡ option_map make (expression_at c (i + 1)) =
    reads c i is l there ∙ o.reads ∙ ap (option_map make) (sym read) in
    record {
      expression = one_there make (expression_at c (i + 1)) (sym (ap is_some made) ∙ is);
      made = made;
    }

-- what is there and was made of something was made of what is there
record MadeOf (make : Expression → Precondition) (o : Option Expression) (p : Precondition) : Type 0 where
  whole : Expression
  is : o ≡ Some whole
  makes : make whole ≡ p

made_of : (make : Expression → Precondition) (o : Option Expression) (p : Precondition) → option_map make o ≡ Some p
    → MadeOf make o p
made_of make None p e = absurd cc
made_of make (Some E) p e = record { whole = E; is = refl; makes = cc }

-- what a precondition takes of the heard events of its expression are the events of the precondition
pub taken : (axioms : List Axiom) (n : ℕ) (s : State) (e : Bindings) (c : CodeView) (i : ℕ)
    (make : Expression → Precondition) (pick : List Event → List Event)
    → ((E : Expression) → precondition_events axioms n s (make E) e ≡ pick (heard (sat axioms n s E e)))
    → HasExpression c i make → (xs : List Event)
    → ((E : Expression) → expression_at c (i + 1) ≡ Some E → xs ≡ heard (sat axioms n s E e))
    → (p : Precondition) → precondition_at c i ≡ Some p → pick xs ≡ precondition_events axioms n s p e
taken axioms n s e c i make pick picks h xs hears p there =
    let m = made_of make (expression_at c (i + 1)) p (sym h.made ∙ there) in
    ap pick (hears m.whole m.is) ∙ sym (picks m.whole) ∙ ap (λ q. precondition_events axioms n s q e) m.makes

module _ (axioms : List Axiom) (n : ℕ) (s : State) (e : Bindings) where
  -- a plain precondition takes all that is heard
  pub plain_events : (E : Expression)
      → precondition_events axioms n s (syntax.Plain E) e ≡ heard (sat axioms n s E e)
  unfolding precondition_events
  plain_events E = refl

  -- the first satisfier is the last that is taken
  pub first_events : (E : Expression)
      → precondition_events axioms n s (syntax.First E) e ≡ up_to_sat (heard (sat axioms n s E e))
  unfolding precondition_events
  first_events E = refl

  -- what is sorted is all that is heard
  pub sorted_by : (k : Key) (E : Expression) → precondition_events axioms n s (syntax.Sorted k E) e
      ≡ sorted_events k.order (keyed k (heard (sat axioms n s E e)))
  unfolding precondition_events
  sorted_by k E = refl
