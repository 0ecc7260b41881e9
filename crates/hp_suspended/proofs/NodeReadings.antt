-- What a node of an expression reads back as, by what it does: its events by those of the nodes below it.
use Rattle.std.proofs.Common.{◌≡◌, ℕ, suc, ◌+◌, ◌<◌, true, List, [], ◌∷◌, ◌++◌, length, map, slice_get, Option, Some, None, inl, inr, Ok, Err, is_some, option_map, option_and_then, refl, ap, sym, subst, ◌∙◌, arith}
use Rattle.std.proofs.lemmas.List.{drop_all, length-map}
use Rattle.std.proofs.lemmas.Option.{same_Some, slice_get-map, slice_get_cases}
use Rattle.hp_syntax.specs.declared.fault.RunFault.{RunFault}
use Rattle.hp_syntax.specs.declared.pattern.Span.{Span}
use Rattle.hp_syntax.specs.Syntax as syntax
use Rattle.hp_syntax.specs.Values.{Bindings, value}
use Rattle.hp_syntax.specs.Goals.{Goal, fill_goal}
use Rattle.hp_syntax.specs.Events.{Fault, assigned, events, filled_events, finding, negated, tested, through}
use Rattle.hp_nodes.specs.declared.node.CodeNode.{CodeNode}
use Rattle.hp_code.specs.CodeViews.{CodeView, IsCode, rules_in}
use Rattle.hp_nodes.specs.NodeViews.{laid_of}
use Rattle.hp_code.specs.Sources.{made_of, expression_read, expressions_read}
use Rattle.hp_nodes.specs.Trees.{Laid, Operation, And, Or, Not, Forall, Holds, Assign, Test, Tree, Trees, Node, NoTree, More, first_tree, trees, trees_between}
use Rattle.hp_code.proofs.NodeLemmas.{node_there}
use Rattle.hp_suspended.specs.Nodes.{expression_at, expressions_in}
use Rattle.hp_suspended.specs.Settings.{Setting, axioms_in, state_in, atoms_at, below_at, expression_events, all_events, any_events, node_events, all_between, any_between, places_from, axioms_from}
use Rattle.hp_suspended.specs.Fitting.{IsExpressionAt, AreExpressionsIn}
use Rattle.hp_suspended.proofs.NamedAxioms.{goal_begins}
use Rattle.hp_suspended.proofs.NodeRanges.{StandsFirst, below_ends, ends_within, stands_first}
use Rattle.hp_suspended.proofs.RangeLemmas.{both_there, code_laid, expression_of, one_there, sat_is}

-- ---- nodes of a code

module _ (ns : List CodeNode) (c : CodeView) (are : map laid_of ns ≡ c.nodes) where
  -- a node that is read stands for what the code has at its index
  pub node_read : (i : ℕ) (x : CodeNode) → slice_get ns i ≡ Some x → slice_get c.nodes i ≡ Some (laid_of x)
  node_read i x e =
      sym (ap (λ ls. slice_get ls i) are) ∙ slice_get-map laid_of ns i ∙ ap (option_map laid_of) e

  -- as many nodes are read as the code has
  pub nodes_read : length ns ≡ length c.nodes
  nodes_read = sym (length-map ns laid_of) ∙ ap length are

-- ---- nodes that are those of expressions

-- an operation of an expression
abbrev pub IsOfExpression : Operation → Type 0
IsOfExpression And = Unit {0}
IsOfExpression Or = Unit {0}
IsOfExpression Not = Unit {0}
IsOfExpression Forall = Unit {0}
IsOfExpression (Holds a) = Unit {0}
IsOfExpression (Assign v p) = Unit {0}
IsOfExpression (Test p) = Unit {0}
IsOfExpression _ = ⊥

-- an operation of an expression without expressions below it
abbrev IsLeaf : Operation → Type 0
IsLeaf (Holds a) = Unit {0}
IsLeaf (Assign v p) = Unit {0}
IsLeaf (Test p) = Unit {0}
IsLeaf _ = ⊥

-- a tree that reads back as an expression does what one does
of_expression : (op : Operation) (s : Span) (ts : Trees) → is_some (expression_read (Node op s ts)) ≡ true
    → IsOfExpression op
unfolding expression_read
of_expression And s ts e = tt
of_expression Or s ts e = tt
of_expression Not s ts e = tt
of_expression Forall s ts e = tt
of_expression (Holds a) s ts e = tt
of_expression (Assign v p) s ts e = tt
of_expression (Test p) s ts e = tt
of_expression _ s ts e = absurd cc

-- a node of an expression is one of the nodes
pub expression_within : (c : CodeView) (i : ℕ) → IsExpressionAt c i → i < length c.nodes
unfolding expression_at trees
expression_within c i is = elim ((slice_get_cases c.nodes i).1) [
  | inl w ↦ w.1
  | inr w ↦
      let none : expression_at c i ≡ None =
      ap (λ ns. option_and_then expression_read (first_tree (trees i ns))) (drop_all i c.nodes w.0) in
      let known : is_some {T = syntax.Expression} None ≡ true = sym (ap is_some none) ∙ is in
      absurd cc
]

-- what stands below a negation
record OnlyBelow (ts : Trees) : Type 0 where
  tree : Tree
  is : ts ≡ More tree NoTree
  read : is_some (expression_read tree) ≡ true

only_below : (s : Span) (ts : Trees) → is_some (expression_read (Node Not s ts)) ≡ true → OnlyBelow ts
unfolding expression_read
only_below s NoTree e = absurd cc
only_below s (More t NoTree) e =
    record { tree = t; is = refl; read = one_there (syntax.Not s) (expression_read t) e }
only_below s (More t (More u us)) e = absurd cc

-- what stands below a `forall`
record BothBelow (ts : Trees) : Type 0 where
  first : Tree
  second : Tree
  is : ts ≡ More first (More second NoTree)
  first_read : is_some (expression_read first) ≡ true
  second_read : is_some (expression_read second) ≡ true

both_below : (s : Span) (ts : Trees) → is_some (expression_read (Node Forall s ts)) ≡ true → BothBelow ts
unfolding expression_read
both_below s NoTree e = absurd cc
both_below s (More t NoTree) e = absurd cc
both_below s (More t (More u NoTree)) e =
    let both = both_there (syntax.Forall s []) (expression_read t) (expression_read u) e in
    record { first = t; second = u; is = refl; first_read = both.0; second_read = both.1 }
both_below s (More t (More u (More v vs))) e = absurd cc

-- nothing stands below an atom, an assignment or a test
none_below : (op : Operation) (s : Span) (ts : Trees)
    → IsLeaf op → is_some (expression_read (Node op s ts)) ≡ true
    → ts ≡ NoTree
unfolding expression_read
none_below op s NoTree leaf e = refl
none_below (Holds a) s (More t ts) leaf e = absurd cc
none_below (Assign v p) s (More t ts) leaf e = absurd cc
none_below (Test p) s (More t ts) leaf e = absurd cc
none_below _ s (More t ts) leaf e = absurd leaf

-- ---- events of what is read

module _ (w : Setting) (n : ℕ) where
  -- the events of an expression that is read, by those of its atoms
  read_events : (x : Option syntax.Expression) (E : syntax.Expression) (e : Bindings) → x ≡ Some E
      → expression_events w n x e ≡ events (atoms_at (axioms_in w) n (state_in w)) E e
  read_events x E e h = ap (λ o. expression_events w n o e) h ∙ sat_is (axioms_in w) n (state_in w) E e

  -- a conjunction that is read meets what its parts meet
  and_events : (s : Span) (y : Option syntax.Expressions) (e : Bindings)
      → expression_events w n (option_map (syntax.And s) y) e ≡ all_events w n y e
  unfolding events
  and_events s None e = refl
  and_events s (Some ps) e = sat_is (axioms_in w) n (state_in w) (syntax.And s ps) e

  -- a disjunction that is read meets what its parts meet
  or_events : (s : Span) (y : Option syntax.Expressions) (e : Bindings)
      → expression_events w n (option_map (syntax.Or s) y) e ≡ any_events w n y e
  unfolding events
  or_events s None e = refl
  or_events s (Some ps) e = sat_is (axioms_in w) n (state_in w) (syntax.Or s ps) e

  -- a negation that is read is decided by what its expression meets
  not_events : (s : Span) (x : Option syntax.Expression) (e : Bindings) → is_some x ≡ true
      → expression_events w n (option_map (syntax.Not s) x) e ≡ negated (finding (expression_events w n x e)) e
  unfolding events
  not_events s None e h = absurd cc
  not_events s (Some p) e h =
      sat_is (axioms_in w) n (state_in w) (syntax.Not s p) e
      ∙ ap (λ xs. negated (finding xs) e) (sym (sat_is (axioms_in w) n (state_in w) p e))

  -- a `forall` that is read is decided by what its expressions meet
  forall_events : (s : Span) (x y : Option syntax.Expression) (e : Bindings) → is_some x ≡ true → is_some y ≡ true
      → expression_events w n (made_of (syntax.Forall s []) x y) e
      ≡ negated (finding (through (expression_events w n x e)
      (λ b. negated (finding (expression_events w n y b)) b))) e
  unfolding events
  forall_events s None y e h g = absurd cc
  forall_events s (Some p) None e h g = absurd cc
  forall_events s (Some p) (Some q) e h g =
      let at' = sat_is (axioms_in w) n (state_in w) in
      at' (syntax.Forall s [] p q) e
      ∙ sym (λ k. negated (finding (through (at' p e k) (λ b. negated (finding (at' q b k)) b))) e)

-- ---- events of nodes

-- the parts of a node's `forall`, of which the first has this node
pub record ForallParts (w : Setting) (n i : ℕ) (y : Laid) : Type 0 where
  pub first : IsExpressionAt w.code (i + 1)
  pub second : IsExpressionAt w.code y.to
  pub more : i + 1 < y.to
  pub events : (e : Bindings) → node_events w n i e
      ≡ negated (finding (through (node_events w n (i + 1) e)
      (λ b. negated (finding (node_events w n y.to b)) b))) e

module _ (w : Setting) (n i : ℕ) (code : IsCode w.code) (is : IsExpressionAt w.code i) (l : Laid)
    (there : slice_get w.code.nodes i ≡ Some l) where
  abbrev below : Trees
  below = trees_between w.code.nodes (suc i) l.to

  -- what a node is read as, where it does this
  does : (op : Operation) → l.op ≡ op → expression_at w.code i ≡ expression_read (Node op l.span below)
  does op h =
      expression_of w.code i (Node l.op l.span below) (node_there w.code.nodes i l there)
      ∙ ap (λ o. expression_read (Node o l.span below)) h

  -- it is read as an expression
  read_as : (op : Operation) → l.op ≡ op → is_some (expression_read (Node op l.span below)) ≡ true
  read_as op h = sym (ap is_some (does op h)) ∙ is

  -- it meets what that expression meets
  met : (op : Operation) → l.op ≡ op → (e : Bindings)
      → node_events w n i e ≡ expression_events w n (expression_read (Node op l.span below)) e
  unfolding node_events
  met op h e = ap (λ o. expression_events w n o e) (does op h)

  -- a node of an expression does what an expression does
  pub node_is_expression : IsOfExpression l.op
  node_is_expression = of_expression l.op l.span below (read_as l.op refl)

  -- the node behind it has the next index
  next : suc i ≡ i + 1
  next = omega arith

  -- what is read below it is a range of expressions
  parts : is_some (expressions_read below) ≡ true → AreExpressionsIn w.code (i + 1) l.to
  unfolding expressions_in
  parts read =
      let down = code_laid w.code code in
      let range : AreExpressionsIn w.code (suc i) l.to =
      record {
        read = read;
        whole = below_ends w.code.nodes down i l there;
        within = ends_within w.code.nodes down i l there;
      } in
      subst (λ j. AreExpressionsIn w.code j l.to) next range

  -- below a conjunction stand its parts
  pub and_parts : l.op ≡ And → AreExpressionsIn w.code (i + 1) l.to
  unfolding expression_read
  and_parts h = parts (one_there (syntax.And l.span) (expressions_read below) (read_as And h))

  -- it meets what all of them meet
  pub and_met : l.op ≡ And → (e : Bindings) → node_events w n i e ≡ all_between w n (i + 1) l.to e
  unfolding expression_read expressions_in all_between
  and_met h e =
      met And h e ∙ and_events w n l.span (expressions_read below) e
      ∙ ap (λ j. all_events w n (expressions_read (trees_between w.code.nodes j l.to)) e) next

  -- below a disjunction stand its parts
  pub or_parts : l.op ≡ Or → AreExpressionsIn w.code (i + 1) l.to
  unfolding expression_read
  or_parts h = parts (one_there (syntax.Or l.span) (expressions_read below) (read_as Or h))

  -- it meets what each of them meets
  pub or_met : l.op ≡ Or → (e : Bindings) → node_events w n i e ≡ any_between w n (i + 1) l.to e
  unfolding expression_read expressions_in any_between
  or_met h e =
      met Or h e ∙ or_events w n l.span (expressions_read below) e
      ∙ ap (λ j. any_events w n (expressions_read (trees_between w.code.nodes j l.to)) e) next

  -- below a negation stands one expression
  denied : l.op ≡ Not → OnlyBelow below
  denied h = only_below l.span below (read_as Not h)

  -- which is that of the node behind it
  denied_read : (h : l.op ≡ Not) → expression_at w.code (i + 1) ≡ expression_read (denied h).tree
  denied_read h =
      let o = denied h in
      let down = code_laid w.code code in
      let first = stands_first w.code.nodes down (suc i) l.to o.tree NoTree (below_ends w.code.nodes down i l there)
      (ends_within w.code.nodes down i l there) o.is in
      ap (expression_at w.code) (sym next) ∙ expression_of w.code (suc i) o.tree first.tree

  -- the node behind a negation is that of the expression that it denies
  pub not_part : l.op ≡ Not → IsExpressionAt w.code (i + 1)
  not_part h = ap is_some (denied_read h) ∙ (denied h).read

  -- a negation is decided by what that meets
  pub not_met : l.op ≡ Not → (e : Bindings) → node_events w n i e ≡ negated (finding (node_events w n (i + 1) e)) e
  unfolding expression_read node_events
  not_met h e =
      let o = denied h in
      met Not h e
      ∙ ap (λ ts. expression_events w n (expression_read (Node Not l.span ts)) e) o.is
      ∙ not_events w n l.span (expression_read o.tree) e o.read
      ∙ ap (λ x. negated (finding (expression_events w n x e)) e) (sym (denied_read h))

  -- below a `forall` stand two expressions
  all_of : l.op ≡ Forall → BothBelow below
  all_of h = both_below l.span below (read_as Forall h)

  -- the first of them stands behind the node
  all_first : (h : l.op ≡ Forall)
      → StandsFirst w.code.nodes (suc i) l.to (all_of h).first (More (all_of h).second NoTree)
  all_first h =
      let down = code_laid w.code code in
      stands_first w.code.nodes down (suc i) l.to (all_of h).first (More (all_of h).second NoTree)
      (below_ends w.code.nodes down i l there) (ends_within w.code.nodes down i l there) (all_of h).is

  -- which reads back as it
  all_first_read : (h : l.op ≡ Forall) → expression_at w.code (i + 1) ≡ expression_read (all_of h).first
  all_first_read h =
      ap (expression_at w.code) (sym next) ∙ expression_of w.code (suc i) (all_of h).first (all_first h).tree

  -- the second stands where the first ends
  all_second_read : (h : l.op ≡ Forall)
      → expression_at w.code (all_first h).node.to ≡ expression_read (all_of h).second
  all_second_read h =
      let down = code_laid w.code code in
      let f = all_first h in
      let second = stands_first w.code.nodes down f.node.to l.to (all_of h).second NoTree f.whole
      (ends_within w.code.nodes down i l there) f.others in
      expression_of w.code f.node.to (all_of h).second second.tree

  -- the node behind a `forall` is that of an expression
  pub forall_part : l.op ≡ Forall → IsExpressionAt w.code (i + 1)
  forall_part h = ap is_some (all_first_read h) ∙ (all_of h).first_read

  -- what a `forall` meets is decided by the nodes of both
  forall_events_met : (h : l.op ≡ Forall) → (e : Bindings) → node_events w n i e
      ≡ negated (finding (through (node_events w n (i + 1) e)
      (λ b. negated (finding (node_events w n (all_first h).node.to b)) b))) e
  unfolding expression_read node_events
  forall_events_met h e =
      let o = all_of h in
      met Forall h e
      ∙ ap (λ ts. expression_events w n (expression_read (Node Forall l.span ts)) e) o.is
      ∙ forall_events w n l.span (expression_read o.first) (expression_read o.second) e o.first_read o.second_read
      ∙ ap (λ x. negated (finding (through (expression_events w n x e)
      (λ b. negated (finding (expression_events w n (expression_read o.second) b)) b))) e) (sym (all_first_read h))
      ∙ ap (λ x. negated (finding (through (expression_events w n (expression_at w.code (i + 1)) e)
      (λ b. negated (finding (expression_events w n x b)) b))) e) (sym (all_second_read h))

  -- a `forall` is decided by what its first expression meets, with a negation of its second in the place of each Sat
  pub forall_met : l.op ≡ Forall → (y : Laid) → slice_get w.code.nodes (i + 1) ≡ Some y → ForallParts w n i y
  forall_met h y at' =
      let f = all_first h in
      let here : slice_get w.code.nodes (i + 1) ≡ Some f.node =
      ap (slice_get w.code.nodes) (sym next) ∙ f.there in
      let more = f.more in
      let parts : ForallParts w n i f.node =
      record {
        first = forall_part h;
        second = ap is_some (all_second_read h) ∙ (all_of h).second_read;
        more = omega (arith, more);
        events = forall_events_met h;
      } in
      subst (ForallParts w n i) (same_Some f.node y (sym here ∙ at')) parts

  -- a `forall` has the node of its first expression behind it
  pub forall_node : l.op ≡ Forall
      → (y : Laid) × (slice_get w.code.nodes (i + 1) ≡ Some y) × ForallParts w n i y
  forall_node h =
      let f = all_first h in
      let here : slice_get w.code.nodes (i + 1) ≡ Some f.node =
      ap (slice_get w.code.nodes) (sym next) ∙ f.there in
      (f.node, here, forall_met h f.node here)

  -- below an atom, an assignment or a test is nothing
  leaf_read : (op : Operation) → l.op ≡ op → IsLeaf op → below ≡ NoTree
  leaf_read op h leaf = none_below op l.span below leaf (read_as op h)

  -- so it meets what its expression meets
  leaf_met : (op : Operation) → l.op ≡ op → IsLeaf op → (E : syntax.Expression)
      → expression_read (Node op l.span NoTree) ≡ Some E → (e : Bindings)
      → node_events w n i e ≡ events (atoms_at (axioms_in w) n (state_in w)) E e
  leaf_met op h leaf E read e =
      met op h e
      ∙ ap (λ ts. expression_events w n (expression_read (Node op l.span ts)) e) (leaf_read op h leaf)
      ∙ read_events w n (expression_read (Node op l.span NoTree)) E e read

  -- an assignment meets what the value that is assigned meets
  pub assign_met : (v : ℕ) (p : syntax.Pattern) → l.op ≡ Assign v p → (e : Bindings)
      → node_events w n i e ≡ assigned (value p e) v e
  unfolding expression_read events
  assign_met v p h e = leaf_met (Assign v p) h tt (syntax.Assign l.span v p) refl e

  -- a test meets what the value of its call meets
  pub test_met : (p : syntax.Pattern) → l.op ≡ Test p → (e : Bindings)
      → node_events w n i e ≡ tested (value p e) e
  unfolding expression_read events
  test_met p h e = leaf_met (Test p) h tt (syntax.Test l.span p) refl e

  -- an atom meets what its goal meets
  pub holds_filled : (a : syntax.Atom) → l.op ≡ Holds a → (e : Bindings) → node_events w n i e
      ≡ filled_events (axioms_in w) (below_at (axioms_in w) n (state_in w)) (state_in w) (fill_goal a e) e
  unfolding expression_read events
  holds_filled a h e = leaf_met (Holds a) h tt (syntax.Holds l.span a) refl e

  -- an atom that isn't filled meets that fault alone
  pub holds_fault : (a : syntax.Atom) → l.op ≡ Holds a → (e : Bindings) (f : RunFault) → fill_goal a e ≡ Err f
      → node_events w n i e ≡ Fault f ∷ []
  holds_fault a h e f unfilled =
      holds_filled a h e
      ∙ ap (λ r. filled_events (axioms_in w) (below_at (axioms_in w) n (state_in w)) (state_in w) r e) unfilled

  -- an atom that is filled meets what its goal meets by the atoms of the places, and then by the axioms of its name
  pub holds_met : (a : syntax.Atom) → l.op ≡ Holds a → (e : Bindings) (q : Goal) → fill_goal a e ≡ Ok q
      → node_events w n i e ≡ places_from w 0 q e ++ axioms_from w n 0 q e
  unfolding places_from axioms_from
  holds_met a h e q filled =
      holds_filled a h e
      ∙ ap (λ r. filled_events (axioms_in w) (below_at (axioms_in w) n (state_in w)) (state_in w) r e) filled
      ∙ goal_begins (below_at (axioms_in w) n (state_in w)) q e (state_in w) (rules_in w.code)
