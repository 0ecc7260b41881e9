-- Nodes of expressions that ask for nothing, and what these meet.
use Rattle.std.proofs.Common.{◌≡◌, ℕ, suc, ◌+◌, true, false, nat_eq, List, [], ◌∷◌, slice_get, Option, Some, None, option_map, refl, ap, sym, ◌∙◌, subst, arith}
use Rattle.std.proofs.lemmas.Bool.{eq-eqb, ne_eqb}
use Rattle.hp_syntax.specs.declared.pattern.Span.{Span}
use Rattle.hp_syntax.specs.Syntax as syntax
use Rattle.hp_syntax.specs.Syntax.{Axiom, Expression, Expressions}
use Rattle.hp_syntax.specs.Values.{Bindings}
use Rattle.hp_syntax.specs.Events.{State, Sat, events, events_of_all, sat}
use Rattle.hp_syntax.specs.Preconditions.{heard}
use Rattle.hp_nodes.specs.declared.node.Op.{Op}
use Rattle.hp_nodes.specs.declared.node.Op.TheVariants as ops
use Rattle.hp_nodes.specs.NodeViews.{operation_of}
use Rattle.hp_nodes.specs.Trees.{Laid, Operation, Tree, Trees, Node, NoTree, More, size, sizes, trees_between}
use Rattle.hp_nodes.specs.Trees as trees
use Rattle.hp_code.specs.CodeViews.{CodeView, IsCode}
use Rattle.hp_code.specs.Sources.{expression_read, expressions_read, made_of}
use Rattle.hp_code.proofs.NodeLemmas.{node_there, positive}
use Rattle.hp_suspended.specs.Nodes.{expression_at}
use Rattle.hp_suspended.proofs.NodeRanges.{below_ends}
use Rattle.hp_suspended.proofs.RangeLemmas.{code_laid, expression_of, sat_is}
use Rattle.hp_precondition.specs.PreconditionNodes.{asks_nothing}

-- what is made of one thing asks for something, if whatever is made so does
made_asks : {A : Type 0} (f : A → Expression) → ((x : A) → asks_nothing (Some (f x)) ≡ false) → (o : Option A)
    → asks_nothing (option_map f o) ≡ false
made_asks f asks None = refl
made_asks f asks (Some x) = asks x

-- so does what is made of two
both_ask : {A B : Type 0} (f : A → B → Expression) → ((x : A) (y : B) → asks_nothing (Some (f x y)) ≡ false)
    → (o : Option A) (p : Option B) → asks_nothing (made_of f o p) ≡ false
both_ask f asks None p = refl
both_ask f asks (Some x) p = made_asks (f x) (asks x) p

-- a conjunction of a part and others asks for something
parts_ask : (s : Span) (o : Option Expression) (p : Option Expressions)
    → asks_nothing (option_map (syntax.And s) (made_of syntax.Also o p)) ≡ false
parts_ask s None p = refl
parts_ask s (Some x) None = refl
parts_ask s (Some x) (Some xs) = refl

-- what isn't a conjunction asks for something
other_asks : (op : Op) (s : Span) (ts : Trees) → (op ≡ ops.And → ⊥)
    → asks_nothing (expression_read (Node (operation_of op) s ts)) ≡ false
unfolding expression_read
other_asks ops.And s ts differs = absurd (differs refl)
other_asks ops.Or s ts differs = made_asks (syntax.Or s) (λ x. refl) (expressions_read ts)
other_asks ops.Not s NoTree differs = refl
other_asks ops.Not s (More t NoTree) differs = made_asks (syntax.Not s) (λ x. refl) (expression_read t)
other_asks ops.Not s (More t (More u us)) differs = refl
other_asks ops.Forall s NoTree differs = refl
other_asks ops.Forall s (More t NoTree) differs = refl
other_asks ops.Forall s (More t (More u NoTree)) differs =
    both_ask (syntax.Forall s []) (λ x y. refl) (expression_read t) (expression_read u)
other_asks ops.Forall s (More t (More u (More v vs))) differs = refl
other_asks (ops.Atom a) s NoTree differs = refl
other_asks (ops.Atom a) s (More t ts) differs = refl
other_asks (ops.Assign v p) s NoTree differs = refl
other_asks (ops.Assign v p) s (More t ts) differs = refl
other_asks (ops.Call p) s NoTree differs = refl
other_asks (ops.Call p) s (More t ts) differs = refl
other_asks _ s ts differs = refl

-- a conjunction asks for nothing where it ends behind its own node
and_asks : (s : Span) (ts : Trees) (i to : ℕ) → suc i + sizes ts ≡ to
    → nat_eq to (i + 1) ≡ asks_nothing (expression_read (Node trees.And s ts))
unfolding expression_read expressions_read sizes
and_asks s NoTree i to ends = eq-eqb to (i + 1) (omega (arith, ends))
and_asks s (More t ts) i to ends =
    ne_eqb to (i + 1) (λ e. omega (arith, ends, e, positive t))
    ∙ sym (parts_ask s (expression_read t) (expressions_read ts))

module _ (c : CodeView) (i : ℕ) (l : Laid) (there : slice_get c.nodes i ≡ Some l) where
  abbrev below : Trees
  below = trees_between c.nodes (suc i) l.to

  -- what is asked for is what the node and those below it read back as
  asked : (op : Operation) → l.op ≡ op
      → asks_nothing (expression_at c i) ≡ asks_nothing (expression_read (Node op l.span below))
  asked op is =
      ap asks_nothing
      (expression_of c i (Node l.op l.span below) (node_there c.nodes i l there)
      ∙ ap (λ o. expression_read (Node o l.span below)) is)

  -- a node that isn't a conjunction's asks for something
  pub other_there : (op : Op) → l.op ≡ operation_of op → (op ≡ ops.And → ⊥) → asks_nothing (expression_at c i) ≡ false
  other_there op is differs = asked (operation_of op) is ∙ other_asks op l.span below differs

  -- a conjunction's asks for nothing where it ends behind itself
  pub and_there : IsCode c → l.op ≡ trees.And → nat_eq l.to (i + 1) ≡ asks_nothing (expression_at c i)
  and_there code is =
      and_asks l.span below i l.to (below_ends c.nodes (code_laid c code) i l there) ∙ sym (asked trees.And is)

-- what asks for nothing is satisfied by the bindings as they stand, and by no others
nothing_is : (axioms : List Axiom) (n : ℕ) (s : State) (e : Bindings) (E : Expression)
    → asks_nothing (Some E) ≡ true → Sat e ∷ [] ≡ heard (sat axioms n s E e)
unfolding events events_of_all
nothing_is axioms n s e (syntax.And p syntax.NoExpression) nothing =
    sym (ap heard (sat_is axioms n s (syntax.And p syntax.NoExpression) e))
nothing_is axioms n s e (syntax.And p (syntax.Also x xs)) nothing = absurd cc
nothing_is axioms n s e _ nothing = absurd cc

pub nothing_met : (axioms : List Axiom) (n : ℕ) (s : State) (e : Bindings) (o : Option Expression)
    → asks_nothing o ≡ true → (E : Expression) → o ≡ Some E → Sat e ∷ [] ≡ heard (sat axioms n s E e)
nothing_met axioms n s e o nothing E is =
    nothing_is axioms n s e E (subst (λ x. asks_nothing x ≡ true) is nothing)
