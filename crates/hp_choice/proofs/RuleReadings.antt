-- What the node of a rule and the nodes below it say of the rule, by its kind.
use Rattle.std.proofs.Common.{◌≡◌, ℕ, suc, ◌+◌, ◌<◌, ◌≤◌, ◌==◌, Bool, true, false, cond, List, [], ◌∷◌, length, slice_get, Option, Some, None, is_some, option_map, option_and_then, refl, ap, sym, subst, ◌∙◌, arith}
use Rattle.std.specs.List.{All}
use Rattle.std.proofs.lemmas.List.Elements.{All-head, All-tail}
use Rattle.std.proofs.lemmas.Option.{same_Some, slice_get_within}
use Rattle.hp_syntax.specs.declared.limits.TheConstants.{MOST_VARIABLES}
use Rattle.hp_syntax.specs.declared.pattern.Span.{Span}
use Rattle.hp_syntax.specs.Checks.{HasFewVariables, rule_faults}
use Rattle.hp_syntax.specs.Syntax.{Atom, Branch, Clause, Method, Operator, Precondition, Rule, Does, Refines, Concludes}
use Rattle.hp_syntax.specs.declared.pattern.AtomPat.{AtomPat}
use Rattle.hp_syntax.specs.Networks.{Place}
use Rattle.hp_syntax.specs.Terms.{Term}
use Rattle.hp_syntax.specs.Walk as walk
use Rattle.hp_syntax.specs.Walk.{rule_children}
use Rattle.hp_syntax.proofs.CheckLemmas.{none_found}
use Rattle.hp_laws.proofs.FaultLemmas.{each_empty, faultless_has_few}
use Rattle.hp_nodes.specs.declared.node.Op.{Op}
use Rattle.hp_nodes.specs.declared.node.Op.TheVariants as ops
use Rattle.hp_nodes.specs.NodeViews.{operation_of}
use Rattle.hp_nodes.specs.Compiled.{vars_of}
use Rattle.hp_nodes.specs.Trees.{Laid, Operation, OperatorOf, MethodOf, AxiomOf, Tree, Trees, Node, NoTree, More, trees_between}
use Rattle.hp_code.specs.CodeViews.{CodeView, IsCode, beside, rule_nodes, rules_in, vars_at}
use Rattle.hp_code.specs.Sources.{Body, made_of, body_read, branches_read, clauses_read, from_adding, not_adding, precondition_read, rule_read}
use Rattle.hp_code.proofs.CodeLemmas.{vars_found}
use Rattle.hp_code.proofs.NodeLemmas.{node_there}
use Rattle.hp_suspended.specs.Fitting.{IsRange}
use Rattle.hp_suspended.proofs.NodeRanges.{below_ends, ends_within, node_of_tree, stands_first}
use Rattle.hp_suspended.proofs.RangeLemmas.{code_laid}
use Rattle.hp_suspended.proofs.RuleNodes.{rule_at}
use Rattle.hp_precondition.specs.PreconditionNodes.{precondition_at}
use Rattle.hp_operator.specs.Bodies.{IsBodyIn, body_at}
use Rattle.hp_method.specs.Branches.{AreBranchesIn, branches_at}

-- ---- what a tree says

-- what a tree says that reads back as an operator
record OperatorTree (op : Operation) (ts : Trees) (o : Operator) : Type 0 where
  op_is : op ≡ OperatorOf o.head
  first : Tree
  others : Trees
  below : ts ≡ More first others
  pre : precondition_read first ≡ Some o.pre
  body : Body
  read : body_read others ≡ Some body
  dels : o.dels ≡ not_adding body.effects
  adds : o.adds ≡ from_adding body.effects
  cost : o.cost ≡ body.cost

-- what a tree says that reads back as a method
record MethodTree (op : Operation) (ts : Trees) (m : Method) : Type 0 where
  op_is : op ≡ MethodOf m.head
  branches : branches_read ts ≡ Some m.branches

-- what a tree says that reads back as a rule
abbrev RuleTree : Operation → Trees → Rule → Type 0
RuleTree op ts (Does o) = OperatorTree op ts o
RuleTree op ts (Refines m) = MethodTree op ts m
RuleTree op ts (Concludes x) = op ≡ AxiomOf x.head

module _ (vars : List (List ℕ)) (head : Atom) (s : Span) where
  operator_read : (t : Tree) (ts : Trees) (x : Option Precondition) (y : Option Body) (r : Rule)
      → precondition_read t ≡ x → body_read ts ≡ y
      → made_of (λ pre (b : Body). Does (record {
        span = s;
        vars = vars;
        head = head;
        pre = pre;
        dels = not_adding b.effects;
        adds = from_adding b.effects;
        cost = b.cost;
      })) x y ≡ Some r
      → RuleTree (OperatorOf head) (More t ts) r
  operator_read t ts None y r p b e = absurd cc
  operator_read t ts (Some pre) None r p b e = absurd cc
  operator_read t ts (Some pre) (Some own) r p b e =
      subst (RuleTree (OperatorOf head) (More t ts)) (same_Some _ r e)
      (record {
        op_is = refl;
        first = t;
        others = ts;
        below = refl;
        pre = p;
        body = own;
        read = b;
        dels = refl;
        adds = refl;
        cost = refl;
      })

  method_read : (ts : Trees) (x : Option (List Branch)) (r : Rule) → branches_read ts ≡ x
      → option_map (λ bs. Refines (record { span = s; vars = vars; head = head; branches = bs })) x ≡ Some r
      → RuleTree (MethodOf head) ts r
  method_read ts None r b e = absurd cc
  method_read ts (Some bs) r b e =
      subst (RuleTree (MethodOf head) ts) (same_Some _ r e) (record { op_is = refl; branches = b })

  axiom_read : (ts : Trees) (x : Option (List Clause)) (r : Rule)
      → option_map (λ cs. Concludes (record { span = s; vars = vars; head = head; clauses = cs })) x ≡ Some r
      → RuleTree (AxiomOf head) ts r
  axiom_read ts None r e = absurd cc
  axiom_read ts (Some cs) r e = subst (RuleTree (AxiomOf head) ts) (same_Some _ r e) refl

-- a tree that reads back as a rule says this of it
rule_tree : (vars : List (List ℕ)) (op : Operation) (s : Span) (ts : Trees) (r : Rule)
    → rule_read vars (Node op s ts) ≡ Some r → RuleTree op ts r
rule_tree vars (OperatorOf head) s NoTree r e = absurd cc
rule_tree vars (OperatorOf head) s (More t ts) r e =
    operator_read vars head s t ts (precondition_read t) (body_read ts) r refl refl e
rule_tree vars (MethodOf head) s ts r e = method_read vars head s ts (branches_read ts) r refl e
rule_tree vars (AxiomOf head) s ts r e = axiom_read vars head s ts (clauses_read ts) r e
rule_tree vars _ s ts r e = absurd cc

-- ---- what a node says

-- below the node of an operator stand its precondition, and then its effects and its cost
pub record OperatorNodes (c : CodeView) (i : ℕ) (l : Laid) (o : Operator) : Type 0 where
  pub op_is : l.op ≡ OperatorOf o.head
  pub vars_are : vars_at c i ≡ o.vars
  pub pre : precondition_at c (i + 1) ≡ Some o.pre
  pub node : Laid
  pub there : slice_get c.nodes (i + 1) ≡ Some node
  pub body : Body
  pub is : body_at c node.to l.to ≡ Some body
  pub dels : o.dels ≡ not_adding body.effects
  pub adds : o.adds ≡ from_adding body.effects
  pub cost : o.cost ≡ body.cost
  pub nodes : IsBodyIn c node.to l.to

-- below that of a method stand its branches
pub record MethodNodes (c : CodeView) (i : ℕ) (l : Laid) (m : Method) : Type 0 where
  pub op_is : l.op ≡ MethodOf m.head
  pub vars_are : vars_at c i ≡ m.vars
  pub branches : branches_at c (i + 1) l.to ≡ Some m.branches
  pub nodes : AreBranchesIn c (i + 1) l.to

-- the node of a rule
abbrev pub RuleNodes : CodeView → ℕ → Laid → Rule → Type 0
RuleNodes c i l (Does o) = OperatorNodes c i l o
RuleNodes c i l (Refines m) = MethodNodes c i l m
RuleNodes c i l (Concludes x) = l.op ≡ AxiomOf x.head

-- what holds of all things holds of the one beside an index
beside_all : {A : Type 0} (P : A → Type 0) (i : ℕ) (is : List ℕ) (xs : List A) (x : A) → All P xs
    → beside i is xs ≡ Some x → P x
beside_all P i [] xs x all e = absurd cc
beside_all P i (n ∷ is) [] x all e = absurd cc
beside_all P i (n ∷ is) (y ∷ xs) x all e =
    either (n == i) (All-head P y xs all) (beside_all P i is xs x (All-tail P y xs all)) e
  where
    either : (b : Bool) → P y → (beside i is xs ≡ Some x → P x) → cond b (Some y) (beside i is xs) ≡ Some x → P x
    either true here later g = subst P (same_Some y x g) here
    either false here later g = later g

-- a rule with few variables has few names of them
few_names : (r : Rule) → HasFewVariables r → length (vars_of r) ≤ MOST_VARIABLES
few_names (Does o) h = h
few_names (Refines m) h = h
few_names (Concludes x) h = h

module _ (c : CodeView) (code : IsCode c) (i : ℕ) where
  -- a rule of a code has few variables
  pub few_of_rule : (r : Rule) → beside i (rule_nodes c) (rules_in c) ≡ Some r → length (vars_at c i) ≤ MOST_VARIABLES
  few_of_rule r found =
      let faultless = each_empty rule_faults (rules_in c) (none_found _ code.faultless) in
      let own = beside_all (λ q. rule_faults q ≡ []) i (rule_nodes c) (rules_in c) r faultless found in
      subst (λ vs. length vs ≤ MOST_VARIABLES) (sym (vars_found c code i r found))
      (few_names r (faultless_has_few r own))

  module _ (r : Rule) (found : beside i (rule_nodes c) (rules_in c) ≡ Some r) where
    -- a rule's node is one of the nodes
    pub rule_within : i < length c.nodes
    rule_within =
        let at' = rule_at c code i r found in
        let l = node_of_tree c.nodes i at'.tree at'.at' in
        slice_get_within c.nodes i l.0 l.1

  module _ (l : Laid) (there : slice_get c.nodes i ≡ Some l) where
    below_rule : (r : Rule) → beside i (rule_nodes c) (rules_in c) ≡ Some r
        → RuleTree l.op (trees_between c.nodes (suc i) l.to) r → RuleNodes c i l r
    unfolding precondition_at body_at branches_at
    below_rule (Does o) found t =
        let down = code_laid c code in
        let f = stands_first c.nodes down (suc i) l.to t.first t.others (below_ends c.nodes down i l there)
        (ends_within c.nodes down i l there) t.below in
        let next : suc i ≡ i + 1 = omega arith in
        let read : body_at c f.node.to l.to ≡ Some t.body = ap body_read f.others ∙ t.read in
        record {
          op_is = t.op_is;
          vars_are = vars_found c code i (Does o) found;
          pre =
              subst (λ k. precondition_at c k ≡ Some o.pre) next
              (ap (option_and_then precondition_read) f.tree ∙ t.pre);
          node = f.node;
          there = subst (λ k. slice_get c.nodes k ≡ Some f.node) next f.there;
          body = t.body;
          is = read;
          dels = t.dels;
          adds = t.adds;
          cost = t.cost;
          nodes = record {
            read = ap is_some read;
            whole = f.whole;
            within = ends_within c.nodes down i l there;
          };
        }
    below_rule (Refines m) found t =
        let down = code_laid c code in
        let next : suc i ≡ i + 1 = omega arith in
        let read : branches_at c (i + 1) l.to ≡ Some m.branches =
        subst (λ k. branches_at c k l.to ≡ Some m.branches) next t.branches in
        record {
          op_is = t.op_is;
          vars_are = vars_found c code i (Refines m) found;
          branches = read;
          nodes = record {
            read = ap is_some read;
            whole = subst (λ k. IsRange c k l.to) next (below_ends c.nodes down i l there);
            within = ends_within c.nodes down i l there;
          };
        }
    below_rule (Concludes x) found t = t

    -- the node of a rule says this of it
    pub rule_node : (r : Rule) → beside i (rule_nodes c) (rules_in c) ≡ Some r → RuleNodes c i l r
    rule_node r found =
        let at' = rule_at c code i r found in
        let below = trees_between c.nodes (suc i) l.to in
        let own : at'.tree ≡ Node l.op l.span below =
        same_Some at'.tree (Node l.op l.span below) (sym at'.at' ∙ node_there c.nodes i l there) in
        below_rule r found
        (rule_tree at'.vars l.op l.span below r (ap (rule_read at'.vars) (sym own) ∙ at'.is))

-- ---- the rule of a node

-- the rule is an operator with this head
pub record HasOperator (c : CodeView) (i : ℕ) (head : Atom) (r : Rule) : Type 0 where
  pub own : Operator
  pub is : r ≡ Does own
  pub head_is : own.head ≡ head
  pub vars_are : vars_at c i ≡ own.vars

-- the rule is a method with this head
pub record HasMethod (c : CodeView) (i : ℕ) (head : Atom) (r : Rule) : Type 0 where
  pub own : Method
  pub is : r ≡ Refines own
  pub head_is : own.head ≡ head
  pub vars_are : vars_at c i ≡ own.vars

module _ (c : CodeView) (i : ℕ) (l : Laid) (head : Atom) where
  operator_by : (r : Rule) → RuleNodes c i l r → l.op ≡ OperatorOf head → HasOperator c i head r
  operator_by (Does o) n e =
      let op = n.op_is in
      record { own = o; is = refl; head_is = cc; vars_are = n.vars_are }
  operator_by (Refines m) n e = let op = n.op_is in absurd cc
  operator_by (Concludes x) n e = absurd cc

  method_by : (r : Rule) → RuleNodes c i l r → l.op ≡ MethodOf head → HasMethod c i head r
  method_by (Does o) n e = let op = n.op_is in absurd cc
  method_by (Refines m) n e =
      let op = n.op_is in
      record { own = m; is = refl; head_is = cc; vars_are = n.vars_are }
  method_by (Concludes x) n e = absurd cc

  module _ (code : IsCode c) (there : slice_get c.nodes i ≡ Some l) (r : Rule)
      (found : beside i (rule_nodes c) (rules_in c) ≡ Some r) where
    -- the rule of an operator's node is an operator
    pub has_operator : l.op ≡ OperatorOf head → HasOperator c i head r
    has_operator = operator_by r (rule_node c code i l there r found)

    -- that of a method's node is a method
    pub has_method : l.op ≡ MethodOf head → HasMethod c i head r
    has_method = method_by r (rule_node c code i l there r found)

-- an operation of an operator is that of its head
operator_head : (op : Op) (head : Atom) → operation_of op ≡ OperatorOf head
    → ((a : AtomPat) → op ≡ ops.Operator a → ⊥) → ⊥
operator_head (ops.Operator a) head h other = other a refl
operator_head _ head h other = absurd cc

-- that of a method is that of its head
method_head : (op : Op) (head : Atom) → operation_of op ≡ MethodOf head → ((a : AtomPat) → op ≡ ops.Method a → ⊥) → ⊥
method_head (ops.Method a) head h other = other a refl
method_head _ head h other = absurd cc

module _ (c : CodeView) (i : ℕ) (l : Laid) (op : Op) (same : l.op ≡ operation_of op)
    (operator : (a : AtomPat) → op ≡ ops.Operator a → ⊥) (method : (a : AtomPat) → op ≡ ops.Method a → ⊥) where
  none_by : (rules : List Rule) (nest : ℕ) (n : walk.Node) (p : Place) (t : Term) (r : Rule) → RuleNodes c i l r
      → rule_children rules nest n p t r ≡ []
  none_by rules nest n p t (Does o) h = absurd (operator_head op o.head (sym same ∙ h.op_is) operator)
  none_by rules nest n p t (Refines m) h = absurd (method_head op m.head (sym same ∙ h.op_is) method)
  none_by rules nest n p t (Concludes x) h = refl

  -- where the node is another's, the rule has no children
  pub no_children : (code : IsCode c) → slice_get c.nodes i ≡ Some l → (r : Rule)
      → beside i (rule_nodes c) (rules_in c) ≡ Some r → (nest : ℕ) (n : walk.Node) (p : Place) (t : Term)
      → rule_children (rules_in c) nest n p t r ≡ []
  no_children code there r found nest n p t =
      none_by (rules_in c) nest n p t r (rule_node c code i l there r found)

-- what is there is something
pub there_is : {A : Type 0} (o : Option A) → is_some o ≡ true → (a : A) × (o ≡ Some a)
there_is None e = absurd cc
there_is (Some a) e = (a, refl)
