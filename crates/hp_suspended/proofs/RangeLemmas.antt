-- The events of the nodes from one index up to another, by those of the first node and of the others.
use Rattle.std.proofs.Common.{◌≡◌, ℕ, zero, suc, ◌+◌, ◌<◌, ◌≤◌, true, List, [], ◌∷◌, ◌++◌, slice_get, Option, Some, None, is_some, option_map, option_and_then, refl, ap, sym, ◌∙◌, add-one, arith}
use Rattle.std.proofs.lemmas.Option.{same_Some}
use Rattle.hp_syntax.specs.declared.pattern.Span.{Span}
use Rattle.hp_syntax.specs.Syntax.{Axiom, Clause, Expression, Expressions, NoExpression, Also}
use Rattle.hp_syntax.specs.Values.{Bindings}
use Rattle.hp_syntax.specs.Events.{Event, State, Sat, chosen, chosen_events, chosen_or, events, events_of_all, events_of_any, sat, through}
use Rattle.hp_code.specs.CodeViews.{CodeView, IsCode}
use Rattle.hp_code.specs.Sources.{made_of, expression_read, expressions_read, clause_read, clauses_read}
use Rattle.hp_nodes.specs.Trees.{Laid, Operation, Tree, Trees, Node, NoTree, More, BranchOf, all_laid, trees, tree_at, trees_between}
use Rattle.hp_code.proofs.NodeLemmas.{laid_by_ends, node_there}
use Rattle.hp_suspended.specs.Nodes.{expression_at, expressions_in, clauses_in}
use Rattle.hp_suspended.specs.Settings.{Setting, axioms_in, state_in, atoms_at, expression_events, all_events, any_events, clause_events, node_events, all_between, any_between, first_between, first_of}
use Rattle.hp_suspended.specs.Fitting.{IsExpressionAt, AreExpressionsIn, AreClausesIn}
use Rattle.hp_suspended.proofs.NodeRanges.{below_ends, ends_within, range_begins, range_ends, stands_first}

-- the satisfiers of an expression are looked for by those of its atoms
pub sat_is : (axioms : List Axiom) (n : ℕ) (s : State) (E : Expression) (e : Bindings)
    → sat axioms n s E e ≡ events (atoms_at axioms n s) E e
unfolding sat
sat_is axioms zero s E e = refl
sat_is axioms (suc n) s E e = refl

-- a list before none is that list
pub first_of-nil : (xs : List Event) → first_of xs [] ≡ xs
first_of-nil [] = refl
first_of-nil (x ∷ xs) = refl

-- a range ends no sooner than it begins
pub range_ascends : (c : CodeView) (k end : ℕ) → AreExpressionsIn c k end → k ≤ end
range_ascends c k end is = let whole = is.whole in omega (arith, whole)

-- nor does a range of branches
pub clauses_ascend : (c : CodeView) (k end : ℕ) → AreClausesIn c k end → k ≤ end
clauses_ascend c k end is = let whole = is.whole in omega (arith, whole)

-- ---- nodes as trees

-- the nodes of a code are laid down
pub code_laid : (c : CodeView) → IsCode c → c.nodes ≡ all_laid 0 (trees 0 c.nodes)
code_laid c is = laid_by_ends c.nodes is.ends

-- a node's expression is that of its tree
pub expression_of : (c : CodeView) (k : ℕ) (t : Tree) → tree_at c.nodes k ≡ Some t
    → expression_at c k ≡ expression_read t
unfolding expression_at
expression_of c k t e = ap (option_and_then expression_read) e

-- ---- what is made of a first thing and others

-- where something is made of two things both are there
pub both_there : {A B C : Type 0} (f : A → B → C) (x : Option A) (y : Option B) → is_some (made_of f x y) ≡ true
    → (is_some x ≡ true) × (is_some y ≡ true)
both_there f None y e = absurd cc
both_there f (Some a) None e = absurd cc
both_there f (Some a) (Some b) e = (refl, refl)

-- what is made of one thing is there only where that is
pub one_there : {A B : Type 0} (f : A → B) (x : Option A) → is_some (option_map f x) ≡ true → is_some x ≡ true
one_there f None e = absurd cc
one_there f (Some a) e = refl

module _ (w : Setting) (n : ℕ) where
  -- the others of a conjunction stand in the place of each Sat of its first part
  all_made : (x : Option Expression) (y : Option Expressions) (e : Bindings) → is_some (made_of Also x y) ≡ true
      → all_events w n (made_of Also x y) e ≡ through (expression_events w n x e) (all_events w n y)
  unfolding events_of_all
  all_made None y e h = absurd cc
  all_made (Some p) None e h = absurd cc
  all_made (Some p) (Some ps) e h =
      ap (λ xs. through xs (λ b. events_of_all (atoms_at (axioms_in w) n (state_in w)) ps b))
      (sym (sat_is (axioms_in w) n (state_in w) p e))

  -- the others of a disjunction stand behind its first part
  any_made : (x : Option Expression) (y : Option Expressions) (e : Bindings) → is_some (made_of Also x y) ≡ true
      → any_events w n (made_of Also x y) e ≡ expression_events w n x e ++ any_events w n y e
  unfolding events_of_any
  any_made None y e h = absurd cc
  any_made (Some p) None e h = absurd cc
  any_made (Some p) (Some ps) e h =
      ap (λ xs. xs ++ events_of_any (atoms_at (axioms_in w) n (state_in w)) ps e)
      (sym (sat_is (axioms_in w) n (state_in w) p e))

-- ---- expressions from one index up to another

-- a range of expressions is the first node's and those from where it ends on
pub record FirstExpression (w : Setting) (n k end : ℕ) (l : Laid) : Type 0 where
  pub first : IsExpressionAt w.code k
  pub others : AreExpressionsIn w.code l.to end
  pub more : k < l.to
  pub most : l.to ≤ end
  pub parts : expressions_in w.code k end ≡ made_of Also (expression_at w.code k) (expressions_in w.code l.to end)
  pub all : (e : Bindings) → all_between w n k end e ≡ through (node_events w n k e) (all_between w n l.to end)
  pub any : (e : Bindings) → any_between w n k end e ≡ node_events w n k e ++ any_between w n l.to end e

module _ (w : Setting) (n k end : ℕ) (code : IsCode w.code) (is : AreExpressionsIn w.code k end) where
  -- a range of expressions that isn't empty begins with the expression of its first node
  pub first_expression : k < end → (l : Laid) → slice_get w.code.nodes k ≡ Some l → FirstExpression w n k end l
  unfolding expressions_in expressions_read all_between any_between node_events
  first_expression less l there =
      let b = range_begins w.code.nodes (code_laid w.code code) k end l there is.whole less in
      let x = expression_at w.code k in
      let y = expressions_in w.code l.to end in
      let parts : expressions_in w.code k end ≡ made_of Also x y =
      ap expressions_read b.begins
      ∙ ap (λ o. made_of Also o y) (sym (expression_of w.code k b.tree b.at')) in
      let both = both_there Also x y (sym (ap is_some parts) ∙ is.read) in
      let whole : is_some (made_of Also x y) ≡ true = sym (ap is_some parts) ∙ is.read in
      record {
        first = both.0;
        others = record { read = both.1; whole = b.whole; within = is.within };
        more = b.more;
        most = b.most;
        parts = parts;
        all = λ e. ap (λ o. all_events w n o e) parts ∙ all_made w n x y e whole;
        any = λ e. ap (λ o. any_events w n o e) parts ∙ any_made w n x y e whole;
      }

  -- an empty range of expressions is read as none
  none_between : end ≤ k → expressions_in w.code k end ≡ Some NoExpression
  unfolding expressions_in expressions_read
  none_between over = ap expressions_read (range_ends w.code.nodes k end is.whole over)

  -- a conjunction of none is satisfied as it stands
  pub all_ended : end ≤ k → (e : Bindings) → all_between w n k end e ≡ Sat e ∷ []
  unfolding all_between events_of_all
  all_ended over e = ap (λ o. all_events w n o e) (none_between over)

  -- a disjunction of none has no events
  pub any_ended : end ≤ k → (e : Bindings) → any_between w n k end e ≡ []
  unfolding any_between events_of_any
  any_ended over e = ap (λ o. any_events w n o e) (none_between over)

-- ---- branches from one index up to another

-- a tree of a branch, with its expression alone below it
pub record BranchTree (op : Operation) (s : Span) (ts : Trees) : Type 0 where
  pub name : Option (List ℕ)
  pub body : Tree
  pub below : ts ≡ More body NoTree
  pub is : clause_read (Node op s ts) ≡ option_map (λ e. record { name = name; body = e }) (expression_read body)

-- a tree that reads back as an axiom's branch is that of a branch
branch_tree : (op : Operation) (s : Span) (ts : Trees) → is_some (clause_read (Node op s ts)) ≡ true
    → BranchTree op s ts
branch_tree (BranchOf name) s NoTree e = absurd cc
branch_tree (BranchOf name) s (More t NoTree) e = record { name = name; body = t; below = refl; is = refl }
branch_tree (BranchOf name) s (More t (More u us)) e = absurd cc
branch_tree _ s ts e = absurd cc

-- of a branch and others the first that has any events counts
chosen_first : {A : Type 0} (x : A) (ys : List Event) (o : Option (A × List Event))
    → chosen_events (chosen_or x ys o) ≡ first_of ys (chosen_events o)
chosen_first x [] o = refl
chosen_first x (y ∷ ys) o = refl

abbrev named : Option (List ℕ) → Option Expression → Option Clause
named name x = option_map (λ e. record { name = name; body = e }) x

clause_made : (w : Setting) (n : ℕ) (name : Option (List ℕ)) (x : Option Expression) (y : Option (List Clause))
    (e : Bindings) → is_some (made_of (λ c cs. c ∷ cs) (named name x) y) ≡ true
    → clause_events w n (made_of (λ c cs. c ∷ cs) (named name x) y) e
    ≡ first_of (expression_events w n x e) (clause_events w n y e)
clause_made w n name None y e h = absurd cc
clause_made w n name (Some p) None e h = absurd cc
clause_made w n name (Some p) (Some cs) e h =
    let c : Clause = record { name = name; body = p } in
    chosen_first c (sat (axioms_in w) n (state_in w) p e)
    (chosen (λ d. sat (axioms_in w) n (state_in w) d.body e) cs)

-- the node of a branch reads back with the expression of the node behind it
record BranchAt (c : CodeView) (k : ℕ) (t : Tree) : Type 0 where
  name : Option (List ℕ)
  is : clause_read t ≡ named name (expression_at c (k + 1))

branch_at : (c : CodeView) → IsCode c → (k : ℕ) (l : Laid) → slice_get c.nodes k ≡ Some l → (t : Tree)
    → tree_at c.nodes k ≡ Some t → is_some (clause_read t) ≡ true → BranchAt c k t
branch_at c code k l there t at' read =
    let down = code_laid c code in
    let below = trees_between c.nodes (suc k) l.to in
    let own : t ≡ Node l.op l.span below = same_Some t _ (sym at' ∙ node_there c.nodes k l there) in
    let b = branch_tree l.op l.span below (sym (ap (λ u. is_some (clause_read u)) own) ∙ read) in
    let first = stands_first c.nodes down (suc k) l.to b.body NoTree (below_ends c.nodes down k l there)
    (ends_within c.nodes down k l there) b.below in
    let next : expression_at c (k + 1) ≡ expression_at c (suc k) = rw add-one refl in
    let body : expression_at c (k + 1) ≡ expression_read b.body =
    next ∙ expression_of c (suc k) b.body first.tree in
    record { name = b.name; is = ap clause_read own ∙ b.is ∙ ap (named b.name) (sym body) }

-- a range of branches is the first node's and those from where it ends on
pub record FirstBranch (w : Setting) (n k end : ℕ) (l : Laid) : Type 0 where
  pub first : IsExpressionAt w.code (k + 1)
  pub others : AreClausesIn w.code l.to end
  pub more : k < l.to
  pub most : l.to ≤ end
  pub events : (e : Bindings)
      → first_between w n k end e ≡ first_of (node_events w n (k + 1) e) (first_between w n l.to end e)

module _ (w : Setting) (n k end : ℕ) (code : IsCode w.code) (is : AreClausesIn w.code k end) where
  -- a range of branches that isn't empty begins with that of its first node
  pub first_branch : k < end → (l : Laid) → slice_get w.code.nodes k ≡ Some l → FirstBranch w n k end l
  unfolding clauses_in first_between node_events
  first_branch less l there =
      let c = w.code in
      let b = range_begins c.nodes (code_laid c code) k end l there is.whole less in
      let y = clauses_in c l.to end in
      let join = λ (d : Clause) (ds : List Clause). d ∷ ds in
      let parts : clauses_in c k end ≡ made_of join (clause_read b.tree) y = ap clauses_read b.begins in
      let whole : is_some (made_of join (clause_read b.tree) y) ≡ true = sym (ap is_some parts) ∙ is.read in
      let both = both_there join (clause_read b.tree) y whole in
      let t = branch_at c code k l there b.tree b.at' both.0 in
      let named_is = t.is in
      let known : is_some (made_of join (named t.name (expression_at c (k + 1))) y) ≡ true =
      sym (ap (λ o. is_some (made_of join o y)) named_is) ∙ whole in
      record {
        first =
            one_there (λ (e : Expression). record { name = t.name; body = e }) (expression_at c (k + 1))
            (sym (ap is_some named_is) ∙ both.0);
        others = record { read = both.1; whole = b.whole; within = is.within };
        more = b.more;
        most = b.most;
        events =
            λ e.
            ap (λ o. clause_events w n o e) (parts ∙ ap (λ o. made_of join o y) named_is)
            ∙ clause_made w n t.name (expression_at c (k + 1)) y e known;
      }

  -- where there are no branches there are no events
  pub first_ended : end ≤ k → (e : Bindings) → first_between w n k end e ≡ []
  unfolding clauses_in first_between
  first_ended over e =
      ap (λ ts. clause_events w n (clauses_read ts) e) (range_ends w.code.nodes k end is.whole over)
