-- The nodes of the branches of an axiom, and the expression of each.
use Rattle.std.proofs.Common.{◌≡◌, ℕ, zero, suc, ◌+◌, ◌<◌, inl, inr, List, [], ◌∷◌, slice_get, Option, Some, None, option_map, is_some, refl, ap, sym, ◌∙◌, arith}
use Rattle.std.proofs.lemmas.Bool.{cases_lt}
use Rattle.std.proofs.lemmas.Option.{same_Some}
use Rattle.hp_syntax.specs.declared.pattern.Span.{Span}
use Rattle.hp_syntax.specs.Syntax.{Axiom, Clause, Expression, Concludes}
use Rattle.hp_nodes.specs.Trees.{Laid, Operation, BranchOf, Tree, Trees, Node, NoTree, More, trees_between}
use Rattle.hp_code.specs.CodeViews.{CodeView, IsCode, beside, rule_nodes, rules_in}
use Rattle.hp_code.specs.Sources.{made_of, clause_read, clauses_read, expression_read, rule_read}
use Rattle.hp_code.proofs.NodeLemmas.{node_there}
use Rattle.hp_suspended.specs.Fitting.{AreClausesIn}
use Rattle.hp_suspended.specs.Nodes.{clauses_in, expression_at}
use Rattle.hp_suspended.proofs.NodeRanges.{below_ends, ends_within, head_same, node_in, range_begins, range_ends, stands_first, tail_same}
use Rattle.hp_suspended.proofs.RangeLemmas.{code_laid, expression_of}
use Rattle.hp_suspended.proofs.RuleNodes.{axiom_tree, rule_at}
use Rattle.hp_choice.specs.Asking.{past}
use Rattle.hp_unmet.proofs.PrefixSteps.{past_first}

-- ---- a branch

-- below the node of a branch stands the tree of its expression alone
record ClauseTree (ts : Trees) (x : Clause) : Type 0 where
  body : Tree
  below : ts ≡ More body NoTree
  read : expression_read body ≡ Some x.body

body_of_clause : (name : Option (List ℕ)) (o : Option Expression) (x : Clause)
    → option_map (λ e. record { name = name; body = e }) o ≡ Some x → o ≡ Some x.body
body_of_clause name None x e = absurd cc
body_of_clause name (Some b) x e =
    let own : Clause = record { name = name; body = b } in
    ap (λ (y : Clause). Some y.body) (same_Some own x e)

clause_tree : (op : Operation) (s : Span) (ts : Trees) (x : Clause) → clause_read (Node op s ts) ≡ Some x
    → ClauseTree ts x
clause_tree (BranchOf name) s NoTree x e = absurd cc
clause_tree (BranchOf name) s (More t NoTree) x e =
    record { body = t; below = refl; read = body_of_clause name (expression_read t) x e }
clause_tree (BranchOf name) s (More t (More u us)) x e = absurd cc
clause_tree _ s ts x e = absurd cc

-- so the node behind that of a branch is that of its expression
clause_body : (c : CodeView) → IsCode c → (k : ℕ) (l : Laid) → slice_get c.nodes k ≡ Some l → (x : Clause)
    → clause_read (Node l.op l.span (trees_between c.nodes (suc k) l.to)) ≡ Some x
    → expression_at c (k + 1) ≡ Some x.body
clause_body c code k l there x e =
    let down = code_laid c code in
    let t = clause_tree l.op l.span (trees_between c.nodes (suc k) l.to) x e in
    let f = stands_first c.nodes down (suc k) l.to t.body NoTree (below_ends c.nodes down k l there)
    (ends_within c.nodes down k l there) t.below in
    let next : suc k ≡ k + 1 = omega arith in
    ap (expression_at c) (sym next) ∙ expression_of c (suc k) t.body f.tree ∙ t.read

-- ---- branches one after the other

-- a branch is read before others
clause_before : (o : Option Clause) (p : Option (List Clause)) (x : Clause) (xs : List Clause)
    → made_of (λ y ys. y ∷ ys) o p ≡ Some (x ∷ xs) → (o ≡ Some x) × (p ≡ Some xs)
clause_before None p x xs e = absurd cc
clause_before (Some y) None x xs e = absurd cc
clause_before (Some y) (Some ys) x xs e =
    let same = same_Some (y ∷ ys) (x ∷ xs) e in (ap Some (head_same y x ys xs same), ap Some (tail_same y x ys xs same))

-- a branch stands first, and the others behind it
record StandsClause (c : CodeView) (k end : ℕ) (x : Clause) (xs : List Clause) : Type 0 where
  node : Laid
  there : slice_get c.nodes k ≡ Some node
  body : expression_at c (k + 1) ≡ Some x.body
  others : AreClausesIn c node.to end
  rest : clauses_in c node.to end ≡ Some xs

-- where there are no nodes there is no branch
none_clauses : (x : Clause) (xs : List Clause) → clauses_read NoTree ≡ Some (x ∷ xs) → ⊥
none_clauses x xs e = cc

module _ (c : CodeView) (code : IsCode c) (k end : ℕ) (are : AreClausesIn c k end) (x : Clause) (xs : List Clause)
    (read : clauses_in c k end ≡ Some (x ∷ xs)) where
  some_clauses : k < end
  unfolding clauses_in
  some_clauses = elim (cases_lt k end) [
    | inl less ↦ less
    | inr over ↦
        absurd (none_clauses x xs (sym (ap clauses_read (range_ends c.nodes k end are.whole over)) ∙ read))
  ]

  stands_clause : StandsClause c k end x xs
  unfolding clauses_in
  stands_clause =
      let down = code_laid c code in
      let l = node_in c.nodes k end are.within some_clauses in
      let b = range_begins c.nodes down k end l.0 l.1 are.whole some_clauses in
      let both = clause_before (clause_read b.tree) (clauses_in c l.0.to end) x xs
      (sym (ap clauses_read b.begins) ∙ read) in
      let own : b.tree ≡ Node l.0.op l.0.span (trees_between c.nodes (suc k) l.0.to) =
      same_Some b.tree _ (sym b.at' ∙ node_there c.nodes k l.0 l.1) in
      record {
        node = l.0;
        there = l.1;
        body = clause_body c code k l.0 l.1 x (sym (ap clause_read own) ∙ both.0);
        others = record { read = ap is_some both.1; whole = b.whole; within = are.within };
        rest = both.1;
      }

-- of branches between two indices that of a number stands past so many trees
clause_past : (c : CodeView) → IsCode c → (n first end : ℕ) (xs : List Clause) (x : Clause)
    → AreClausesIn c first end → clauses_in c first end ≡ Some xs → slice_get xs n ≡ Some x
    → expression_at c (past c.nodes first n + 1) ≡ Some x.body
clause_past c code n first end [] x are read there = absurd cc
clause_past c code zero first end (y ∷ ys) x are read there =
    let s = stands_clause c code first end are y ys read in
    s.body ∙ ap (λ (z : Clause). Some z.body) (same_Some y x there)
clause_past c code (suc n) first end (y ∷ ys) x are read there =
    let s = stands_clause c code first end are y ys read in
    ap (λ k. expression_at c (k + 1)) (past_first c.nodes first n s.node s.there)
    ∙ clause_past c code n s.node.to end ys x s.others s.rest there

-- ---- an axiom

-- the node behind that of an axiom's branch is that of the branch's expression
pub axiom_clause : (c : CodeView) → IsCode c → (i : ℕ) (l : Laid) → slice_get c.nodes i ≡ Some l → (a : Axiom)
    → beside i (rule_nodes c) (rules_in c) ≡ Some (Concludes a) → (n : ℕ) (x : Clause)
    → slice_get a.clauses n ≡ Some x → expression_at c (past c.nodes (i + 1) n + 1) ≡ Some x.body
unfolding clauses_in
axiom_clause c code i l there a found n x at =
    let down = code_laid c code in
    let below = trees_between c.nodes (suc i) l.to in
    let r = rule_at c code i (Concludes a) found in
    let own : r.tree ≡ Node l.op l.span below =
    same_Some r.tree (Node l.op l.span below) (sym r.at' ∙ node_there c.nodes i l there) in
    let t = axiom_tree r.vars l.op l.span below a (sym (ap (rule_read r.vars) own) ∙ r.is) in
    let next : suc i ≡ i + 1 = omega arith in
    let are : AreClausesIn c (suc i) l.to =
    record {
      read = ap is_some t.clauses;
      whole = below_ends c.nodes down i l there;
      within = ends_within c.nodes down i l there;
    } in
    ap (λ k. expression_at c (past c.nodes k n + 1)) (sym next)
    ∙ clause_past c code n (suc i) l.to a.clauses x are t.clauses at
