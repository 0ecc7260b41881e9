-- The node of the expression for which an operator, or a branch of a method or of an axiom, asks, by the rule's node.
use Rattle.std.proofs.Common.{◌≡◌, ℕ, zero, suc, ◌+◌, ◌^◌, ◌<◌, inl, inr, List, [], ◌∷◌, length, slice_get, Option, Some, None, option_map, is_some, refl, ap, sym, ◌∙◌, arith}
use Rattle.std.proofs.lemmas.Bool.{cases_lt}
use Rattle.std.proofs.lemmas.List.{length-map}
use Rattle.std.proofs.lemmas.Option.{same_Some}
use Rattle.hp_syntax.specs.Syntax.{Atom, Branch, Clause, Expression, Plain, Precondition, Rule, Does, Refines, Concludes}
use Rattle.hp_syntax.specs.declared.pattern.AtomPat.{AtomPat}
use Rattle.hp_nodes.specs.declared.node.Op.{Op}
use Rattle.hp_nodes.specs.declared.node.Op.TheVariants as ops
use Rattle.hp_nodes.specs.NodeViews.{laid_of, operation_of}
use Rattle.hp_nodes.specs.Trees.{Laid, AxiomOf, MethodOf}
use Rattle.hp_code.specs.declared.code.Code.{Code}
use Rattle.hp_code.specs.Codes.{code_of}
use Rattle.hp_code.specs.CodeViews.{CodeView, IsCode, beside, rule_nodes, rules_in}
use Rattle.hp_suspended.specs.Nodes.{expression_at}
use Rattle.hp_suspended.proofs.NodeRanges.{head_same, tail_same}
use Rattle.hp_suspended.proofs.NodeReadings.{expression_within}
use Rattle.hp_precondition.specs.PreconditionNodes.{precondition_at}
use Rattle.hp_method.specs.Branches.{AreBranchesIn, branch_at, branches_at}
use Rattle.hp_method.proofs.BranchNodes.{branch_nodes, branches_end, stands_branch}
use Rattle.hp_choice.specs.Asking.{past}
use Rattle.hp_choice.proofs.RuleReadings.{RuleNodes, rule_node}
use Rattle.hp_unmet.specs.Conjunctions.{body_of}
use Rattle.hp_unmet.specs.PartNodes.{HasPrecondition, precondition_by}
use Rattle.hp_unmet.proofs.ClauseNodes.{axiom_clause}
use Rattle.hp_unmet.proofs.ConjunctionNodes.{body_behind}
use Rattle.hp_unmet.proofs.PrefixSteps.{past_first}

-- ---- branches

-- where there is a branch between two indices, the first of them is below the other
some_left : (c : CodeView) (first end : ℕ) (b : Branch) (bs : List Branch) → AreBranchesIn c first end
    → branches_at c first end ≡ Some (b ∷ bs) → first < end
some_left c first end b bs are read = elim (cases_lt first end) [
  | inl less ↦ less
  | inr over ↦ let none = branches_end c first end are over in absurd cc
]

-- of branches between two indices that of a number stands past so many trees
branch_past : (c : CodeView) → IsCode c → (n first end : ℕ) (bs : List Branch) (b : Branch)
    → AreBranchesIn c first end → branches_at c first end ≡ Some bs → slice_get bs n ≡ Some b
    → branch_at c (past c.nodes first n) ≡ Some b
branch_past c code n first end [] b are read there = absurd cc
branch_past c code zero first end (x ∷ xs) b are read there =
    let s = stands_branch c code first end are (some_left c first end x xs are read) in
    let same = same_Some (s.branch ∷ s.others) (x ∷ xs) (sym s.is ∙ read) in
    s.reads ∙ ap Some (head_same s.branch x s.others xs same) ∙ there
branch_past c code (suc n) first end (x ∷ xs) b are read there =
    let s = stands_branch c code first end are (some_left c first end x xs are read) in
    let same = same_Some (s.branch ∷ s.others) (x ∷ xs) (sym s.is ∙ read) in
    let rest = s.rest ∙ ap Some (tail_same s.branch x s.others xs same) in
    ap (branch_at c) (past_first c.nodes first n s.node s.there)
    ∙ branch_past c code n s.node.to end xs b s.branches rest there

-- ---- rules

-- a branch with this precondition
record HasPre (o : Option Branch) (p : Precondition) : Type 0 where
  branch : Branch
  is : o ≡ Some branch
  pre : branch.pre ≡ p

-- where the precondition of a branch is this one there is such a branch
pre_of : (o : Option Branch) (p : Precondition) → option_map (λ b. b.pre) o ≡ Some p → HasPre o p
pre_of None p e = absurd cc
pre_of (Some b) p e = record { branch = b; is = refl; pre = same_Some b.pre p e }

-- a branch of an axiom whose expression is that of this precondition
record HasBody (o : Option Clause) (p : Precondition) : Type 0 where
  clause : Clause
  is : o ≡ Some clause
  body : clause.body ≡ body_of p

clause_of_pre : (o : Option Clause) (p : Precondition) → option_map (λ x. Plain x.body) o ≡ Some p → HasBody o p
clause_of_pre None p e = absurd cc
clause_of_pre (Some x) p e =
    record { clause = x; is = refl; body = ap body_of (same_Some (Plain x.body) p e) }

-- an index is that of a node of the code, and of this expression
pub record StandsAt (c : CodeView) (i : ℕ) (e : Expression) : Type 0 where
  pub inside : i < length c.nodes
  pub is : expression_at c i ≡ Some e

module _ (c : CodeView) (code : IsCode c) where
  -- where an expression stands there is a node
  stands_at : (i : ℕ) (e : Expression) → expression_at c i ≡ Some e → StandsAt c i e
  stands_at i e is = record { inside = expression_within c i (ap is_some is); is = is }

  -- two nodes behind stands what stands behind the node behind
  behind_two : (i : ℕ) (p : Precondition) → precondition_at c (i + 1) ≡ Some p → StandsAt c (i + 2) (body_of p)
  behind_two i p is =
      let two : i + 1 + 1 ≡ i + 2 = omega arith in
      stands_at (i + 2) (body_of p) (ap (expression_at c) (sym two) ∙ body_behind c code (i + 1) p is)

module _ (c : CodeView) (code : IsCode c) (i branch : ℕ) (l : Laid) (p : Precondition) where
  -- where a rule that has this precondition is an operator its expression is two nodes behind its own
  of_operator : (r : Rule) → RuleNodes c i l r → precondition_by branch r ≡ Some p
      → ((head : Atom) → l.op ≡ MethodOf head → ⊥) → ((head : Atom) → l.op ≡ AxiomOf head → ⊥)
      → StandsAt c (i + 2) (body_of p)
  of_operator (Does o) n own method other = behind_two c code i p (n.pre ∙ own)
  of_operator (Refines m) n own method other = absurd (method m.head n.op_is)
  of_operator (Concludes x) n own method other = absurd (other x.head n)

  -- where it is a method, two behind that of the branch, which stands past so many trees
  of_method : (head : Atom) → l.op ≡ MethodOf head → (r : Rule) → RuleNodes c i l r → precondition_by branch r ≡ Some p
      → StandsAt c (past c.nodes (i + 1) branch + 2) (body_of p)
  of_method head does (Does o) n own = let op = n.op_is in absurd cc
  of_method head does (Refines m) n own =
      let b = pre_of (slice_get m.branches branch) p own in
      let at' = branch_past c code branch (i + 1) l.to m.branches b.branch n.nodes n.branches b.is in
      let nodes = branch_nodes c code (past c.nodes (i + 1) branch) b.branch at' in
      behind_two c code (past c.nodes (i + 1) branch) p (nodes.precondition ∙ ap Some b.pre)
  of_method head does (Concludes x) n own = absurd cc

  -- where it is an axiom, right behind that of the branch
  of_axiom : (head : Atom) → l.op ≡ AxiomOf head → slice_get c.nodes i ≡ Some l → (r : Rule) → RuleNodes c i l r
      → beside i (rule_nodes c) (rules_in c) ≡ Some r → precondition_by branch r ≡ Some p
      → StandsAt c (past c.nodes (i + 1) branch + 1) (body_of p)
  of_axiom head does there (Does o) n found own = let op = n.op_is in absurd cc
  of_axiom head does there (Refines m) n found own = let op = n.op_is in absurd cc
  of_axiom head does there (Concludes x) n found own =
      let b = clause_of_pre (slice_get x.clauses branch) p own in
      stands_at c code (past c.nodes (i + 1) branch + 1) (body_of p)
      (axiom_clause c code i l there x found branch b.clause b.is ∙ ap Some b.body)

  module _ (there : slice_get c.nodes i ≡ Some l) (h : HasPrecondition c i branch p) where
    -- the expression of an operator is two nodes behind its own
    pub behind_rule : ((head : Atom) → l.op ≡ MethodOf head → ⊥) → ((head : Atom) → l.op ≡ AxiomOf head → ⊥)
        → StandsAt c (i + 2) (body_of p)
    behind_rule = of_operator h.rule (rule_node c code i l there h.rule h.is) h.own

    -- that of a method's branch is two behind the branch's node
    pub behind_branch : (head : Atom) → l.op ≡ MethodOf head → StandsAt c (past c.nodes (i + 1) branch + 2) (body_of p)
    behind_branch head does = of_method head does h.rule (rule_node c code i l there h.rule h.is) h.own

    -- that of an axiom's branch is right behind it
    pub behind_clause : (head : Atom) → l.op ≡ AxiomOf head → StandsAt c (past c.nodes (i + 1) branch + 1) (body_of p)
    behind_clause head does =
        of_axiom head does there h.rule (rule_node c code i l there h.rule h.is) h.is h.own

-- a node that isn't a method's does nothing that one does
pub no_method : (op : Op) → ((a : AtomPat) → op ≡ ops.Method a → ⊥) → (head : Atom) → operation_of op ≡ MethodOf head
    → ⊥
no_method (ops.Method a) other head e = other a refl
no_method _ other head e = cc

-- nor does one that isn't an axiom's do what that does
pub no_axiom : (op : Op) → ((a : AtomPat) → op ≡ ops.Axiom a → ⊥) → (head : Atom) → operation_of op ≡ AxiomOf head → ⊥
no_axiom (ops.Axiom a) other head e = other a refl
no_axiom _ other head e = cc

-- a code has fewer nodes than an index can count
pub few_nodes : (code : Code) → length (code_of code).nodes < 2 ^ 63
few_nodes code =
    let nodes = code.nodes in
    omega (arith, nodes.ok.0, nodes.ok.1, nodes.small, length-map nodes.items laid_of)
