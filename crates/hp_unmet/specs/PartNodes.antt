-- Where the parts of preconditions stand in a code.
use Rattle.std.specs.Prelude.{◌≡◌, ◌+◌, ℕ, List, slice_get, Option, Some}
use Rattle.std.specs.Option.{option_map}
use Rattle.hp_syntax.specs.Events.{axioms_of}
use Rattle.hp_syntax.specs.Syntax as syntax
use Rattle.hp_syntax.specs.Views.{as_expressions}
use Rattle.hp_nodes.specs.Compiled.{vars_of}
use Rattle.hp_code.specs.CodeViews.{CodeView, IsCodeOf, beside, rule_nodes, rules_in}
use Rattle.hp_code.specs.Lowered.{all_lowered}
use Rattle.hp_suspended.specs.Fitting.{AreExpressionsIn}
use Rattle.hp_suspended.specs.Nodes.{expressions_in}
use Rattle.hp_choice.specs.declared.starting.Conjuncts.{Conjuncts}
use Rattle.hp_choice.specs.Asking.{head_of, past}
use Rattle.hp_unmet.specs.Conjunctions.{Conjunction, body_of, conjuncts}
use Rattle.hp_unmet.specs.declared.nodes.Spot.{Spot}

-- the precondition of an operator, or of the branch of a method that has this number; one of an axiom asks for its
-- expression as a plain one does
abbrev pub precondition_by : ℕ → syntax.Rule → Option syntax.Precondition
precondition_by branch (syntax.Does o) = Some o.pre
precondition_by branch (syntax.Refines m) = option_map (λ b. b.pre) (slice_get m.branches branch)
precondition_by branch (syntax.Concludes x) = option_map (λ c. syntax.Plain c.body) (slice_get x.clauses branch)

-- a rule asks for what another one does: they have the same head, variables and preconditions
pub record AsksAlike (r s : syntax.Rule) : Type 0 where
  pub head : head_of r ≡ head_of s
  pub vars : vars_of r ≡ vars_of s
  pub preconditions : (branch : ℕ) → precondition_by branch r ≡ precondition_by branch s

-- in a code of rules with the same axioms, the rule of a node asks for what the rule of this place does
pub record ServesFor (rules : List syntax.Rule) (rule : ℕ) (c : CodeView) (node : ℕ) : Type 0 where
  pub others : List syntax.Rule
  pub code : IsCodeOf others c
  pub axioms : axioms_of others ≡ axioms_of rules
  pub place : ℕ
  pub node_at : slice_get (rule_nodes c) place ≡ Some node
  pub own : syntax.Rule
  pub own_at : slice_get rules rule ≡ Some own
  pub other : syntax.Rule
  pub other_at : slice_get others place ≡ Some other
  pub alike : AsksAlike own other

-- the node of a branch stands past so many trees after that of the rule
abbrev pub IsAtBranch : CodeView → Spot → Type 0
IsAtBranch c s = s.branch_node ≡ past c.nodes (s.node + 1) s.branch

-- an operator of a domain, or a branch of a method or of an axiom, is told by a rule of a code that asks for what it does
pub record IsSpot (rules : List syntax.Rule) (c : CodeView) (s : Spot) : Type 0 where
  pub serves : ServesFor rules s.rule c s.node
  pub at : IsAtBranch c s

-- the rule of a node has this precondition there
pub record HasPrecondition (c : CodeView) (i branch : ℕ) (p : syntax.Precondition) : Type 0 where
  pub rule : syntax.Rule
  pub is : beside i (rule_nodes c) (rules_in c) ≡ Some rule
  pub own : precondition_by branch rule ≡ Some p

-- and asks by it for these together
pub record AsksFor (c : CodeView) (i branch : ℕ) (parts : List syntax.Expression) : Type 0 where
  pub pre : syntax.Precondition
  pub has : HasPrecondition c i branch pre
  pub are : conjuncts (body_of pre) ≡ parts

-- expressions stand below nodes from one index up to another
pub record StandBetween (c : CodeView) (first end : ℕ) (parts : List syntax.Expression) : Type 0 where
  pub range : AreExpressionsIn c first end
  pub are : expressions_in c first end ≡ Some (as_expressions parts)

-- the parts of a precondition stand in a code of rules with the same axioms, as it holds them, and so does its head
pub record StandIn (rules : List syntax.Rule) (code : CodeView) (c : Conjunction) (x : Conjuncts) : Type 0 where
  pub others : List syntax.Rule
  pub of : IsCodeOf others code
  pub axioms : axioms_of others ≡ axioms_of rules
  pub rule : syntax.Rule
  pub is : beside x.rule (rule_nodes code) (rules_in code) ≡ Some rule
  pub head : head_of rule ≡ c.head
  pub vars : vars_of rule ≡ c.vars
  pub range : AreExpressionsIn code x.first x.end
  pub parts : expressions_in code x.first x.end ≡ Some (all_lowered (as_expressions c.parts))
