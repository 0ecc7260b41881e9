-- What events come to, by the first of them; and the head of a rule's node.
use Rattle.std.proofs.Common.{◌≡◌, ℕ, ◌<◌, Bool, true, false, List, length, refl, ap, ◌∙◌, arith}
use Rattle.hp_syntax.specs.declared.fault.RunFault.{RunFault}
use Rattle.hp_syntax.specs.declared.pattern.AtomPat.{AtomPat}
use Rattle.hp_syntax.specs.Events as plain
use Rattle.hp_syntax.specs.Events.{Finding, Satisfied, Faulty, Undecided, Nothing, finding, finding_with}
use Rattle.hp_syntax.specs.Syntax.{Rule, Does, Refines, Concludes}
use Rattle.hp_syntax.specs.Values.{Bindings}
use Rattle.hp_syntax.specs.Views.{atom_of}
use Rattle.hp_nodes.specs.declared.node.Op.{Op}
use Rattle.hp_nodes.specs.declared.node.Op.TheVariants as ops
use Rattle.hp_nodes.specs.NodeViews.{operation_of}
use Rattle.hp_nodes.specs.Trees.{Laid, Operation, OperatorOf, MethodOf, AxiomOf}
use Rattle.hp_code.specs.CodeViews.{CodeView}
use Rattle.hp_eval.specs.declared.event.Event.TheVariants as events
use Rattle.hp_eval.specs.Events.{PlainEvent}
use Rattle.hp_suspended.specs.Answering.{Gives}
use Rattle.hp_choice.specs.Asking.{behind, head_of}
use Rattle.hp_choice.proofs.RuleReadings.{RuleNodes}

-- two cuts are found as one
one_cut : (x : Finding) → finding_with plain.Cut (finding_with plain.Cut x) ≡ finding_with plain.Cut x
one_cut Satisfied = refl
one_cut (Faulty f) = refl
one_cut Undecided = refl
one_cut Nothing = refl

-- a satisfier is what is found, behind a cut too
sat_behind : (b : Bool) → behind b Satisfied ≡ Satisfied
sat_behind false = refl
sat_behind true = refl

-- and so is a fault
fault_behind : (b : Bool) (f : RunFault) → behind b (Faulty f) ≡ Faulty f
fault_behind false f = refl
fault_behind true f = refl

-- a cut in front is found as one before
cut_behind : (b : Bool) (x : Finding) → behind b (finding_with plain.Cut x) ≡ behind true x
cut_behind false x = refl
cut_behind true x = one_cut x

module _ (b : Bool) (e : Bindings) (old new : List PlainEvent) where
  -- where a satisfier is given it is found
  pub sat_given : Gives events.Sat e old new → behind b (finding old) ≡ Satisfied
  sat_given g = ap (λ xs. behind b (finding xs)) g ∙ sat_behind b

  -- where a fault is given it is found
  pub fault_given : (f : RunFault) → Gives (events.Fault f) e old new → behind b (finding old) ≡ Faulty f
  fault_given f g = ap (λ xs. behind b (finding xs)) g.1 ∙ fault_behind b f

  -- where a cut is given, what is left is found behind a cut
  pub cut_given : Gives events.Cut e old new → behind b (finding old) ≡ behind true (finding new)
  cut_given g = ap (λ xs. behind b (finding xs)) g ∙ cut_behind b (finding new)

  -- and less is left
  pub cut_shorter : Gives events.Cut e old new → length new < length old
  cut_shorter g = let l = ap length g in omega arith

  -- where nothing is given, nothing is found
  pub end_given : Gives events.End e old new → behind b (finding old) ≡ behind b Nothing
  end_given g = ap (λ xs. behind b (finding xs)) g

-- ---- the head of a rule

-- the operation of a rule's node
abbrev rule_operation : Rule → Operation
rule_operation (Does o) = OperatorOf o.head
rule_operation (Refines m) = MethodOf m.head
rule_operation (Concludes x) = AxiomOf x.head

-- a rule's node does what the rule is
pub operation_there : (c : CodeView) (i : ℕ) (l : Laid) (r : Rule) → RuleNodes c i l r → l.op ≡ rule_operation r
operation_there c i l (Does o) n = n.op_is
operation_there c i l (Refines m) n = n.op_is
operation_there c i l (Concludes x) n = n

-- an operation with a head is told of that of the rule
pub operator_there : (own : AtomPat) (r : Rule) → operation_of (ops.Operator own) ≡ rule_operation r
    → atom_of own ≡ head_of r
operator_there own (Does o) e = cc
operator_there own (Refines m) e = absurd cc
operator_there own (Concludes x) e = absurd cc

pub method_there : (own : AtomPat) (r : Rule) → operation_of (ops.Method own) ≡ rule_operation r
    → atom_of own ≡ head_of r
method_there own (Does o) e = absurd cc
method_there own (Refines m) e = cc
method_there own (Concludes x) e = absurd cc

pub axiom_there : (own : AtomPat) (r : Rule) → operation_of (ops.Axiom own) ≡ rule_operation r
    → atom_of own ≡ head_of r
axiom_there own (Does o) e = absurd cc
axiom_there own (Refines m) e = absurd cc
axiom_there own (Concludes x) e = cc

-- and no other operation is a rule's
pub no_rule : (op : Op) (r : Rule) → operation_of op ≡ rule_operation r → ((a : AtomPat) → op ≡ ops.Operator a → ⊥)
    → ((a : AtomPat) → op ≡ ops.Method a → ⊥) → ((a : AtomPat) → op ≡ ops.Axiom a → ⊥) → ⊥
no_rule (ops.Operator a) r e operator method concluded = operator a refl
no_rule (ops.Method a) r e operator method concluded = method a refl
no_rule (ops.Axiom a) r e operator method concluded = concluded a refl
no_rule op (Does o) e operator method concluded = absurd cc
no_rule op (Refines m) e operator method concluded = absurd cc
no_rule op (Concludes x) e operator method concluded = absurd cc
