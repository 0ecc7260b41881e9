-- The plain value that each node stands for.
use Rattle.hp_syntax.specs.Views.{atom_of, key_of, pattern_of, tasks_of}
use Rattle.hp_nodes.specs.declared.node.CodeNode.{CodeNode}
use Rattle.hp_nodes.specs.declared.node.Op.{Op}
use Rattle.hp_nodes.specs.declared.node.Op.TheVariants as ops
use Rattle.hp_nodes.specs.Trees as plain
use Rattle.hp_nodes.specs.Trees.{Operation, Laid}

abbrev pub operation_of : Op → Operation
operation_of (ops.Operator head) = plain.OperatorOf (atom_of head)
operation_of (ops.Method head) = plain.MethodOf (atom_of head)
operation_of (ops.Axiom head) = plain.AxiomOf (atom_of head)
operation_of (ops.Branch name) = plain.BranchOf name
operation_of ops.Plain = plain.AllOf
operation_of ops.First = plain.FirstOf
operation_of (ops.Sort key) = plain.SortedBy (key_of key)
operation_of ops.And = plain.And
operation_of ops.Or = plain.Or
operation_of ops.Not = plain.Not
operation_of ops.Forall = plain.Forall
operation_of (ops.Atom atom) = plain.Holds (atom_of atom)
operation_of (ops.Assign v value) = plain.Assign v (pattern_of value)
operation_of (ops.Call call) = plain.Test (pattern_of call)
operation_of (ops.Delete atom) = plain.Delete (atom_of atom)
operation_of (ops.Add atom) = plain.Add (atom_of atom)
operation_of (ops.Unguard atom) = plain.Unguard (atom_of atom)
operation_of (ops.Guard atom) = plain.Guard (atom_of atom)
operation_of ops.Each = plain.Each
operation_of (ops.Cost cost) = plain.CostOf (pattern_of cost)
operation_of (ops.Tasks tasks) = plain.TasksOf (tasks_of tasks)

abbrev pub laid_of : CodeNode → Laid
laid_of n = record { op = operation_of n.op; to = n.to; span = n.span }
