-- The value of the parts of a code.
use Rattle.std.specs.Prelude.{ℕ, List, map, Vec}
use Rattle.std.specs.Global.{Global}
use Rattle.hp_tables.specs.declared.Table.{Table}
use Rattle.hp_tables.specs.Tables.{places_in}
use Rattle.hp_nodes.specs.declared.node.CodeNode.{CodeNode}
use Rattle.hp_nodes.specs.NodeViews.{laid_of}
use Rattle.hp_code.specs.CodeViews.{CodeView, IsCode}

-- nodes, names and tables as plain values
abbrev pub value_of : List CodeNode → List (Vec (List ℕ) Global) → Table → Table → CodeView
value_of nodes vars task_rules axiom_rules = record {
  nodes = map laid_of nodes;
  vars = map (λ names. names.items) vars;
  task_rules = places_in task_rules;
  axiom_rules = places_in axiom_rules;
}

-- these parts keep what a code keeps
abbrev pub IsKept : List CodeNode → List (Vec (List ℕ) Global) → Table → Table → Type 0
IsKept nodes vars task_rules axiom_rules = IsCode (value_of nodes vars task_rules axiom_rules)
