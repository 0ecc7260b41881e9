-- The listing of a code: a line for each node, and then one for each name of a task and of an axiom.
use Rattle.std.specs.Prelude.{ℕ, suc, ◌==◌, Bool, true, false, cond, List, [], ◌∷◌, ◌++◌, Option, None, Some, codes, decimal}
use Rattle.std.specs.List.{flat_map}
use Rattle.hp_syntax.specs.Syntax.{Pattern, Atom}
use Rattle.hp_syntax.specs.Written as written
use Rattle.hp_syntax.specs.Written.{node_text, name_of, order_word}
use Rattle.hp_tables.specs.declared.Kind.{Kind}
use Rattle.hp_tables.specs.declared.Kind.TheVariants.{Task, Axiom}
use Rattle.hp_nodes.specs.Trees as trees
use Rattle.hp_code.specs.CodeViews.{CodeView, vars_at}

-- ---- nodes

-- an atom, or a term, of a rule whose variables have these names
abbrev pub atom_text : List (List ℕ) → Atom → List ℕ
atom_text vars a = node_text (written.atom vars a)

abbrev pub pattern_text : List (List ℕ) → Pattern → List ℕ
pattern_text vars p = node_text (written.pattern vars p)

abbrev pub operation_text : List (List ℕ) → trees.Operation → List ℕ
operation_text vars (trees.OperatorOf head) = codes "operator " ++ atom_text vars head
operation_text vars (trees.MethodOf head) = codes "method " ++ atom_text vars head
operation_text vars (trees.AxiomOf head) = codes "axiom " ++ atom_text vars head
operation_text vars (trees.BranchOf None) = codes "branch"
operation_text vars (trees.BranchOf (Some name)) = codes "branch " ++ name
operation_text vars trees.AllOf = codes "plain"
operation_text vars trees.FirstOf = codes "first"
operation_text vars (trees.SortedBy key) = codes "sort " ++ name_of vars key.var ++ codes " " ++ order_word key.order
operation_text vars trees.And = codes "and"
operation_text vars trees.Or = codes "or"
operation_text vars trees.Not = codes "not"
operation_text vars trees.Forall = codes "forall"
operation_text vars (trees.Holds a) = codes "atom " ++ atom_text vars a
operation_text vars (trees.Assign v p) = codes "assign " ++ name_of vars v ++ codes " " ++ pattern_text vars p
operation_text vars (trees.Test p) = codes "call " ++ pattern_text vars p
operation_text vars (trees.Delete a) = codes "delete " ++ atom_text vars a
operation_text vars (trees.Add a) = codes "add " ++ atom_text vars a
operation_text vars (trees.Unguard a) = codes "unguard " ++ atom_text vars a
operation_text vars (trees.Guard a) = codes "guard " ++ atom_text vars a
operation_text vars trees.Each = codes "each"
operation_text vars (trees.CostOf p) = codes "cost " ++ pattern_text vars p
operation_text vars (trees.TasksOf ts) = codes "tasks " ++ node_text (written.tasks vars ts)

-- the line of a node: its index, the index behind the last node below it, and what it does
abbrev pub node_line : ℕ → List (List ℕ) → trees.Laid → List ℕ
node_line i vars n =
    decimal i ++ codes " " ++ decimal n.to ++ codes " " ++ operation_text vars n.op ++ codes "\n"

-- whether a node is a rule's
abbrev pub is_rule : trees.Operation → Bool
is_rule (trees.OperatorOf head) = true
is_rule (trees.MethodOf head) = true
is_rule (trees.AxiomOf head) = true
is_rule op = false

-- the names of variables at a node: a rule's own, and below a rule's node those of the rule
abbrev pub names_from : (ℕ → List (List ℕ)) → ℕ → List (List ℕ) → trees.Operation → List (List ℕ)
names_from names i vars op = cond (is_rule op) (names i) vars

-- the lines of nodes, of which the first has this index and stands behind one with these names of variables
abbrev pub node_lines : (ℕ → List (List ℕ)) → ℕ → List (List ℕ) → List trees.Laid → List ℕ
node_lines names i vars [] = []
node_lines names i vars (n ∷ ns) =
    node_line i (names_from names i vars n.op) n ++ node_lines names (suc i) (names_from names i vars n.op) ns

-- ---- names

-- the name of the head of a rule of a kind, where a node is such a rule's
abbrev pub head_of : Kind → trees.Operation → Option (List ℕ)
head_of Task (trees.OperatorOf head) = Some head.name
head_of Task (trees.MethodOf head) = Some head.name
head_of Axiom (trees.AxiomOf head) = Some head.name
head_of kind op = None

-- the nodes of the rules of a kind by their names
abbrev pub table_of : CodeView → Kind → List ℕ → List ℕ
table_of c Task = c.task_rules
table_of c Axiom = c.axiom_rules

abbrev pub word_of : Kind → List ℕ
word_of Task = codes "tasks "
word_of Axiom = codes "axioms "

abbrev pub indices_text : List ℕ → List ℕ
indices_text is = flat_map (λ i. codes " " ++ decimal i) is

-- the line of a name with the nodes of its rules, where this node is the first of these
abbrev pub name_line : List ℕ → List ℕ → List ℕ → ℕ → List ℕ
name_line word name [] i = []
name_line word name (j ∷ js) i = cond (j == i) (word ++ name ++ indices_text (j ∷ js) ++ codes "\n") []

-- that of the name of a node, if it has one
abbrev pub head_line : List ℕ → (List ℕ → List ℕ) → Option (List ℕ) → ℕ → List ℕ
head_line word table None i = []
head_line word table (Some name) i = name_line word name (table name) i

-- the lines of the names of rules of a kind, each at the first of its rules; the first node has this index
abbrev pub name_lines : Kind → (List ℕ → List ℕ) → ℕ → List trees.Laid → List ℕ
name_lines kind table i [] = []
name_lines kind table i (n ∷ ns) =
    head_line (word_of kind) table (head_of kind n.op) i ++ name_lines kind table (suc i) ns

-- ---- all

unfoldable pub listing_text : CodeView → List ℕ
listing_text c =
    node_lines (vars_at c) 0 [] c.nodes ++ name_lines Task c.task_rules 0 c.nodes
    ++ name_lines Axiom c.axiom_rules 0 c.nodes
