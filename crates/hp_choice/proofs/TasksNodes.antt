-- The nodes of the tasks of branches.
use Rattle.std.proofs.Common.{◌≡◌, ℕ, suc, ◌<◌, true, inl, inr, length, slice_get, Some, None, is_some, option_and_then, refl, sym, ◌∙◌, ap}
use Rattle.std.proofs.lemmas.List.{drop_all}
use Rattle.std.proofs.lemmas.Option.{slice_get_cases}
use Rattle.hp_syntax.specs.declared.pattern.Span.{Span}
use Rattle.hp_syntax.specs.declared.tasks.NetPat.{NetPat}
use Rattle.hp_syntax.specs.Syntax.{Tasks}
use Rattle.hp_syntax.specs.Views.{tasks_of}
use Rattle.hp_nodes.specs.declared.node.CodeNode.{CodeNode}
use Rattle.hp_nodes.specs.declared.node.Op.{Op}
use Rattle.hp_nodes.specs.declared.node.Op.TheVariants as ops
use Rattle.hp_nodes.specs.NodeViews.{laid_of, operation_of}
use Rattle.hp_nodes.specs.Trees as trees
use Rattle.hp_nodes.specs.Trees.{Laid, More, Node, NoTree, TasksOf, Tree, Trees, trees_between}
use Rattle.hp_code.specs.CodeViews.{CodeView}
use Rattle.hp_code.proofs.NodeLemmas.{node_there}
use Rattle.hp_method.specs.Branches.{tasks_at, tasks_read}

-- a node reads back as the tasks that are read of what it does and of those below it
tasks_are : (c : CodeView) (i : ℕ) (l : Laid) → slice_get c.nodes i ≡ Some l
    → tasks_at c i ≡ tasks_read (Node l.op l.span (trees_between c.nodes (suc i) l.to))
unfolding tasks_at
tasks_are c i l there = ap (option_and_then tasks_read) (node_there c.nodes i l there)

-- the node of tasks is one of the nodes
pub tasks_within : (c : CodeView) (i : ℕ) → is_some (tasks_at c i) ≡ true → i < length c.nodes
unfolding tasks_at trees.trees
tasks_within c i is = elim ((slice_get_cases c.nodes i).1) [
  | inl w ↦ w.1
  | inr w ↦
      let none : tasks_at c i ≡ None =
      ap (λ ns. option_and_then tasks_read (trees.first_tree (trees.trees i ns))) (drop_all i c.nodes w.0) in
      let known : is_some {T = Tasks} None ≡ true = sym (ap is_some none) ∙ is in
      absurd cc
]

no_tasks_read : (op : Op) (s : Span) (ts : Trees) → is_some (tasks_read (Node (operation_of op) s ts)) ≡ true
    → ((x : NetPat) → op ≡ ops.Tasks x → ⊥) → ⊥
no_tasks_read (ops.Tasks x) s ts e h = h x refl
no_tasks_read _ s ts e h = absurd cc

-- where tasks are read, a node is that of tasks
pub no_tasks : (c : CodeView) (i : ℕ) (n : CodeNode) → slice_get c.nodes i ≡ Some (laid_of n)
    → is_some (tasks_at c i) ≡ true → ((x : NetPat) → n.op ≡ ops.Tasks x → ⊥) → ⊥
no_tasks c i n there is h =
    no_tasks_read n.op n.span (trees_between c.nodes (suc i) n.to)
    (sym (ap is_some (tasks_are c i (laid_of n) there)) ∙ is) h

read_there : (t : Tasks) (s : Span) (ts : Trees) → is_some (tasks_read (Node (TasksOf t) s ts)) ≡ true
    → tasks_read (Node (TasksOf t) s ts) ≡ Some t
read_there t s NoTree e = refl
read_there t s (More u us) e = absurd cc

-- where the tasks of such a node are read, they are its own
pub tasks_there : (c : CodeView) (i : ℕ) (n : CodeNode) (x : NetPat) → slice_get c.nodes i ≡ Some (laid_of n)
    → is_some (tasks_at c i) ≡ true → n.op ≡ ops.Tasks x → tasks_at c i ≡ Some (tasks_of x)
tasks_there c i n x there is h =
    let below = trees_between c.nodes (suc i) n.to in
    let read : tasks_at c i ≡ tasks_read (Node (TasksOf (tasks_of x)) n.span below) =
    tasks_are c i (laid_of n) there ∙ ap (λ o. tasks_read (Node (operation_of o) n.span below)) h in
    read ∙ read_there (tasks_of x) n.span below (sym (ap is_some read) ∙ is)
