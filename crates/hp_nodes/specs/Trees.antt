-- The compiled code: each rule as a tree of nodes, and trees laid down in one list, each node before those below it.
use Rattle.std.specs.Prelude.{ℕ, zero, suc, ◌+◌, ◌-◌, List, [], ◌∷◌, ◌++◌, drop, Option, Some, None}
use Rattle.hp_syntax.specs.declared.pattern.Span.{Span}
use Rattle.hp_syntax.specs.Syntax.{Pattern, Atom, Key, Tasks}

-- what a node does
pub data Operation : Type 0 where
  OperatorOf : (head : Atom) → Operation
  MethodOf : (head : Atom) → Operation
  AxiomOf : (head : Atom) → Operation
  BranchOf : (name : Option (List ℕ)) → Operation
  AllOf : Operation
  FirstOf : Operation
  SortedBy : (key : Key) → Operation
  And : Operation
  Or : Operation
  Not : Operation
  Forall : Operation
  Holds : (atom : Atom) → Operation
  Assign : (v : ℕ) → (value : Pattern) → Operation
  Test : (call : Pattern) → Operation
  Delete : (atom : Atom) → Operation
  Add : (atom : Atom) → Operation
  Unguard : (atom : Atom) → Operation
  Guard : (atom : Atom) → Operation
  Each : Operation
  CostOf : (cost : Pattern) → Operation
  TasksOf : (tasks : Tasks) → Operation

-- a node as it lies in the list: what it does, the index behind the last node below it, and where it stands in the text
pub record Laid : Type 0 where
  pub op : Operation
  pub to : ℕ
  pub span : Span

-- a node with those below it
mutual
  pub data Tree : Type 0 where
    Node : (op : Operation) → (span : Span) → (below : Trees) → Tree

  pub data Trees : Type 0 where
    NoTree : Trees
    More : (first : Tree) → (rest : Trees) → Trees

-- ---- laying down

-- how many nodes a tree has, and how many trees have
unfoldable mutual
  pub size : Tree → ℕ
  size (Node op s ts) = suc (sizes ts)

  pub sizes : Trees → ℕ
  sizes NoTree = zero
  sizes (More t ts) = size t + sizes ts

-- the nodes of a tree, and those of trees, of which the first has this index
unfoldable mutual
  pub laid : ℕ → Tree → List Laid
  laid i (Node op s ts) = record { op = op; to = suc i + sizes ts; span = s } ∷ all_laid (suc i) ts

  pub all_laid : ℕ → Trees → List Laid
  all_laid i NoTree = []
  all_laid i (More t ts) = laid i t ++ all_laid (i + size t) ts

-- the indices of the first nodes of trees, of which the first has this index
abbrev pub roots : ℕ → Trees → List ℕ
roots i NoTree = []
roots i (More t ts) = i ∷ roots (i + size t) ts

-- ---- reading back

-- the first of some trees, as far as so many nodes go
unfoldable pub within : ℕ → Trees → Trees
within n NoTree = NoTree
within zero (More t ts) = NoTree
within (suc n) (More t ts) = More t (within (suc n - size t) ts)

-- the trees behind those
unfoldable pub behind : ℕ → Trees → Trees
behind n NoTree = NoTree
behind zero (More t ts) = More t ts
behind (suc n) (More t ts) = behind (suc n - size t) ts

-- the trees that nodes are, of which the first has this index; a node takes those below it from those behind it
unfoldable pub trees : ℕ → List Laid → Trees
trees i [] = NoTree
trees i (n ∷ ns) =
    More (Node n.op n.span (within (n.to - suc i) (trees (suc i) ns))) (behind (n.to - suc i) (trees (suc i) ns))

-- the first of trees, if there is one
abbrev pub first_tree : Trees → Option Tree
first_tree NoTree = None
first_tree (More t ts) = Some t

-- the tree of the node of an index among nodes, if there is such a node
abbrev pub tree_at : List Laid → ℕ → Option Tree
tree_at nodes i = first_tree (trees i (drop i nodes))

-- the trees from the node of one index up to another
abbrev pub trees_between : List Laid → ℕ → ℕ → Trees
trees_between nodes i to = within (to - i) (trees i (drop i nodes))
