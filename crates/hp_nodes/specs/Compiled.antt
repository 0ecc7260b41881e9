-- What each rule is compiled to: its node, and below it those of its parts, from left to right.
use Rattle.std.specs.Prelude.{ℕ, List, [], ◌∷◌}
use Rattle.hp_syntax.specs.declared.domain.Side.{Side}
use Rattle.hp_syntax.specs.declared.domain.Side.TheVariants.{Deletes, Adds}
use Rattle.hp_syntax.specs.declared.pattern.Span.{Span}
use Rattle.hp_syntax.specs.Changes.{pattern_span}
use Rattle.hp_syntax.specs.Syntax as syntax
use Rattle.hp_nodes.specs.Trees as trees

-- a node with nothing below it
abbrev pub leaf : trees.Operation → Span → trees.Tree
leaf op s = trees.Node op s trees.NoTree

abbrev pub only : trees.Tree → trees.Trees
only t = trees.More t trees.NoTree

-- ---- expressions

unfoldable mutual
  pub expression_tree : syntax.Expression → trees.Tree
  expression_tree (syntax.Holds s a) = leaf (trees.Holds a) s
  expression_tree (syntax.And s ps) = trees.Node trees.And s (expression_trees ps)
  expression_tree (syntax.Or s ps) = trees.Node trees.Or s (expression_trees ps)
  expression_tree (syntax.Not s p) = trees.Node trees.Not s (only (expression_tree p))
  expression_tree (syntax.Forall s vs y z) = trees.Node trees.Forall s
      (trees.More (expression_tree y) (only (expression_tree z)))
  expression_tree (syntax.Assign s v p) = leaf (trees.Assign v p) s
  expression_tree (syntax.Test s p) = leaf (trees.Test p) s

  pub expression_trees : syntax.Expressions → trees.Trees
  expression_trees syntax.NoExpression = trees.NoTree
  expression_trees (syntax.Also p ps) = trees.More (expression_tree p) (expression_trees ps)

-- that of a rule's precondition, which stands where the rule stands unless it has a key
abbrev pub precondition_tree : Span → syntax.Precondition → trees.Tree
precondition_tree s (syntax.Plain e) = trees.Node trees.AllOf s (only (expression_tree e))
precondition_tree s (syntax.First e) = trees.Node trees.FirstOf s (only (expression_tree e))
precondition_tree s (syntax.Sorted k e) = trees.Node (trees.SortedBy k) k.span (only (expression_tree e))

-- ---- effects

abbrev pub change_op : Side → syntax.Atom → trees.Operation
change_op Deletes a = trees.Delete a
change_op Adds a = trees.Add a

abbrev pub protection_op : Side → syntax.Atom → trees.Operation
protection_op Deletes a = trees.Unguard a
protection_op Adds a = trees.Guard a

abbrev pub change_trees : Side → List syntax.Atom → trees.Trees
change_trees side [] = trees.NoTree
change_trees side (a ∷ as') = trees.More (leaf (change_op side a) a.span) (change_trees side as')

-- that of an effect; a `forall` has its expression below it and then its atoms
abbrev pub effect_tree : Side → Span → syntax.Effect → trees.Tree
effect_tree side s (syntax.Change a) = leaf (change_op side a) a.span
effect_tree side s (syntax.Protection a) = leaf (protection_op side a) a.span
effect_tree side s (syntax.Each vs e as') = trees.Node trees.Each s
    (trees.More (expression_tree e) (change_trees side as'))

-- those of effects, before others
abbrev pub effect_trees : Side → Span → List syntax.Effect → trees.Trees → trees.Trees
effect_trees side s [] ts = ts
effect_trees side s (x ∷ xs) ts = trees.More (effect_tree side s x) (effect_trees side s xs ts)

-- ---- rules

abbrev pub operator_tree : syntax.Operator → trees.Tree
operator_tree o =
    trees.Node (trees.OperatorOf o.head) o.span (trees.More (precondition_tree o.span o.pre)
    (effect_trees Deletes o.span o.dels
    (effect_trees Adds o.span o.adds (only (leaf (trees.CostOf o.cost) (pattern_span o.cost))))))

-- that of a branch of a method that stands here
abbrev pub branch_tree : Span → syntax.Branch → trees.Tree
branch_tree s b = trees.Node (trees.BranchOf b.name) s (trees.More (precondition_tree s b.pre)
    (only (leaf (trees.TasksOf b.tasks) s)))

abbrev pub branch_trees : Span → List syntax.Branch → trees.Trees
branch_trees s [] = trees.NoTree
branch_trees s (b ∷ bs) = trees.More (branch_tree s b) (branch_trees s bs)

-- that of a branch of an axiom that stands here
abbrev pub clause_tree : Span → syntax.Clause → trees.Tree
clause_tree s c = trees.Node (trees.BranchOf c.name) s (only (expression_tree c.body))

abbrev pub clause_trees : Span → List syntax.Clause → trees.Trees
clause_trees s [] = trees.NoTree
clause_trees s (c ∷ cs) = trees.More (clause_tree s c) (clause_trees s cs)

abbrev pub rule_tree : syntax.Rule → trees.Tree
rule_tree (syntax.Does o) = operator_tree o
rule_tree (syntax.Refines m) = trees.Node (trees.MethodOf m.head) m.span (branch_trees m.span m.branches)
rule_tree (syntax.Concludes x) = trees.Node (trees.AxiomOf x.head) x.span (clause_trees x.span x.clauses)

abbrev pub rule_trees : List syntax.Rule → trees.Trees
rule_trees [] = trees.NoTree
rule_trees (r ∷ rs) = trees.More (rule_tree r) (rule_trees rs)

-- the names of a rule's variables, which stand beside its nodes
abbrev pub vars_of : syntax.Rule → List (List ℕ)
vars_of (syntax.Does o) = o.vars
vars_of (syntax.Refines m) = m.vars
vars_of (syntax.Concludes x) = x.vars
