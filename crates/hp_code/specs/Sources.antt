-- What the trees of a code read back as, if they are those of rules.
use Rattle.std.specs.Prelude.{ℕ, Bool, true, false, ◌||◌, cond, List, [], ◌∷◌, map, Option, Some, None, option_map}
use Rattle.hp_syntax.specs.Syntax as syntax
use Rattle.hp_nodes.specs.Trees as trees

-- a value made of two, where both are there
abbrev pub made_of : {A B C : Type 0} → (A → B → C) → Option A → Option B → Option C
made_of f None y = None
made_of f (Some a) y = option_map (f a) y

-- ---- expressions

unfoldable mutual
  pub expression_read : trees.Tree → Option syntax.Expression
  expression_read (trees.Node (trees.Holds a) s trees.NoTree) = Some (syntax.Holds s a)
  expression_read (trees.Node trees.And s ts) = option_map (syntax.And s) (expressions_read ts)
  expression_read (trees.Node trees.Or s ts) = option_map (syntax.Or s) (expressions_read ts)
  expression_read (trees.Node trees.Not s (trees.More t trees.NoTree)) = option_map (syntax.Not s) (expression_read t)
  expression_read (trees.Node trees.Forall s (trees.More t (trees.More u trees.NoTree))) =
      made_of (syntax.Forall s []) (expression_read t) (expression_read u)
  expression_read (trees.Node (trees.Assign v p) s trees.NoTree) = Some (syntax.Assign s v p)
  expression_read (trees.Node (trees.Test p) s trees.NoTree) = Some (syntax.Test s p)
  expression_read _ = None

  pub expressions_read : trees.Trees → Option syntax.Expressions
  expressions_read trees.NoTree = Some syntax.NoExpression
  expressions_read (trees.More t ts) = made_of syntax.Also (expression_read t) (expressions_read ts)

abbrev pub precondition_read : trees.Tree → Option syntax.Precondition
precondition_read (trees.Node trees.AllOf s (trees.More t trees.NoTree)) = option_map syntax.Plain (expression_read t)
precondition_read (trees.Node trees.FirstOf s (trees.More t trees.NoTree)) = option_map syntax.First (expression_read t)
precondition_read (trees.Node (trees.SortedBy k) s (trees.More t trees.NoTree)) =
    option_map (syntax.Sorted k) (expression_read t)
precondition_read _ = None

-- ---- effects

-- an effect, and whether it adds anything
pub record Sided : Type 0 where
  pub adds : Bool
  pub effect : syntax.Effect

-- an atom that is deleted or added, and which of these it is
pub record SidedAtom : Type 0 where
  pub adds : Bool
  pub atom : syntax.Atom

abbrev pub change_read : trees.Tree → Option SidedAtom
change_read (trees.Node (trees.Delete a) s trees.NoTree) = Some (record { adds = false; atom = a })
change_read (trees.Node (trees.Add a) s trees.NoTree) = Some (record { adds = true; atom = a })
change_read _ = None

abbrev pub changes_read : trees.Trees → Option (List SidedAtom)
changes_read trees.NoTree = Some []
changes_read (trees.More t ts) = made_of (λ a as'. a ∷ as') (change_read t) (changes_read ts)

abbrev pub some_adds : List SidedAtom → Bool
some_adds [] = false
some_adds (a ∷ as') = a.adds || some_adds as'

abbrev pub each_of : syntax.Expression → List SidedAtom → Sided
each_of e as' = record { adds = some_adds as'; effect = syntax.Each [] e (map (λ a. a.atom) as') }

abbrev pub effect_read : trees.Tree → Option Sided
effect_read (trees.Node (trees.Delete a) s trees.NoTree) = Some (record { adds = false; effect = syntax.Change a })
effect_read (trees.Node (trees.Add a) s trees.NoTree) = Some (record { adds = true; effect = syntax.Change a })
effect_read (trees.Node (trees.Unguard a) s trees.NoTree) = Some (record { adds = false; effect = syntax.Protection a })
effect_read (trees.Node (trees.Guard a) s trees.NoTree) = Some (record { adds = true; effect = syntax.Protection a })
effect_read (trees.Node trees.Each s (trees.More t ts)) = made_of each_of (expression_read t) (changes_read ts)
effect_read _ = None

-- the effects of a list that stand before all that add anything
abbrev pub not_adding : List Sided → List syntax.Effect
not_adding [] = []
not_adding (x ∷ xs) = cond x.adds [] (x.effect ∷ not_adding xs)

-- those from the first that adds anything on
abbrev pub from_adding : List Sided → List syntax.Effect
from_adding [] = []
from_adding (x ∷ xs) = cond x.adds (x.effect ∷ map (λ y. y.effect) xs) (from_adding xs)

-- ---- rules

-- what follows an operator's precondition: its effects, and its cost at the end
pub record Body : Type 0 where
  pub effects : List Sided
  pub cost : syntax.Pattern

abbrev pub with_effect : Sided → Body → Body
with_effect x b = record { effects = x ∷ b.effects; cost = b.cost }

unfoldable pub body_read : trees.Trees → Option Body
body_read trees.NoTree = None
body_read (trees.More (trees.Node (trees.CostOf p) s trees.NoTree) trees.NoTree) =
    Some (record { effects = []; cost = p })
body_read (trees.More t ts) = made_of with_effect (effect_read t) (body_read ts)

abbrev pub branch_read : trees.Tree → Option syntax.Branch
branch_read (trees.Node (trees.BranchOf name) s (trees.More t
    (trees.More (trees.Node (trees.TasksOf tasks) u trees.NoTree) trees.NoTree))) =
    option_map (λ pre. record { name = name; pre = pre; tasks = tasks }) (precondition_read t)
branch_read _ = None

abbrev pub branches_read : trees.Trees → Option (List syntax.Branch)
branches_read trees.NoTree = Some []
branches_read (trees.More t ts) = made_of (λ b bs. b ∷ bs) (branch_read t) (branches_read ts)

abbrev pub clause_read : trees.Tree → Option syntax.Clause
clause_read (trees.Node (trees.BranchOf name) s (trees.More t trees.NoTree)) =
    option_map (λ e. record { name = name; body = e }) (expression_read t)
clause_read _ = None

abbrev pub clauses_read : trees.Trees → Option (List syntax.Clause)
clauses_read trees.NoTree = Some []
clauses_read (trees.More t ts) = made_of (λ c cs. c ∷ cs) (clause_read t) (clauses_read ts)

-- a rule, of which the names of the variables are these
abbrev pub rule_read : List (List ℕ) → trees.Tree → Option syntax.Rule
rule_read vars (trees.Node (trees.OperatorOf head) s (trees.More t ts)) =
    made_of (λ pre b. syntax.Does (record {
      span = s;
      vars = vars;
      head = head;
      pre = pre;
      dels = not_adding b.effects;
      adds = from_adding b.effects;
      cost = b.cost;
    })) (precondition_read t) (body_read ts)
rule_read vars (trees.Node (trees.MethodOf head) s ts) =
    option_map (λ bs. syntax.Refines (record { span = s; vars = vars; head = head; branches = bs })) (branches_read ts)
rule_read vars (trees.Node (trees.AxiomOf head) s ts) =
    option_map (λ cs. syntax.Concludes (record { span = s; vars = vars; head = head; clauses = cs })) (clauses_read ts)
rule_read vars _ = None

-- rules, each with the names of its variables
abbrev pub rules_read : List (List (List ℕ)) → trees.Trees → Option (List syntax.Rule)
rules_read [] trees.NoTree = Some []
rules_read [] (trees.More t ts) = None
rules_read (vars ∷ all) trees.NoTree = None
rules_read (vars ∷ all) (trees.More t ts) = made_of (λ r rs. r ∷ rs) (rule_read vars t) (rules_read all ts)
