-- The value of a compiled code, and what makes one.
use Rattle.std.specs.Prelude.{◌≡◌, ℕ, ◌==◌, Bool, true, false, not, cond, List, [], ◌∷◌, length, map, slice_get, Option, Some, None, is_some}
use Rattle.std.specs.List.{All, flat_map}
use Rattle.hp_syntax.specs.Syntax.{Rule}
use Rattle.hp_syntax.specs.Numbered.{IsNumberedRule}
use Rattle.hp_syntax.specs.Checks.{first_of, rule_faults}
use Rattle.hp_tables.specs.declared.Kind.TheVariants.{Task, Axiom}
use Rattle.hp_tables.specs.Tables.{places_of}
use Rattle.hp_nodes.specs.Compiled.{rule_trees, vars_of}
use Rattle.hp_nodes.specs.Trees.{Holds, Laid, Operation, all_laid, roots, trees}
use Rattle.hp_code.specs.Sources.{rules_read}

-- the nodes of all rules, the names of each rule's variables, and by each name the nodes of the rules for its tasks and
-- of the axioms that conclude it
pub record CodeView : Type 0 where
  pub nodes : List Laid
  pub vars : List (List (List ℕ))
  pub task_rules : List ℕ → List ℕ
  pub axiom_rules : List ℕ → List ℕ

-- the indices of the rules' nodes
abbrev pub rule_nodes : CodeView → List ℕ
rule_nodes c = roots 0 (trees 0 c.nodes)

-- the rules that the nodes read back as, if they are those of rules
abbrev pub rules_of : CodeView → Option (List Rule)
rules_of c = rules_read c.vars (trees 0 c.nodes)

-- a list that may be missing, which then is empty
abbrev pub or_empty : {A : Type 0} → Option (List A) → List A
or_empty None = []
or_empty (Some xs) = xs

abbrev pub rules_in : CodeView → List Rule
rules_in c = or_empty (rules_of c)

-- the thing beside the index of a node
abbrev pub beside : {A : Type 0} → ℕ → List ℕ → List A → Option A
beside i [] xs = None
beside i (n ∷ ns) [] = None
beside i (n ∷ ns) (x ∷ xs) = cond (n == i) (Some x) (beside i ns xs)

-- the rule of a node is the one at a place, whose node has that index; or the node is no rule's
abbrev pub IsPlaceOf : CodeView → ℕ → Option ℕ → Type 0
IsPlaceOf c i None = beside i (rule_nodes c) (rules_in c) ≡ None
IsPlaceOf c i (Some place) =
    (slice_get (rule_nodes c) place ≡ Some i) × (slice_get (rules_in c) place ≡ beside i (rule_nodes c) (rules_in c))

-- the names of the variables of the rule of a node; none for a node that is no rule's
abbrev pub vars_at : CodeView → ℕ → List (List ℕ)
vars_at c i = or_empty (beside i (rule_nodes c) c.vars)

-- a node is an atom's, and an axiom concludes its name
abbrev pub concludes : (List ℕ → List ℕ) → Operation → Bool
concludes axiom_rules (Holds a) = not (length (axiom_rules a.name) == 0)
concludes axiom_rules _ = false

-- of which nodes that is so
abbrev pub concluded_in : (List ℕ → List ℕ) → List Laid → List Bool
concluded_in axiom_rules nodes = map (λ n. concludes axiom_rules n.op) nodes

-- what rules are compiled to
abbrev pub compiled : List Rule → CodeView
compiled rules = record {
  nodes = all_laid 0 (rule_trees rules);
  vars = map vars_of rules;
  task_rules = λ name. places_of Task name (roots 0 (rule_trees rules)) rules;
  axiom_rules = λ name. places_of Axiom name (roots 0 (rule_trees rules)) rules;
}

-- a code is what rules are compiled to
pub record IsCodeOf (rules : List Rule) (c : CodeView) : Type 0 where
  pub nodes : c.nodes ≡ (compiled rules).nodes
  pub vars : c.vars ≡ (compiled rules).vars
  pub task_rules : (name : List ℕ) → c.task_rules name ≡ (compiled rules).task_rules name
  pub axiom_rules : (name : List ℕ) → c.axiom_rules name ≡ (compiled rules).axiom_rules name

-- where those below each node end
abbrev pub ends : List Laid → List ℕ
ends nodes = map (λ n. n.to) nodes

-- what a code keeps: its nodes read back as numbered rules in which the checks find nothing, each node holds where
-- those below it end, and by each name stand the nodes of its rules, in their order
pub record IsCode (c : CodeView) : Type 0 where
  pub reads : is_some (rules_of c) ≡ true
  pub ends : ends c.nodes ≡ ends (all_laid 0 (trees 0 c.nodes))
  pub vars : c.vars ≡ map vars_of (rules_in c)
  pub numbered : All IsNumberedRule (rules_in c)
  pub faultless : first_of (flat_map rule_faults (rules_in c)) ≡ None
  pub task_rules : (name : List ℕ) → c.task_rules name ≡ places_of Task name (rule_nodes c) (rules_in c)
  pub axiom_rules : (name : List ℕ) → c.axiom_rules name ≡ places_of Axiom name (rule_nodes c) (rules_in c)
