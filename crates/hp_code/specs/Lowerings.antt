-- A code in the making: the rules that it holds so far.
use Rattle.std.specs.Prelude.{◌≡◌, List, [], ◌++◌, None, ℕ, ◌∷◌, map}
use Rattle.std.specs.List.{All, flat_map}
use Rattle.hp_syntax.specs.Checks.{first_of, rule_faults}
use Rattle.hp_syntax.specs.Numbered.{IsNumberedRule}
use Rattle.hp_syntax.specs.Syntax.{Rule}
use Rattle.hp_nodes.specs.Compiled.{rule_trees}
use Rattle.hp_nodes.specs.Trees.{roots}
use Rattle.hp_code.specs.declared.lowering.Lowering.{Lowering}
use Rattle.hp_code.specs.CodeValues.{value_of}
use Rattle.hp_code.specs.CodeViews.{CodeView, IsCodeOf}

-- its parts as plain values
abbrev pub so_far : Lowering → CodeView
so_far l = value_of l.nodes.items l.vars.items l.task_rules l.axiom_rules

-- it holds these rules, compiled
pub record Holds (rules : List Rule) (l : Lowering) : Type 0 where
  pub code : IsCodeOf rules (so_far l)
  pub places : l.rules.items ≡ roots 0 (rule_trees rules)

-- rules were put behind those that it held
abbrev pub Extends : List Rule → Lowering → Lowering → Type 0
Extends more old new = (rules : List Rule) → Holds rules old → Holds (rules ++ more) new

-- a code can be made of it: the rules that it holds are numbered, and the checks find nothing in them
pub record CanBeCode (l : Lowering) : Type 0 where
  pub rules : List Rule
  pub holds : Holds rules l
  pub numbered : All IsNumberedRule rules
  pub checked : first_of (flat_map rule_faults rules) ≡ None

-- a rule begins with a node, and has variables of these names
pub record Begins (node : ℕ) (vars : List (List ℕ)) (old new : Lowering) : Type 0 where
  pub places : new.rules.items ≡ old.rules.items ++ node ∷ []
  pub names : map (λ names. names.items) new.vars.items ≡ map (λ names. names.items) old.vars.items ++ vars ∷ []
  pub nodes : new.nodes ≡ old.nodes
  pub task_rules : new.task_rules ≡ old.task_rules
  pub axiom_rules : new.axiom_rules ≡ old.axiom_rules
