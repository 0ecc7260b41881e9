-- The rules of a name: the axioms that conclude it, and the operators and methods that are for its tasks.
use Rattle.std.specs.Prelude.{ℕ, Bool, false, List, [], filter, Option, None, Some, bytes_eq}
use Rattle.hp_syntax.specs.Syntax.{Rule, Does, Refines, Concludes, Axiom}
use Rattle.hp_syntax.specs.Terms.{Term, Symbol, Number, Listed, NoTerm, More}
use Rattle.hp_syntax.specs.Networks.{Network, Empty, Task, Ordered, Unordered}
use Rattle.hp_syntax.specs.Events.{axioms_of}

-- the name of a rule's head, where the rule is for tasks
abbrev pub task_head : Rule → Option (List ℕ)
task_head (Does o) = Some o.head.name
task_head (Refines m) = Some m.head.name
task_head (Concludes x) = None

-- the name of a rule's head, where the rule is an axiom
abbrev pub axiom_head : Rule → Option (List ℕ)
axiom_head (Does o) = None
axiom_head (Refines m) = None
axiom_head (Concludes x) = Some x.head.name

-- a name, if there is one, is this one
abbrev pub is_name : List ℕ → Option (List ℕ) → Bool
is_name name None = false
is_name name (Some own) = bytes_eq own name

-- ---- axioms

-- the axioms whose head has a name, in the order of the domain
abbrev pub concluding : List ℕ → List Rule → List Axiom
concluding name rules = filter (λ x. bytes_eq x.head.name name) (axioms_of rules)

-- ---- operators and methods

-- the name of a term, if it is a symbol
abbrev pub symbol_name : Term → Option (List ℕ)
symbol_name (Symbol name) = Some name
symbol_name (Number n) = None
symbol_name (Listed ts) = None

-- the first name of a task, if there is one
abbrev pub task_name : Term → Option (List ℕ)
task_name (Symbol name) = None
task_name (Number n) = None
task_name (Listed NoTerm) = None
task_name (Listed (More t ts)) = symbol_name t

-- the rules that are relevant to a task of a name, if it has one: the operators and methods whose head has that name,
-- in the order of the domain
abbrev pub relevant : Option (List ℕ) → List Rule → List Rule
relevant None rules = []
relevant (Some name) rules = filter (λ r. is_name name (task_head r)) rules

-- those that are relevant to a part of a network, where it is a task
abbrev pub relevant_to : Option Network → List Rule → List Rule
relevant_to None rules = []
relevant_to (Some Empty) rules = []
relevant_to (Some (Task t i)) rules = relevant (task_name t) rules
relevant_to (Some (Ordered ns)) rules = []
relevant_to (Some (Unordered ns)) rules = []
