-- What keeps the tasks that may be done next at a node from being done.
use Rattle.std.specs.Prelude.{ℕ, ◌+◌, zero, suc, Bool, false, true, cond, List, [], ◌∷◌, ◌++◌, length, map, Option, Some, None, option_map, bytes_eq}
use Rattle.std.specs.Option.{option_and_then}
use Rattle.hp_syntax.specs.Events.{State}
use Rattle.hp_syntax.specs.GroundViews.{ground_of}
use Rattle.hp_syntax.specs.Syntax as syntax
use Rattle.hp_syntax.specs.Syntax.{Expression, Rule, Does, Refines, Concludes}
use Rattle.hp_syntax.specs.Terms.{Term, Listed, NoTerm, More, Number, Symbol}
use Rattle.hp_syntax.specs.Values.{Bindings}
use Rattle.hp_choice.specs.FirstSatisfier.{values_of}
use Rattle.hp_syntax.specs.Walk.{Node}
use Rattle.hp_unmet.specs.declared.unmet.Unmet.{Unmet}
use Rattle.hp_unmet.specs.declared.unmet.Unmet.TheVariants as unmets
use Rattle.hp_unmet.specs.Clauses.{clause_unmet, clause_values}
use Rattle.hp_unmet.specs.Against.{against}
use Rattle.hp_unmet.specs.Conjunctions.{first_unmet, part_at, values_met}
use Rattle.hp_obstacles.specs.declared.axioms.Unconcluded as kept
use Rattle.hp_obstacles.specs.declared.obstacles.Obstacle as made
use Rattle.hp_obstacles.specs.declared.obstacles.Stuck as stuck
use Rattle.hp_obstacles.specs.Facts as facts
use Rattle.hp_obstacles.specs.Facts.{Facts, facts_of, shown}
use Rattle.hp_obstacles.specs.Tasks.{next_tasks}

-- ---- one branch

-- the name of an atom
abbrev pub atom_name : Expression → Option (List ℕ)
atom_name (syntax.Holds s a) = Some a.name
atom_name (syntax.And s parts) = None
atom_name (syntax.Or s parts) = None
atom_name (syntax.Not s part) = None
atom_name (syntax.Forall s vars range body) = None
atom_name (syntax.Assign s v value) = None
atom_name (syntax.Test s call) = None

-- the name of the atom that a part asks for, or whose negation it asks for
abbrev pub name_in : Expression → Option (List ℕ)
name_in (syntax.Holds s a) = Some a.name
name_in (syntax.And s parts) = None
name_in (syntax.Or s parts) = None
name_in (syntax.Not s part) = atom_name part
name_in (syntax.Forall s vars range body) = None
name_in (syntax.Assign s v value) = None
name_in (syntax.Test s call) = None

-- a part asks for a negation
abbrev pub is_negation : Expression → Bool
is_negation (syntax.Holds s a) = false
is_negation (syntax.And s parts) = false
is_negation (syntax.Or s parts) = false
is_negation (syntax.Not s part) = true
is_negation (syntax.Forall s vars range body) = false
is_negation (syntax.Assign s v value) = false
is_negation (syntax.Test s call) = false

abbrev pub is_negation_if : Option Expression → Bool
is_negation_if None = false
is_negation_if (Some e) = is_negation e

-- and so does the part at a place
abbrev pub is_negated_at : List Rule → ℕ → ℕ → ℕ → Bool
is_negated_at rules rule branch place = is_negation_if (part_at rules rule branch place)

-- the name of the atom that the first unmet part of a precondition asks for
abbrev pub name_unmet : List Rule → ℕ → ℕ → Unmet → Option (List ℕ)
name_unmet rules rule branch unmets.None = None
name_unmet rules rule branch unmets.Head = None
name_unmet rules rule branch (unmets.Part place) = option_and_then name_in (part_at rules rule branch place)
name_unmet rules rule branch unmets.Unknown = None

-- the facts of the name that the first unmet part asks for
abbrev pub facts_unmet : List Rule → State → ℕ → ℕ → Unmet → Option Facts
facts_unmet rules s rule branch u = option_map (λ name. shown (facts_of name s)) (name_unmet rules rule branch u)

-- what is said of rules, one after the other, of which the first has this number
abbrev pub of_rules : {A : Type 0} → (ℕ → Rule → List A) → ℕ → List Rule → List A
of_rules f rule [] = []
of_rules f rule (r ∷ rs) = f rule r ++ of_rules f (rule + 1) rs

-- ---- the axioms of an atom's name

-- what keeps a branch of an axiom from concluding an atom: by their places, the first part of the branch that is unmet,
-- the values of the variables by the parts that are met, and the facts of the name that the unmet part asks for
pub record Unconcluded : Type 0 where
  pub rule : ℕ
  pub branch : ℕ
  pub unmet : Unmet
  pub values : Bindings
  pub facts : Option Facts

-- a part is unmet, so that nothing satisfies the branch and the next one is looked at
abbrev pub is_part : Unmet → Bool
is_part unmets.None = false
is_part unmets.Head = false
is_part (unmets.Part place) = true
is_part unmets.Unknown = false

-- how many branches of a rule conclude atoms of a name
abbrev pub clauses_for : List ℕ → Rule → ℕ
clauses_for name (Does o) = 0
clauses_for name (Refines m) = 0
clauses_for name (Concludes x) = cond (bytes_eq x.head.name name) (length x.clauses) 0

-- an atom that is asked for: by the places of the operator or branch that asks, and by its place there
pub record Wanted : Type 0 where
  pub rule : ℕ
  pub branch : ℕ
  pub place : ℕ

module _ (rules : List Rule) (nest : ℕ) (s : State) (t : Term) (w : Wanted) where
  abbrev pub unconcluded_by : ℕ → ℕ → Unmet → Unconcluded
  unconcluded_by rule branch u = record {
    rule = rule;
    branch = branch;
    unmet = u;
    values = clause_values rules nest s t w.rule w.branch w.place rule branch u;
    facts = facts_unmet rules s rule branch u;
  }

  abbrev pub unconcluded : ℕ → ℕ → Unconcluded
  unconcluded rule branch =
      unconcluded_by rule branch (clause_unmet rules nest s t w.rule w.branch w.place rule branch)

  -- of so many branches, from one of a number on, up to the first of which no part is unmet: that one is chosen, or the
  -- head doesn't start from the atom, or it isn't known
  abbrev pub at_clauses : ℕ → ℕ → ℕ → List Unconcluded
  at_clauses rule branch zero = []
  at_clauses rule branch (suc left) =
      let x = unconcluded rule branch in x ∷ cond (is_part x.unmet) (at_clauses rule (branch + 1) left) []

  -- of the axioms of a name
  abbrev pub axioms_named : Option (List ℕ) → List Unconcluded
  axioms_named None = []
  axioms_named (Some name) = of_rules (λ rule r. at_clauses rule 0 (clauses_for name r)) 0 rules

-- of those of the name of an unmet part that is an atom
abbrev pub axioms_unmet : List Rule → ℕ → State → Term → ℕ → ℕ → Unmet → List Unconcluded
axioms_unmet rules nest s t rule branch unmets.None = []
axioms_unmet rules nest s t rule branch unmets.Head = []
axioms_unmet rules nest s t rule branch (unmets.Part place) =
    axioms_named rules nest s t (record { rule = rule; branch = branch; place = place })
    (option_and_then atom_name (part_at rules rule branch place))
axioms_unmet rules nest s t rule branch unmets.Unknown = []

-- ---- what makes a part false

-- the satisfier that makes the unmet part false, where it is a negation or a `forall`
abbrev pub against_unmet : List Rule → ℕ → State → Term → ℕ → ℕ → Unmet → Option Bindings
against_unmet rules nest s t rule branch unmets.None = None
against_unmet rules nest s t rule branch unmets.Head = None
against_unmet rules nest s t rule branch (unmets.Part place) = against rules nest s t rule branch place
against_unmet rules nest s t rule branch unmets.Unknown = None

-- ---- operators and methods

-- what keeps an operator, or a branch of a method, from doing a task: by their places, the first part of the
-- precondition that is unmet, the values of the variables by the parts that are met, the satisfier that makes the unmet
-- part false, the facts of the name that it asks for, and what keeps the axioms of that name from concluding it
pub record Obstacle : Type 0 where
  pub rule : ℕ
  pub branch : ℕ
  pub unmet : Unmet
  pub values : Bindings
  pub against : Option Bindings
  pub facts : Option Facts
  pub axioms : List Unconcluded

module _ (rules : List Rule) (nest : ℕ) (s : State) where
  abbrev pub obstacle_by : Term → ℕ → ℕ → Unmet → Obstacle
  obstacle_by t rule branch u = record {
    rule = rule;
    branch = branch;
    unmet = u;
    values = values_met rules nest s t rule branch u;
    against = against_unmet rules nest s t rule branch u;
    facts = facts_unmet rules s rule branch u;
    axioms = axioms_unmet rules nest s t rule branch u;
  }

  abbrev pub obstacle : Term → ℕ → ℕ → Obstacle
  obstacle t rule branch = obstacle_by t rule branch (first_unmet rules nest s t rule branch)

  -- ---- all branches of all rules

  -- of so many branches, from one of a number on
  abbrev pub at_branches : Term → ℕ → ℕ → ℕ → List Obstacle
  at_branches t rule branch zero = []
  at_branches t rule branch (suc left) = obstacle t rule branch ∷ at_branches t rule (branch + 1) left

-- how many branches of a rule are for tasks of a name: an operator counts as one
abbrev pub branches_for : List ℕ → Rule → ℕ
branches_for name (Does o) = cond (bytes_eq o.head.name name) 1 0
branches_for name (Refines m) = cond (bytes_eq m.head.name name) (length m.branches) 0
branches_for name (Concludes x) = 0

module _ (all : List Rule) (nest : ℕ) (s : State) where
  -- of the rules for tasks of a name, among some of which the first has this number
  abbrev pub at_rules : Term → List ℕ → ℕ → List Rule → List Obstacle
  at_rules t name = of_rules (λ rule r. at_branches all nest s t rule 0 (branches_for name r))

-- the name of a symbol
abbrev pub symbol_name : Term → Option (List ℕ)
symbol_name (Symbol name) = Some name
symbol_name (Number n) = None
symbol_name (Listed ts) = None

-- the name of a task
abbrev pub task_name : Term → Option (List ℕ)
task_name (Symbol name) = None
task_name (Number n) = None
task_name (Listed NoTerm) = None
task_name (Listed (More t ts)) = symbol_name t

abbrev pub obstacles_named : List Rule → ℕ → State → Term → Option (List ℕ) → List Obstacle
obstacles_named rules nest s t None = []
obstacles_named rules nest s t (Some name) = at_rules rules nest s t name 0 rules

abbrev pub obstacles : List Rule → ℕ → State → Term → List Obstacle
obstacles rules nest s t = obstacles_named rules nest s t (task_name t)

-- ---- a node

-- a task, and what keeps it from being done
pub record Stuck : Type 0 where
  pub task : Term
  pub obstacles : List Obstacle

abbrev pub stuck_by : List Rule → ℕ → State → Term → Stuck
stuck_by rules nest s t = record { task = t; obstacles = obstacles rules nest s t }

-- of each task that may be done next
abbrev pub all_stuck : List Rule → ℕ → Node → List Stuck
all_stuck rules nest n = map (stuck_by rules nest n.state) (next_tasks n)

-- ---- as they are kept

abbrev pub unconcluded_of : kept.Unconcluded → Unconcluded
unconcluded_of x = record {
  rule = x.rule;
  branch = x.branch;
  unmet = x.unmet;
  values = values_of x.values;
  facts = option_map facts.kept x.facts;
}

abbrev pub obstacle_of : made.Obstacle → Obstacle
obstacle_of o = record {
  rule = o.rule;
  branch = o.branch;
  unmet = o.unmet;
  values = values_of o.values;
  against = option_map values_of o.against;
  facts = option_map facts.kept o.facts;
  axioms = map unconcluded_of o.axioms.items;
}

abbrev pub stuck_of : stuck.Stuck → Stuck
stuck_of s = record { task = ground_of s.task; obstacles = map obstacle_of s.obstacles.items }
