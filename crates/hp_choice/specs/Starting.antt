-- Bindings under which parts of a rule are asked for.
use Rattle.std.specs.Prelude.{◌≡◌, ℕ, ◌-◌, Bool, true, false, List, length, Option, None, Some, IfSome, Result, Ok, Err}
use Rattle.std.specs.Option.{option_map}
use Rattle.hp_syntax.specs.declared.fault.RunFault.{RunFault}
use Rattle.hp_syntax.specs.declared.pattern.Span.{Span}
use Rattle.hp_syntax.specs.Events.{State, sat}
use Rattle.hp_syntax.specs.Goals.{Goal, fill_goal, start_goal}
use Rattle.hp_syntax.specs.GroundPatterns.{IsGroundAtom, atom_said}
use Rattle.hp_syntax.specs.Matching.{match_atom}
use Rattle.hp_syntax.specs.Syntax.{And, Atom, Expressions, Rule}
use Rattle.hp_syntax.specs.Terms.{Term}
use Rattle.hp_syntax.specs.Values.{Bindings, unbound}
use Rattle.hp_syntax.specs.Views.{atom_of}
use Rattle.hp_nodes.specs.Compiled.{vars_of}
use Rattle.hp_code.specs.CodeViews.{CodeView, beside, rule_nodes, rules_in}
use Rattle.hp_eval.specs.Slotted.{Slotted, AreBelow, bindings_of}
use Rattle.hp_suspended.specs.Nodes.{expressions_in}
use Rattle.hp_suspended.specs.Settings.{Setting, axioms_in, state_in}
use Rattle.hp_choice.specs.declared.starting.Conjuncts.{Conjuncts}
use Rattle.hp_choice.specs.declared.starting.Start.{Start}
use Rattle.hp_choice.specs.declared.starting.Start.TheVariants as starts
use Rattle.hp_choice.specs.Asking.{AreConjuncts, asked_events, head_of}
use Rattle.hp_choice.specs.FirstSatisfier.{first_sat}

-- ---- starts

-- the bindings under which the head of a rule matches a task, if it does
abbrev pub matched_by : Rule → Term → Option Bindings
matched_by r t = match_atom (head_of r) t (unbound (length (vars_of r)))

-- the bindings with which the head of a rule starts from an atom as it is filled
abbrev pub started_by : Rule → Result Goal RunFault → Option Bindings
started_by r (Err f) = None
started_by r (Ok q) = start_goal (head_of r) q (unbound (length (vars_of r)))

-- and from an atom that is to be filled under bindings, if there are any
abbrev pub started_under : Rule → Atom → Option Bindings → Option Bindings
started_under r a None = None
started_under r a (Some e) = started_by r (fill_goal a e)

-- bindings are those by the first satisfier of parts together for a task
abbrev pub AreAfter : CodeView → ℕ → State → Conjuncts → Term → Option Bindings → Type 0
AreAfter c nest st x t o =
    (r : Rule) (s : Span) (ps : Expressions) → beside x.rule (rule_nodes c) (rules_in c) ≡ Some r
    → expressions_in c x.first x.end ≡ Some ps → o ≡ first_sat (asked_events (rules_in c) nest st r (And s ps) t)

-- a start is one from these bindings, if there are any, for parts of a rule
abbrev pub StartsFrom : CodeView → ℕ → State → Rule → Start → Option Bindings → Type 0
StartsFrom c nest st r (starts.Task task) o = o ≡ matched_by r (atom_said (atom_of task.now))
StartsFrom c nest st r (starts.After task x) o = AreAfter c nest st x (atom_said (atom_of task.now)) o
StartsFrom c nest st r (starts.Goal task x goal) o =
    (b : Option Bindings) × AreAfter c nest st x (atom_said (atom_of task.now)) b
    × (o ≡ started_under r (atom_of goal.now) b)

-- how many axiom levels there are for the parts
abbrev pub levels_from : ℕ → Start → ℕ
levels_from nest (starts.Task task) = nest
levels_from nest (starts.After task x) = nest
levels_from nest (starts.Goal task x goal) = nest - 1

-- the task is an atom without variables and calls, and the parts before are parts by the nodes of a code
abbrev pub CanStart : CodeView → Start → Type 0
CanStart c (starts.Task task) = IsGroundAtom (atom_of task.now)
CanStart c (starts.After task x) = IsGroundAtom (atom_of task.now) × AreConjuncts c x
CanStart c (starts.Goal task x goal) = IsGroundAtom (atom_of task.now) × AreConjuncts c x

-- ---- as slots hold them

-- slots hold bindings, and cells alone; there are none where there are no bindings
pub record Holds (terms : List Term) (o : Option Slotted) (found : Option Bindings) : Type 0 where
  pub are : found ≡ option_map (bindings_of terms) o
  pub below : IfSome o (AreBelow (length terms))

-- the bindings under which the head of the rule of parts matches a task
abbrev pub IsBoundByTask : CodeView → Conjuncts → Term → List Term → Option Slotted → Type 0
IsBoundByTask c x t terms o =
    (r : Rule) → beside x.rule (rule_nodes c) (rules_in c) ≡ Some r → Holds terms o (matched_by r t)

-- those by the first satisfier of parts together for a task
abbrev pub IsBoundAfter : CodeView → ℕ → State → Conjuncts → Term → List Term → Option Slotted → Type 0
IsBoundAfter c nest st x t terms o = (found : Option Bindings) → AreAfter c nest st x t found → Holds terms o found

-- those with which the head of a rule starts
abbrev pub BindsGoal : CodeView → ℕ → Result Goal RunFault → List Term → Option Slotted → Type 0
BindsGoal c i filled terms o =
    (r : Rule) → beside i (rule_nodes c) (rules_in c) ≡ Some r → Holds terms o (started_by r filled)

-- those from which parts of a rule are asked for
abbrev pub IsBoundBy : CodeView → ℕ → State → Conjuncts → Start → List Term → Option Slotted → Type 0
IsBoundBy c nest st x start terms o =
    (r : Rule) (found : Option Bindings) → beside x.rule (rule_nodes c) (rules_in c) ≡ Some r
    → StartsFrom c nest st r start found → Holds terms o found

-- ---- the first satisfier

-- the first satisfier of some events was reached, and gives these bindings; or there is none
abbrev pub ReachesFirst : Option Bindings → Bindings → Bool → Type 0
ReachesFirst first e true = first ≡ Some e
ReachesFirst first e false = first ≡ None

-- slots hold the bindings by the first satisfier of parts together under bindings
abbrev pub BindsFirst : Setting → ℕ → Conjuncts → Bindings → List Term → Option Slotted → Type 0
BindsFirst w nest x e terms o =
    (s : Span) (ps : Expressions) → expressions_in w.code x.first x.end ≡ Some ps
    → Holds terms o (first_sat (sat (axioms_in w) nest (state_in w) (And s ps) e))
