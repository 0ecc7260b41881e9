-- Trials: what so many of the first parts of a conjunction come to together, from the bindings of a start.
use Rattle.std.specs.Prelude.{◌≡◌, ◌+◌, ◌<◌, ◌≤◌, ℕ, Bool, true, false, List, Option, Some, length, map}
use Rattle.hp_syntax.specs.Events.{Finding, Satisfied, Faulty, Undecided, Nothing, State}
use Rattle.hp_syntax.specs.Syntax as syntax
use Rattle.hp_syntax.specs.Values.{Bindings}
use Rattle.hp_syntax.specs.Views.{atom_of, domain_of, expression_of}
use Rattle.hp_code.specs.CodeViews.{beside, rule_nodes, rules_in}
use Rattle.hp_code.specs.Codes.{code_of}
use Rattle.hp_choice.specs.Asking.{past}
use Rattle.hp_choice.specs.Starting.{CanStart, StartsFrom, levels_from}
use Rattle.hp_choice.specs.declared.asking.Prefix.{Prefix}
use Rattle.hp_choice.specs.declared.starting.Conjuncts.{Conjuncts}
use Rattle.hp_search.specs.Planned.{Planned}
use Rattle.hp_unmet.specs.Conjunctions.{Conjunction, answer_where, first_values, found, values_where}
use Rattle.hp_unmet.specs.PartNodes.{StandIn}
use Rattle.hp_unmet.specs.States.{InStateOf}
use Rattle.hp_unmet.specs.declared.parts.Parts.{Parts}
use Rattle.hp_unmet.specs.declared.trial.Trial.{Trial}
use Rattle.hp_unmet.specs.declared.unmet.Unmet.{Unmet}

-- ---- a trial

abbrev pub conjunction_of : Parts → Conjunction
conjunction_of p = record {
  span = p.span;
  vars = p.vars.now;
  head = atom_of p.head.now;
  parts = map expression_of p.parts.now;
}

abbrev pub rules_tried : Trial → List syntax.Rule
rules_tried t = (domain_of t.domain.now).rules

pub record CanBeTried (t : Trial) : Type 0 where
  pub stand : StandIn (rules_tried t) (code_of t.code.now) (conjunction_of t.asked) t.nodes
  pub start : CanStart (code_of t.code.now) t.start

-- a trial starts from these bindings, if there are any
abbrev pub Starts : Trial → ℕ → State → Option Bindings → Type 0
Starts t nest state o =
    let c = code_of t.code.now in
    (r : syntax.Rule) → beside t.nodes.rule (rule_nodes c) (rules_in c) ≡ Some r → StartsFrom c nest state r t.start o

-- something holds of the axiom levels of a trial, of the state of the node that a walk stands at, and of the bindings
-- from which the trial starts there
abbrev pub InTrial : Planned → Trial → (ℕ → State → Option Bindings → Type 0) → Type 0
InTrial p t P =
    InStateOf p (λ nest state. (o : Option Bindings) → Starts t nest state o → P (levels_from nest t.start) state o)

-- so many of the first parts, which end before this index
pub record IsPrefix (t : Trial) (p : Prefix) : Type 0 where
  pub within : p.count ≤ length t.asked.parts.now
  pub end : p.end ≡ past (code_of t.code.now).nodes t.nodes.first p.count

-- their nodes
abbrev pub nodes_tried : Trial → Prefix → Conjuncts
nodes_tried t p = record { rule = t.nodes.rule; first = t.nodes.first; end = p.end }

-- what is found with so many of the first parts, with so many axiom levels in a state, from bindings
abbrev pub tried : Trial → ℕ → State → Option Bindings → ℕ → Finding
tried t nest state o n = found (rules_tried t) nest state (conjunction_of t.asked) o n

-- the values of the variables by the first satisfier of so many of them
abbrev pub values_tried : Trial → ℕ → State → Option Bindings → ℕ → Bindings
values_tried t nest state o n = first_values (rules_tried t) nest state (conjunction_of t.asked) o n

-- and by that of the parts that are met
abbrev pub values_answered : Trial → ℕ → State → Option Bindings → Unmet → Bindings
values_answered t nest state o u = values_where (rules_tried t) nest state (conjunction_of t.asked) o u

abbrev pub answer_tried : Trial → ℕ → State → Option Bindings → Unmet
answer_tried t nest state o = answer_where (rules_tried t) nest state (conjunction_of t.asked) o

-- ---- what a trial comes to

abbrev pub is_satisfied : Finding → Bool
is_satisfied Satisfied = true
is_satisfied (Faulty f) = false
is_satisfied Undecided = false
is_satisfied Nothing = false

-- a limit or a fault is met before any satisfier
abbrev pub is_in_doubt : Finding → Bool
is_in_doubt Satisfied = false
is_in_doubt (Faulty f) = true
is_in_doubt Undecided = true
is_in_doubt Nothing = false

-- so many of the first parts are satisfied, and with the next one there is no event at all
pub record IsFirstMissing (found : ℕ → Finding) (count place : ℕ) : Type 0 where
  pub within : place < count
  pub met : found place ≡ Satisfied
  pub missing : found (place + 1) ≡ Nothing
