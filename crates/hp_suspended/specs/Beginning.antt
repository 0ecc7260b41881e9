-- What is suspended as it begins, and what steps without a recursion answer.
use Rattle.std.specs.Prelude.{◌≡◌, ℕ, zero, suc, ◌+◌, ◌<◌, ◌≤◌, ◌++◌, List, Option, Some, None, Result, Ok, Err, length, slice_get}
use Rattle.hp_syntax.specs.Terms.{Term}
use Rattle.hp_syntax.specs.Values.{Bindings}
use Rattle.hp_syntax.specs.declared.fault.RunFault.{RunFault}
use Rattle.hp_syntax.specs.Goals as plain
use Rattle.hp_code.specs.CodeViews.{CodeView}
use Rattle.hp_nodes.specs.Trees.{Laid, Operation}
use Rattle.hp_eval.specs.declared.event.Event.{Event}
use Rattle.hp_eval.specs.declared.event.Event.TheVariants as events
use Rattle.hp_eval.specs.Events.{PlainEvent}
use Rattle.hp_eval.specs.declared.goals.Goal.{Goal}
use Rattle.hp_eval.specs.GoalViews.{GoalBelow, goal_of}
use Rattle.hp_eval.specs.Growth.{Grows}
use Rattle.hp_eval.specs.Slotted.{Slotted, bindings_of}
use Rattle.hp_suspended.specs.declared.scene.Scene.{Scene}
use Rattle.hp_suspended.specs.Answering.{IsBegun, IsLookedAt}
use Rattle.hp_suspended.specs.Fitting.{Fits, RunningFits, base_of, weight, running_weight, node_weight}
use Rattle.hp_suspended.specs.Left.{left, one_event, running_left}
use Rattle.hp_suspended.specs.SceneViews.{setting_of, code_in}
use Rattle.hp_suspended.specs.Settings.{axioms_from, node_events}
use Rattle.hp_suspended.specs.Views.{Idle, Level, One, RunningView, Search, View}

-- the expression of a node as it begins
pub record Begins (s : Scene) (cells : List Term) (e : Slotted) (m n i : ℕ) (v : View) : Type 0 where
  pub start : base_of v ≡ m
  pub looked : IsLookedAt v
  pub fits : Fits (code_in s) (length cells) m v
  pub same : (terms : List Term) → Grows cells terms
      → left (setting_of s terms) e v ≡ node_events (setting_of s terms) n i (bindings_of terms e)
  pub lighter : weight (length (code_in s).nodes) v < node_weight (length (code_in s).nodes) n i

-- whatever the cells and the bindings are, so many of them
abbrev pub BeginsAt : Scene → ℕ → ℕ → ℕ → View → Type 0
BeginsAt s m n i v = (cells : List Term) (e : Slotted) → length e.trail ≡ m → Begins s cells e m n i v

-- the node of an index does this
abbrev pub DoesAt : CodeView → ℕ → Operation → Type 0
DoesAt c i op = (l : Laid) × (slice_get c.nodes i ≡ Some l) × (l.op ≡ op)

-- an atom that is filled begins as the search of its goal, whose cells are below a count, from a place on, and else as
-- the fault
abbrev pub BeginsFilled : ℕ → ℕ → ℕ → ℕ → View → (Goal → plain.Goal) → Result plain.Goal RunFault → Type 0
BeginsFilled cells m n from v stands (Ok p) =
    (q : Goal) × (v ≡ Search m n q from 0 Idle) × GoalBelow cells q × (p ≡ stands q)
BeginsFilled cells m n from v stands (Err f) = v ≡ One m (events.Fault f)

-- over any terms that those at the end of a call begin, the event is all that is met
abbrev pub GivesTerms : List Term → Slotted → Event → (List Term → List PlainEvent) → Type 0
GivesTerms cells f x met = (terms : List Term) → Grows cells terms → met terms ≡ one_event x (bindings_of terms f)

-- so is it where there may be none
abbrev pub MayGive : Option Event → List Term → Slotted → (List Term → List PlainEvent) → Type 0
MayGive None cells f met = GivesTerms cells f events.End met
MayGive (Some x) cells f met = GivesTerms cells f x met

-- the events of a goal by the axioms from a number on are the conclusions of the one that is looked at now, and then
-- those by the axioms from the number behind it
abbrev pub MeetsRule : Scene → List Term → ℕ → Goal → ℕ → ℕ → RunningView → Type 0
MeetsRule s cells n q k behind running =
    (terms : List Term) (b : Bindings) → Grows cells terms
    → axioms_from (setting_of s terms) n k (goal_of terms q) b
    ≡ running_left (setting_of s terms) n (goal_of terms q) b running
    ++ axioms_from (setting_of s terms) n behind (goal_of terms q) b

-- what is suspended is begun, fits, has the same start and the same left, and weighs no more
pub record IsBegunAs (s : Scene) (cells : List Term) (e f : Slotted) (v u : View) : Type 0 where
  pub begun : IsBegun u
  pub start : base_of u ≡ base_of v
  pub fits : Fits (code_in s) (length cells) (length f.trail) u
  pub same : (terms : List Term) → Grows cells terms → left (setting_of s terms) f u ≡ left (setting_of s terms) e v
  pub lighter : weight (length (code_in s).nodes) u ≤ weight (length (code_in s).nodes) v

-- the node is that of an axiom of a name
abbrev pub IsNamedAt : CodeView → List ℕ → ℕ → Type 0
IsNamedAt c name i = (k : ℕ) × (slice_get (c.axiom_rules name) k ≡ Some i)

-- the axiom of a node, whose head started in slots of its own: a cut where no level is left, and else the first of its
-- branches is the next one
abbrev pub begun_level : ℕ → ℕ → ℕ → Slotted → Level
begun_level zero i to own = record {
  head = i;
  own = own;
  start = length own.trail;
  next = to;
  end = to;
  here = One (length own.trail) events.Cut;
}
begun_level (suc n) i to own = record {
  head = i;
  own = own;
  start = length own.trail;
  next = i + 1;
  end = to;
  here = One (length own.trail) events.End;
}

-- an axiom of a goal's name, as it begins
pub record BeginsRule (s : Scene) (cells : List Term) (n : ℕ) (q : Goal) (i : ℕ) (running : RunningView) : Type 0 where
  pub met : (k : ℕ) → slice_get ((code_in s).axiom_rules q.name) k ≡ Some i → MeetsRule s cells n q k (k + 1) running
  pub fits : RunningFits (code_in s) (length cells) n running
  pub light : running_weight (length (code_in s).nodes) running ≡ 0
