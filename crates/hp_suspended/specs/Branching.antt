-- An axiom that is looked at, and what it leaves; a negation that is decided event by event.
use Rattle.std.specs.Prelude.{◌≡◌, ℕ, ◌+◌, ◌-◌, ◌*◌, ◌≤◌, Bool, cond, max, List, Option, Some, None, length, slice_get}
use Rattle.hp_syntax.specs.Values.{Bindings}
use Rattle.hp_syntax.specs.Goals.{Goal}
use Rattle.hp_syntax.specs.Events as plain
use Rattle.hp_syntax.specs.Events.{Event, Finding, finding, finding_with, negated, through}
use Rattle.hp_syntax.specs.Terms.{Term}
use Rattle.hp_code.specs.CodeViews.{CodeView}
use Rattle.hp_nodes.specs.Trees.{Operation, Laid}
use Rattle.hp_nodes.specs.Trees as trees
use Rattle.hp_eval.specs.declared.event.Event as public_event
use Rattle.hp_eval.specs.declared.event.Event.TheVariants as events
use Rattle.hp_eval.specs.Growth.{Grows}
use Rattle.hp_eval.specs.Slotted.{Slotted, undone}
use Rattle.hp_suspended.specs.declared.scene.Scene.{Scene}
use Rattle.hp_suspended.specs.Fitting.{RunningFits, running_weight, level_weight, base_of}
use Rattle.hp_suspended.specs.Left.{left, stood}
use Rattle.hp_suspended.specs.Nodes.{head_at}
use Rattle.hp_suspended.specs.SceneViews.{setting_of}
use Rattle.hp_suspended.specs.Settings.{Setting, node_events, first_between, head_concludes, first_of}
use Rattle.hp_suspended.specs.Views.{View, One, Fresh, RunningView, Idle, Under, Level}

abbrev pub under : Level → RunningView
under x = Under x.head x.own x.start x.next x.end x.here

-- the events that are left of an axiom's branches
abbrev pub branch_left : Setting → ℕ → Level → List Event
branch_left w n x = first_of (left w x.own x.here) (first_between w (n - 1) x.next x.end (stood w x.own x.start))

-- the conclusions that are left of them on a goal
abbrev pub axiom_left : Setting → ℕ → Goal → Bindings → Level → List Event
axiom_left w n q b x = through (branch_left w n x) (head_concludes (head_at w.code x.head) q b)

-- what an axiom that is looked at weighs, and those behind it
abbrev pub search_weight : ℕ → ℕ → RunningView → ℕ
search_weight nodes n running = max (running_weight nodes running) (level_weight nodes n)

-- an axiom that is looked at has the same head, fits, and weighs no more
pub record KeepsAxiom (c : CodeView) (cells n : ℕ) (x y : Level) : Type 0 where
  pub head : y.head ≡ x.head
  pub fits : RunningFits c cells n (under y)
  pub lighter : search_weight (length c.nodes) n (under y) ≤ search_weight (length c.nodes) n (under x)

-- the turns of a search: the places that are left, twice the axioms, and one for that which is looked at
abbrev pub is_under : RunningView → ℕ
is_under Idle = 0
is_under (Under head own start k end here) = 1

abbrev pub search_turns : ℕ → ℕ → ℕ → ℕ → RunningView → ℕ
search_turns places axioms at' k running = (places - at') + (2 * (axioms - k) + is_under running)

-- ---- negation

-- what is found behind a cut, if there was one
abbrev pub behind_cut : Bool → Finding → Finding
behind_cut cut found = cond cut (finding_with plain.Cut found) found

-- what is found in a list is found behind a cut, if there was one, in what is left of it, over any terms that these
-- begin
abbrev pub FindsOver : Scene → List Term → Bool → (Setting → List Event) → (Setting → List Event) → Type 0
FindsOver s cells cut whole rest =
    (terms : List Term) → Grows cells terms
    → finding (whole (setting_of s terms)) ≡ behind_cut cut (finding (rest (setting_of s terms)))

-- the event that an operation gives at once isn't one that is suspended
abbrev pub IsLasting : Operation → Type 0
IsLasting trees.Not = ⊥
IsLasting trees.Forall = ⊥
IsLasting (trees.Assign v p) = ⊥
IsLasting (trees.Test p) = ⊥
IsLasting _ = Unit {0}

abbrev pub MayLast : Option Laid → Type 0
MayLast None = ⊥
MayLast (Some l) = IsLasting l.op

-- so does the node of an index
abbrev pub IsLastingAt : CodeView → ℕ → Type 0
IsLastingAt c i = MayLast (slice_get c.nodes i)

-- what a `forall` denies: for each satisfier of the range, that what must hold for it doesn't
abbrev pub counters : Setting → ℕ → ℕ → List Event → List Event
counters w n then xs = through xs (λ b. negated (finding (node_events w n then b)) b)

abbrev pub IsNoEnd : public_event.Event → Type 0
IsNoEnd events.End = ⊥
IsNoEnd _ = Unit {0}

-- an axiom that is looked at goes on with its next branch, and is the same else
pub record IsNextBranch (n : ℕ) (x y : Level) : Type 0 where
  pub head : y.head ≡ x.head
  pub own : y.own ≡ x.own
  pub start : y.start ≡ x.start
  pub end : y.end ≡ x.end
  pub here : y.here ≡ Fresh x.start (n - 1) (x.next + 1)

-- ---- ends

-- behind a fault and at the end nothing is left and nothing is bound above the start; else all is as it was
abbrev pub Settles : public_event.Event → View → View → Slotted → Slotted → Type 0
Settles events.Sat v u e f = (u ≡ v) × (f ≡ e)
Settles events.Cut v u e f = (u ≡ v) × (f ≡ e)
Settles (events.Fault x) v u e f = (u ≡ One (base_of v) events.End) × (f ≡ undone (base_of v) e)
Settles events.End v u e f = (u ≡ One (base_of v) events.End) × (f ≡ undone (base_of v) e)
