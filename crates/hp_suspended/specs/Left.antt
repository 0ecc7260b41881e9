-- What is left of what is suspended, as a list of events.
use Rattle.std.specs.Prelude.{ℕ, ◌-◌, ◌++◌, List, [], ◌∷◌}
use Rattle.hp_syntax.specs.Values.{Bindings}
use Rattle.hp_syntax.specs.Goals.{Goal}
use Rattle.hp_syntax.specs.Events.{Event, Sat, Cut, Fault, through}
use Rattle.hp_eval.specs.declared.event.Event as public_event
use Rattle.hp_eval.specs.declared.event.Event.TheVariants as events
use Rattle.hp_eval.specs.GoalViews.{goal_of}
use Rattle.hp_eval.specs.Slotted.{Slotted, undone, bindings_of}
use Rattle.hp_suspended.specs.Filtered.{atom_left}
use Rattle.hp_suspended.specs.Nodes.{atom_at, head_at}
use Rattle.hp_suspended.specs.Settings.{Setting, node_events, all_between, any_between, first_between, places_from, axioms_from, head_concludes, first_of}
use Rattle.hp_suspended.specs.Views.{View, One, Fresh, Simple, Search, Conj, Disj, RunningView, Idle, Under, Views, Bare, Above}

-- an event under bindings, or none
abbrev pub one_event : public_event.Event → Bindings → List Event
one_event events.Sat b = Sat b ∷ []
one_event events.Cut b = Cut ∷ []
one_event (events.Fault f) b = Fault f ∷ []
one_event events.End b = []

-- the events that are left of each part of a conjunction below the running one, with the node of the part behind it
pub data Tower : Type 0 where
  Floor : Tower
  On : (lower : Tower) → (next : ℕ) → (events : List Event) → Tower

module _ (w : Setting) where
  -- the bindings that stood at a mark
  abbrev pub stood : Slotted → ℕ → Bindings
  stood e m = bindings_of w.terms (undone m e)

  -- the parts behind take the place of each Sat of a part
  abbrev pub tower_left : ℕ → ℕ → Tower → List Event
  tower_left n end Floor = []
  tower_left n end (On lower k events) = through events (all_between w n k end) ++ tower_left n end lower

  abbrev mutual
    pub left : Slotted → View → List Event
    left e (One m event) = one_event event (stood e m)
    left e (Fresh m n i) = node_events w n i (stood e m)
    left e (Simple a) = atom_left w a.nest a.from a.filter (atom_at w.code a.node) (stood e a.mark)
    left e (Search m n q at' k running) =
        places_from w at' (goal_of w.terms q) (stood e m)
        ++ (running_left n (goal_of w.terms q) (stood e m) running
        ++ axioms_from w n k (goal_of w.terms q) (stood e m))
    left e (Conj m n k end outer here) =
        through (left e here) (all_between w n k end) ++ tower_left n end (tower e outer)
    left e (Disj m n k end here) = left e here ++ any_between w n k end (stood e m)

    -- the conclusions, on a goal, of the branch that is looked at, or else of the first of those behind it that has any
    -- events
    pub running_left : ℕ → Goal → Bindings → RunningView → List Event
    running_left n q b Idle = []
    running_left n q b (Under head own start k end here) =
        through (first_of (left own here) (first_between w (n - 1) k end (stood own start)))
        (head_concludes (head_at w.code head) q b)

    pub tower : Slotted → Views → Tower
    tower e Bare = Floor
    tower e (Above lower k top) = On (tower e lower) k (left e top)
