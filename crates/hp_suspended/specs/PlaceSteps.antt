-- Places with atoms that a goal matches, and turns at them.
use Rattle.std.specs.Prelude.{◌≡◌, ℕ, ◌+◌, ◌<◌, ◌≤◌, true, List, [], ◌∷◌, Option, Some, None, is_some, slice_get}
use Rattle.hp_syntax.specs.Terms.{Term, Terms}
use Rattle.hp_syntax.specs.Values.{Bindings}
use Rattle.hp_syntax.specs.Goals as plain
use Rattle.hp_syntax.specs.Goals.{ground_parts, match_goal}
use Rattle.hp_syntax.specs.Events.{sat_if}
use Rattle.hp_syntax.specs.Events as plain_events
use Rattle.hp_eval.specs.declared.event.Event.{Event}
use Rattle.hp_eval.specs.declared.event.Event.TheVariants as events
use Rattle.hp_eval.specs.declared.goals.Filled.TheVariants.{Known}
use Rattle.hp_eval.specs.declared.goals.Goal.{Goal}
use Rattle.hp_eval.specs.GoalViews.{fillings_of, goal_of, term_at}
use Rattle.hp_eval.specs.Slotted.{Slotted, Binds, bindings_of}
use Rattle.hp_suspended.specs.declared.places.KnownPart.{KnownPart}
use Rattle.hp_suspended.specs.Settings.{Setting, places_from}

-- the events of a goal by the atom of a place, if one stands there
abbrev pub place_events : List Term → plain.Goal → Bindings → Option ℕ → List plain_events.Event
place_events terms q e None = []
place_events terms q e (Some atom) = sat_if (match_goal q (term_at terms atom) e)

-- at the place stands an atom that a goal matches under some bindings
pub record MatchesAt (terms : List Term) (q : plain.Goal) (places : List (Option ℕ)) (i : ℕ) : Type 0 where
  pub atom : ℕ
  pub before : Bindings
  pub after : Bindings
  pub stands : slice_get places i ≡ Some (Some atom)
  pub matches : match_goal q (term_at terms atom) before ≡ Some after

-- a place from one on with an atom, before which a goal matches no atom from there on
pub record IsNextPlaceAt (terms : List Term) (q : plain.Goal) (places : List (Option ℕ)) (from i : ℕ) : Type 0 where
  pub later : from ≤ i
  pub atom : ℕ
  pub stands : slice_get places i ≡ Some (Some atom)
  pub passed : (j : ℕ) → from ≤ j → j < i → MatchesAt terms q places j → ⊥

-- such a place, and none where a goal matches no atom from there on
abbrev pub IsNextPlace : List Term → plain.Goal → List (Option ℕ) → ℕ → Option ℕ → Type 0
IsNextPlace terms q places from None = (i : ℕ) → from ≤ i → MatchesAt terms q places i → ⊥
IsNextPlace terms q places from (Some i) = IsNextPlaceAt terms q places from i

-- the argument of a goal, counted from 0 on, is known by a cell
abbrev pub IsKnownAt : Goal → ℕ → ℕ → Type 0
IsKnownAt q argument cell = slice_get q.args.items argument ≡ Some (Known cell)

-- the part of a goal, whose arguments are those from 1 on, is the first argument that is known
pub record IsFirstKnown (q : Goal) (part : KnownPart) : Type 0 where
  pub argument : ℕ
  pub number : part.number ≡ argument + 1
  pub known : IsKnownAt q argument part.cell
  pub first : (k cell : ℕ) → k < argument → IsKnownAt q k cell → ⊥

-- no argument of a goal is known
abbrev pub HasNoKnown : Goal → Type 0
HasNoKnown q = (k cell : ℕ) → IsKnownAt q k cell → ⊥

-- the parts of a goal, where it has no free variable
abbrev pub ground_of : List Term → Goal → Option Terms
ground_of terms q = ground_parts (fillings_of terms q.args.items) q.tail

-- the goal has no free variable
abbrev pub IsGround : List Term → Goal → Type 0
IsGround terms q = is_some (ground_of terms q) ≡ true

-- ---- turns

-- an event is a Sat, with bindings above those before; where there is none, the bindings are those before
abbrev pub Bound : Option Event → Slotted → Slotted → Type 0
Bound None old new = new ≡ old
Bound (Some event) old new = (event ≡ events.Sat) × Binds old new

-- the events before are those that are left, and the Sat of these bindings before them where there is an event
abbrev pub BeginsWith : Option Event → List plain_events.Event → Bindings → List plain_events.Event → Type 0
BeginsWith None before b left = before ≡ left
BeginsWith (Some event) before b left = before ≡ plain_events.Sat b ∷ left

-- a turn at places goes on from one to another
abbrev pub TurnsPlaces : Option Event → Setting → Goal → ℕ → ℕ → Slotted → Slotted → Type 0
TurnsPlaces result w q at' behind old new =
    BeginsWith result (places_from w at' (goal_of w.terms q) (bindings_of w.terms old)) (bindings_of w.terms new)
    (places_from w behind (goal_of w.terms q) (bindings_of w.terms old))
