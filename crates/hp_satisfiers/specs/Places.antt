-- The events of a goal at the places of a world.
use Rattle.std.specs.Prelude.{ℕ, ◌<◌, List, [], Option, Some, None}
use Rattle.hp_syntax.specs.Terms.{Term}
use Rattle.hp_syntax.specs.Values.{Bindings}
use Rattle.hp_syntax.specs.Goals.{Goal, match_goal}
use Rattle.hp_syntax.specs.Events.{Event, sat_if}
use Rattle.hp_eval.specs.GoalViews.{term_at}

-- the events of a goal by the atom of a place, if one stands there
abbrev pub place_events : List Term → Goal → Bindings → Option ℕ → List Event
place_events terms q e None = []
place_events terms q e (Some atom) = sat_if (match_goal q (term_at terms atom) e)

-- the atom of a place, if one stands there, is below a count
abbrev pub IsAtomBelow : ℕ → Option ℕ → Type 0
IsAtomBelow n None = Unit {0}
IsAtomBelow n (Some atom) = atom < n
