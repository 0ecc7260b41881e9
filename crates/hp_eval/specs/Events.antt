-- Events that are given one at a time.
use Rattle.std.specs.Prelude.{◌≡◌, List, [], ◌∷◌}
use Rattle.hp_syntax.specs.Values.{Bindings}
use Rattle.hp_syntax.specs.Events as plain
use Rattle.hp_eval.specs.declared.event.Event.{Event}
use Rattle.hp_eval.specs.declared.event.Event.TheVariants as events

-- an event of the definition
abbrev pub PlainEvent : Type 0
PlainEvent = plain.Event

-- the first of the events that are left, without its bindings
abbrev pub event_of : List PlainEvent → Event
event_of [] = events.End
event_of (plain.Sat e ∷ xs) = events.Sat
event_of (plain.Cut ∷ xs) = events.Cut
event_of (plain.Fault f ∷ xs) = events.Fault f

-- the events behind the first; after a fault there are none
abbrev pub left_after : List PlainEvent → List PlainEvent
left_after [] = []
left_after (plain.Sat e ∷ xs) = xs
left_after (plain.Cut ∷ xs) = xs
left_after (plain.Fault f ∷ xs) = []

-- where the first event is a Sat, these are its bindings
abbrev pub AreOfFirst : List PlainEvent → Bindings → Type 0
AreOfFirst [] b = Unit {0}
AreOfFirst (plain.Sat e ∷ xs) b = b ≡ e
AreOfFirst (plain.Cut ∷ xs) b = Unit {0}
AreOfFirst (plain.Fault f ∷ xs) b = Unit {0}
