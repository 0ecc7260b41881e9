-- Lists of events of which the same is heard.
use Rattle.std.specs.Prelude.{◌≡◌, Bool, true, false, List}
use Rattle.hp_syntax.specs.Values.{Bindings}
use Rattle.hp_syntax.specs.Events.{Event, finding, negated}
use Rattle.hp_syntax.specs.Preconditions.{heard}

-- the same is heard of two lists of events
abbrev pub AreHeardAlike : List Event → List Event → Type 0
AreHeardAlike xs ys = heard xs ≡ heard ys

-- the events of a part under bindings, or those of its negation
abbrev pub turned : Bool → List Event → Bindings → List Event
turned false xs b = xs
turned true xs b = negated (finding xs) b
