-- The first satisfier of events that passes a test, and the values of variables.
use Rattle.std.specs.Prelude.{Bool, true, cond, List, [], ◌∷◌, map, Option, None, Some, Vec}
use Rattle.std.specs.Global.{Global}
use Rattle.std.specs.Option.{option_map}
use Rattle.hp_syntax.specs.declared.pattern.Ground.{Ground}
use Rattle.hp_syntax.specs.Events.{Event, Sat, Cut, Fault}
use Rattle.hp_syntax.specs.GroundViews.{ground_of}
use Rattle.hp_syntax.specs.Values.{Bindings}

-- the bindings of the first satisfier that passes a test, past cuts and other satisfiers, where no fault comes before it
abbrev pub first_that : (Bindings → Bool) → List Event → Option Bindings
first_that passes [] = None
first_that passes (Sat e ∷ more) = cond (passes e) (Some e) (first_that passes more)
first_that passes (Cut ∷ more) = first_that passes more
first_that passes (Fault f ∷ more) = None

-- the bindings of the first satisfier, past cuts, where no fault comes before it
abbrev pub first_sat : List Event → Option Bindings
first_sat events = first_that (λ e. true) events

-- the bindings that values of variables in memory of their own are
abbrev pub values_of : Vec (Option Ground) Global → Bindings
values_of values = map (option_map ground_of) values.items
