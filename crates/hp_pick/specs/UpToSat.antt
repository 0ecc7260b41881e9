-- Events up to the first Sat.
use Rattle.std.specs.Prelude.{◌≡◌, Bool, true, false, cond, List, []}
use Rattle.std.specs.List.{All}
use Rattle.std.proofs.Common.{ap}
use Rattle.std.proofs.lemmas.List.Elements.{All-nil}
use Rattle.hp_syntax.specs.Events as plain
use Rattle.hp_syntax.specs.Preconditions.{up_to_sat}
use Rattle.hp_laws.proofs.HearingLemmas.{all_up_to}
use Rattle.hp_eval.specs.declared.event.Event.{Event}
use Rattle.hp_eval.specs.declared.event.Event.TheVariants as events
use Rattle.hp_eval.specs.Events.{PlainEvent}

-- an event is a Sat
abbrev pub is_sat : Event → Bool
is_sat events.Sat = true
is_sat events.Cut = false
is_sat (events.Fault f) = false
is_sat events.End = false

-- equal lists are equal up to the first Sat
pub first_same : {xs ys : List PlainEvent} (ended : Bool) → xs ≡ ys
    → cond ended [] (up_to_sat xs) ≡ cond ended [] (up_to_sat ys)
first_same ended h = ap (λ zs. cond ended [] (up_to_sat zs)) h

-- a fact of each event is one of each up to the first Sat; once a Sat was given none is left
pub first_extend : (P : PlainEvent → Type 0) (ended : Bool) (xs : List PlainEvent) → All P xs
    → All P (cond ended [] (up_to_sat xs))
first_extend P true xs h = All-nil P
first_extend P false xs h = all_up_to plain.is_sat P xs h
