-- What holds where an event isn't the last.
use Rattle.std.proofs.Common.{Option, Some, None}
use Rattle.hp_eval.specs.declared.event.Event.{Event}
use Rattle.hp_eval.specs.declared.event.Event.TheVariants.{Sat, Cut, Fault, End}
use Rattle.hp_suspended.specs.Answering.{GoesOn, MayGoOn}

-- what holds anyway holds there
pub goes_on : (x : Event) (P : Type 0) → P → GoesOn x P
goes_on Sat P p = p
goes_on Cut P p = p
goes_on (Fault e) P p = tt
goes_on End P p = tt

-- so it does where there may be no event
pub may_go_on : (o : Option Event) (P : Type 0) → P → MayGoOn o P
may_go_on None P p = p
may_go_on (Some x) P p = goes_on x P p

-- what follows from it holds too
pub goes_through : (x : Event) (P Q : Type 0) → (P → Q) → GoesOn x P → GoesOn x Q
goes_through Sat P Q f p = f p
goes_through Cut P Q f p = f p
goes_through (Fault e) P Q f p = tt
goes_through End P Q f p = tt
