-- Values of evaluations that stopped.
use Rattle.std.proofs.Common.{◌≡◌, ℕ, List, Result, Err, subst}
use Rattle.hp_syntax.specs.declared.fault.RunFault.{RunFault}
use Rattle.hp_syntax.specs.Terms.{Term}
use Rattle.hp_eval.specs.declared.event.EvalStop.{EvalStop}
use Rattle.hp_eval.specs.declared.event.EvalStop.TheVariants as stops
use Rattle.hp_eval.specs.Growth.{Gives, GivesBy}

-- a value stops where an evaluation stopped; for want of memory it is free
abbrev pub StopsAt : {A : Type 0} → EvalStop → Result A RunFault → Type 0
StopsAt (stops.Fault f) value = value ≡ Err f
StopsAt stops.NoMemory value = Unit {0}

-- a stop of an answer by a view is a stop
pub stop_by : {A B : Type 0} (view : A → B) (e : EvalStop) (value : Result B RunFault) → GivesBy view (Err e) value
    → StopsAt e value
stop_by view (stops.Fault f) value h = h
stop_by view stops.NoMemory value h = h

-- a stop of a cell is a stop
pub stop_of_cell : (e : EvalStop) (value : Result Term RunFault) (terms : List Term) → Gives (Err e) value terms
    → StopsAt e value
stop_of_cell (stops.Fault f) value terms h = h
stop_of_cell stops.NoMemory value terms h = h

-- a cell's evaluation that stops gives its stop
pub gives_stop : (e : EvalStop) (value : Result Term RunFault) (terms : List Term) → StopsAt e value
    → Gives (Err e) value terms
gives_stop (stops.Fault f) value terms h = h
gives_stop stops.NoMemory value terms h = h

-- a value stops that is a fault where another one is
pub stops_too : {A B : Type 0} (e : EvalStop) (r : Result A RunFault) (s : Result B RunFault)
    → ((f : RunFault) → r ≡ Err f → s ≡ Err f) → StopsAt e r → StopsAt e s
stops_too (stops.Fault f) r s g h = g f h
stops_too stops.NoMemory r s g h = h

-- an evaluation gives an equal value
pub gives_same : (r : Result ℕ EvalStop) (v w : Result Term RunFault) (terms : List Term) → v ≡ w → Gives r v terms
    → Gives r w terms
gives_same r v w terms e g = subst (λ x. Gives r x terms) e g

-- an evaluation seen by a view that stops gives its stop
pub gives_stop_by : {A B : Type 0} (view : A → B) (e : EvalStop) (value : Result B RunFault) → StopsAt e value
    → GivesBy view (Err e) value
gives_stop_by view (stops.Fault f) value h = h
gives_stop_by view stops.NoMemory value h = h
