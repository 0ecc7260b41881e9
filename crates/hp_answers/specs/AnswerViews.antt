-- Events in memory.
use Rattle.std.specs.Prelude.{◌≡◌, ℕ, ◌-◌, Bool, true, false, List, [], ◌∷◌, ◌++◌, map, length, slice_get, Option, None, Some}
use Rattle.std.specs.List.{All}
use Rattle.hp_syntax.specs.Terms.{Term}
use Rattle.hp_syntax.specs.Values.{Bindings}
use Rattle.hp_syntax.specs.Events as plain
use Rattle.hp_syntax.specs.Events.{Event}
use Rattle.hp_laws.specs.HeardAlike.{AreHeardAlike}
use Rattle.hp_eval.specs.declared.event.EvalStop.{EvalStop}
use Rattle.hp_eval.specs.declared.event.EvalStop.TheVariants as stops
use Rattle.hp_eval.specs.Slotted.{Slotted, AreBelow, bindings_of}
use Rattle.hp_answers.specs.declared.answer.Answer.{Answer}
use Rattle.hp_answers.specs.declared.answer.Answer.TheVariants.{Sat, Cut, Fault}
use Rattle.hp_answers.specs.declared.answer.Finding.{Finding}
use Rattle.hp_answers.specs.declared.answer.Finding.TheVariants as findings

abbrev pub answer_event : List Term → Answer → Event
answer_event terms (Sat slots) = plain.Sat (bindings_of terms slots)
answer_event terms Cut = plain.Cut
answer_event terms (Fault f) = plain.Fault f

abbrev pub answer_events : List Term → List Answer → List Event
answer_events terms found = map (answer_event terms) found

-- a Sat binds so many variables, to cells below a count
abbrev pub Fits : ℕ → ℕ → Answer → Type 0
Fits vars n (Sat slots) = (length slots.values ≡ vars) × AreBelow n slots
Fits vars n Cut = Unit {0}
Fits vars n (Fault f) = Unit {0}

abbrev pub AllFit : ℕ → ℕ → List Answer → Type 0
AllFit vars n found = All (Fits vars n) found

-- the answers stand for these events, and each Sat fits
pub record Finds (terms : List Term) (vars : ℕ) (found : List Answer) (events : List Event) : Type 0 where
  pub stand : answer_events terms found ≡ events
  pub fit : AllFit vars (length terms) found

-- the answers so far stand for all events but those that are left
pub record FindsUpTo (terms : List Term) (vars : ℕ) (found : List Answer) (whole left : List Event) : Type 0 where
  pub so_far : whole ≡ answer_events terms found ++ left
  pub fit : AllFit vars (length terms) found

-- the answers are heard as these events are, and each Sat fits
pub record Hears (terms : List Term) (vars : ℕ) (found : List Answer) (events : List Event) : Type 0 where
  pub stand : AreHeardAlike (answer_events terms found) events
  pub fit : AllFit vars (length terms) found

-- all events are heard as the answers so far and those that are left behind them
pub record HearsUpTo (terms : List Term) (vars : ℕ) (found : List Answer) (whole left : List Event) : Type 0 where
  pub so_far : AreHeardAlike whole (answer_events terms found ++ left)
  pub fit : AllFit vars (length terms) found

-- one is found, and it is a fault
abbrev pub is_found_fault : Option Answer → Bool
is_found_fault None = false
is_found_fault (Some (Sat slots)) = false
is_found_fault (Some Cut) = false
is_found_fault (Some (Fault f)) = true

-- the last of a list is a fault
abbrev pub ends_in_fault : List Answer → Bool
ends_in_fault found = is_found_fault (slice_get found (length found - 1))

-- the answers of an evaluation that stopped: its fault
abbrev pub FindsStop : EvalStop → List Answer → Type 0
FindsStop (stops.Fault f) found = found ≡ Fault f ∷ []
FindsStop stops.NoMemory found = ⊥

-- the finding that decides a negation, as the definition has it
abbrev pub finding_of : Finding → plain.Finding
finding_of findings.Satisfied = plain.Satisfied
finding_of (findings.Faulty f) = plain.Faulty f
finding_of findings.Undecided = plain.Undecided
finding_of findings.Nothing = plain.Nothing

-- a Sat binds to cells below a count
abbrev pub BindsBelow : ℕ → Answer → Type 0
BindsBelow n (Sat slots) = AreBelow n slots
BindsBelow n Cut = Unit {0}
BindsBelow n (Fault f) = Unit {0}

-- the slots are of so many variables and have the bindings that match, if any do
abbrev pub MeetsHead : List Term → ℕ → Option Slotted → Option Bindings → Type 0
MeetsHead terms vars None found = found ≡ None
MeetsHead terms vars (Some slots) found =
    (found ≡ Some (bindings_of terms slots)) × (length slots.values ≡ vars) × AreBelow (length terms) slots
