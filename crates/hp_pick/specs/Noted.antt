-- Notes on satisfiers while their whole list is heard.
use Rattle.std.specs.Prelude.{◌≡◌, ℕ, ◌<◌, ◌^◌, Bool, true, false, cond, ◌||◌, ℤ, List, [], ◌∷◌, ◌++◌, map, length, Option, Some, None, slice_get, Result, Ok, Err}
use Rattle.hp_syntax.specs.declared.pattern.Span.{Span}
use Rattle.hp_syntax.specs.declared.fault.RunFault.{RunFault}
use Rattle.hp_syntax.specs.declared.fault.FaultKind.TheVariants.{NotGround}
use Rattle.hp_syntax.specs.Syntax.{Key}
use Rattle.hp_syntax.specs.Terms.{Term}
use Rattle.hp_syntax.specs.Calls.{fault_at}
use Rattle.hp_syntax.specs.Values.{Bindings, bound}
use Rattle.hp_syntax.specs.Events.{Sat, Cut, Fault}
use Rattle.hp_syntax.specs.Preconditions.{Keyed, Keys, NoKey, keyed_by}
use Rattle.hp_eval.specs.declared.event.EvalStop.{EvalStop}
use Rattle.hp_eval.specs.declared.event.EvalStop.TheVariants as stops
use Rattle.hp_eval.specs.CallRows.{number_of}
use Rattle.hp_eval.specs.Slotted.{Slotted, slotted, AreBelow, named}
use Rattle.hp_eval.specs.Events.{PlainEvent}
use Rattle.hp_pick.specs.declared.noted.Noted.{Noted}
use Rattle.hp_pick.specs.declared.noted.NotedSats.{NotedSats}

-- the number that a variable's term is, or the fault where it is none
abbrev pub number_at : Span → Option Term → Result ℤ RunFault
number_at s None = Err (fault_at NotGround s)
number_at s (Some t) = number_of s t

-- the entry of a satisfier: its number, and its bindings
abbrev pub entry_of : List Term → Noted → ℤ × Bindings
entry_of c n = (n.number, map (named c) n.values.items)

-- satisfiers in their order, and a Cut behind them where there was one
abbrev pub noted_events : List Term → List Noted → Bool → List PlainEvent
noted_events c ns cut = map (λ x. Sat x.1) (map (entry_of c) ns) ++ cond cut (Cut ∷ []) []

-- as many values, which keep the cells that variables stood for before
pub record KeepsCells (values : List (Option ℕ)) (start : Slotted) : Type 0 where
  pub as_many : length start.values ≡ length values
  pub keeps : (v cell : ℕ) → slice_get start.values v ≡ Some (Some cell) → slice_get values v ≡ Some (Some cell)

-- the values of a satisfier keep those of the start, and their cells are below a count
pub record IsNoted (count : ℕ) (start : Slotted) (n : Noted) : Type 0 where
  pub extends : KeepsCells n.values.items start
  pub below : AreBelow count (slotted n.values.items [])
  pub few : length n.values.items < 2 ^ 32

-- the notes on a prefix of a list, with the entries of the remainder
abbrev pub with_notes : List Term → NotedSats → Keyed → Keyed
with_notes c notes (NoKey f) = NoKey f
with_notes c notes (Keys xs cut) = Keys (map (entry_of c) notes.sats.items ++ xs) (notes.cut || cut)

-- a Sat with these bindings is noted, or its variable's fault is answered; for want of memory the answer is free
abbrev pub AddsSat : Key → List Term → Result (Unit {0}) EvalStop → Bindings → NotedSats → NotedSats → Type 0
AddsSat k c (Ok done) e old new =
    (rest : Keyed) → with_notes c old (keyed_by k.span (bound e k.var) e rest) ≡ with_notes c new rest
AddsSat k c (Err (stops.Fault f)) e old new = (rest : Keyed) → keyed_by k.span (bound e k.var) e rest ≡ NoKey f
AddsSat k c (Err stops.NoMemory) e old new = Unit {0}

-- an event is heard: the whole is the notes with the entries that are left, or at the end the notes alone, or else the
-- fault
abbrev pub HearsOn : Result Bool EvalStop → Keyed → Keyed → Keyed → Type 0
HearsOn (Ok true) whole left alone = whole ≡ left
HearsOn (Ok false) whole left alone = whole ≡ alone
HearsOn (Err (stops.Fault f)) whole left alone = whole ≡ NoKey f
HearsOn (Err stops.NoMemory) whole left alone = Unit {0}

-- a whole list is heard: its entries are the notes alone, or it is the fault; for want of memory the answer is free
abbrev pub Hears : List Term → Result NotedSats EvalStop → Keyed → Type 0
Hears c (Ok notes) whole = whole ≡ with_notes c notes (Keys [] false)
Hears c (Err (stops.Fault f)) whole = whole ≡ NoKey f
Hears c (Err stops.NoMemory) whole = Unit {0}

-- a whole list is heard and put in order: its events are the satisfiers and a Cut behind them, or the fault
abbrev pub HearsInOrder : List Term → Result NotedSats EvalStop → List PlainEvent → Type 0
HearsInOrder c (Ok notes) whole = whole ≡ noted_events c notes.sats.items notes.cut
HearsInOrder c (Err (stops.Fault f)) whole = whole ≡ Fault f ∷ []
HearsInOrder c (Err stops.NoMemory) whole = Unit {0}
