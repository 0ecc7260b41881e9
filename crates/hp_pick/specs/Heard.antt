-- A list that was heard, and the events of it that are left.
use Rattle.std.specs.Prelude.{◌≡◌, ℕ, ◌≤◌, Bool, List, length, drop, Option, Some, None}
use Rattle.std.specs.List.{All}
use Rattle.hp_syntax.specs.Syntax.{Key}
use Rattle.hp_syntax.specs.Terms.{Term}
use Rattle.hp_syntax.specs.Preconditions.{keyed, sorted_events}
use Rattle.hp_eval.specs.Slotted.{Slotted, AreBelow, undone}
use Rattle.hp_eval.specs.Events.{PlainEvent}
use Rattle.hp_pick.specs.declared.heard.Heard.{Heard}
use Rattle.hp_pick.specs.Noted.{IsNoted, noted_events}

-- the events that are left to be given
abbrev pub left_of : List Term → Heard → List PlainEvent
left_of c h = noted_events c (drop h.given h.notes.sats.items) h.notes.cut

-- a list that was heard can be given above the bindings of a mark, and all cells are below the kept number
pub record FitsHeard (mark : ℕ) (h : Heard) (e : Slotted) : Type 0 where
  pub above : mark ≤ length e.trail
  pub below : AreBelow h.kept e
  pub noted : All (IsNoted h.kept (undone mark e)) h.notes.sats.items

-- ---- before a list is heard and behind that

-- all of the list in its order, or its events that are left
abbrev pub rest_in_order : Key → List PlainEvent → List Term → Option Heard → List PlainEvent
rest_in_order k xs c None = sorted_events k.order (keyed k xs)
rest_in_order k xs c (Some h) = left_of c h

-- the base suits the list, which is asked no more once it was heard
abbrev pub SuitsEither : Type 0 → Option Heard → Type 0
SuitsEither suits None = suits
SuitsEither suits (Some h) = Unit {0}

-- the slots fit the list, whose start is the mark, or the heard one
abbrev pub FitsEither : Type 0 → ℕ → ℕ → Option Heard → Slotted → Type 0
FitsEither fits start mark None e = (mark ≡ start) × fits
FitsEither fits start mark (Some h) e = FitsHeard mark h e

-- the number of cells that are kept for the list, or stood when it was heard
abbrev pub kept_of : ℕ → Option Heard → ℕ
kept_of kept None = kept
kept_of kept (Some h) = h.kept

-- no call of the list has failed, or none since it was heard
abbrev pub live_of : Bool → Option Heard → Bool
live_of is_live None = is_live
live_of is_live (Some h) = h.is_live

-- the list isn't closed, or the heard one isn't
abbrev pub open_of : Bool → Option Heard → Bool
open_of is_open None = is_open
open_of is_open (Some h) = h.is_open
