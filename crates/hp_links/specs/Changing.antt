-- The places of parts, and what becomes of frames where parts are hung elsewhere or taken out.
use Rattle.std.specs.Prelude.{◌≡◌, ℕ, ◌+◌, ◌-◌, ◌<◌, ◌≤◌, ◌==◌, not, filter, cond, List, length, Option, Some, None, slice_get, slice_set}
use Rattle.hp_links.specs.declared.links.Part.TheVariants.{Row}
use Rattle.hp_links.specs.declared.links.Span.{Span}
use Rattle.hp_links.specs.Turning.{turned_right}
use Rattle.hp_links.specs.Frames.{Frame, StandFrom}

-- the part of this number is this list
abbrev pub IsSpan : Frame → ℕ → Span → Type 0
IsSpan f k s = slice_get f.parts k ≡ Some (Row s.order s.start s.many)

-- the part of this number is a list
abbrev pub HasSpan : Frame → ℕ → Type 0
HasSpan f k = (s : Span) × IsSpan f k s

-- the first place from one on at which a number stands
pub record IsFirstFrom (rows : List ℕ) (start x place : ℕ) : Type 0 where
  pub later : start ≤ place
  pub there : slice_get rows place ≡ Some x
  pub first : (i : ℕ) → start ≤ i → slice_get rows i ≡ Some x → place ≤ i

-- the list of this number has these parts in its row, each once, and they are parts of it
pub record HasRow (f : Frame) (list : ℕ) (js : List ℕ) : Type 0 where
  pub span : Span
  pub is : IsSpan f list span
  pub many : span.many ≡ length js
  pub stand : StandFrom f.rows span.start js
  pub owned : (i j : ℕ) → slice_get js i ≡ Some j → slice_get f.owners j ≡ Some (Some list)
  pub once : (h i j : ℕ) → slice_get js h ≡ Some j → slice_get js i ≡ Some j → h ≡ i

-- the part stands in the row of its list, if it belongs to one
abbrev pub IsListed : Frame → Option ℕ → ℕ → Type 0
IsListed f None y = Unit {0}
IsListed f (Some list) y = (js : List ℕ) × HasRow f list js × ((i : ℕ) × (slice_get js i ≡ Some y))

-- the place of a part in the row of its list, if it belongs to one
abbrev pub IsSlotOf : Frame → Option ℕ → ℕ → Option ℕ → Type 0
IsSlotOf f None y slot = slot ≡ None
IsSlotOf f (Some list) y slot =
    (place : ℕ) × (slot ≡ Some place) × ((s : Span) × IsSpan f list s × IsFirstFrom f.rows s.start y place)

-- with a number at a place, if there is one
abbrev pub put_at : Option ℕ → ℕ → List ℕ → List ℕ
put_at None x rows = rows
put_at (Some place) x rows = slice_set rows place x

-- the other one of two places from one on
abbrev pub other_of : ℕ → ℕ → ℕ
other_of start place = cond (place == start) (start + 1) start

-- with a part hung into a row, as a part of its list
abbrev pub hung : ℕ → Option ℕ → Option ℕ → Frame → Frame
hung x o slot f =
    record { parts = f.parts; owners = slice_set f.owners x o; rows = put_at slot x f.rows }

-- the number of one part in the place of another's
abbrev pub renamed : ℕ → ℕ → ℕ → ℕ
renamed x y j = cond (j == y) x j

-- a number is greater than that of a list, if there is one
abbrev pub IsAbove : Option ℕ → ℕ → Type 0
IsAbove None x = Unit {0}
IsAbove (Some list) x = list < x

-- numbers without one of them
abbrev pub but : ℕ → List ℕ → List ℕ
but x js = filter (λ j. not (j == x)) js

-- without the part at a place in the row of its list
abbrev pub shortened : ℕ → Span → ℕ → Frame → Frame
shortened list span place f = record {
  parts = slice_set f.parts list (Row span.order (span.start + 1) (span.many - 1));
  owners = f.owners;
  rows = turned_right span.start place f.rows;
}

-- the number of the whole, once a part is hung: in no row, it is the whole
abbrev pub root_after : Option ℕ → ℕ → Option ℕ → Option ℕ
root_after None x root = Some x
root_after (Some place) x root = root
