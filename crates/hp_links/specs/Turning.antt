-- Rows of which a part is turned by one place.
use Rattle.std.specs.Prelude.{ℕ, List, slice_index_or}
use Rattle.std.specs.List.{insert, remove}

-- the number at the end stands at the start, and the others one place later
abbrev pub turned_right : ℕ → ℕ → List ℕ → List ℕ
turned_right start end rows = insert (remove rows end) start (slice_index_or rows end 0)

-- the number at the start stands at the end, and the others one place earlier
abbrev pub turned_left : ℕ → ℕ → List ℕ → List ℕ
turned_left start end rows = insert (remove rows start) end (slice_index_or rows start 0)
