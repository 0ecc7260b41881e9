-- The offsets at which the lines of a text begin.
use Rattle.std.specs.Prelude.{ℕ, ◌+◌, ◌<◌, ◌≤◌, ◌==◌, cond, List, [], ◌∷◌, ◌++◌, length, drop, slice_index, slice_index_or, slice_range, min, ◌≡◌, ◌-◌}
use Rattle.hp_places.specs.Places.{line_of, column_of}
use Rattle.hp_places.specs.Shown.{line_start, until_feed}

-- the offsets behind the line feeds of the bytes from an offset on
abbrev pub starts_from : ℕ → List ℕ → List ℕ
starts_from offset [] = []
starts_from offset (b ∷ bs) = cond (b == 10) ((offset + 1) ∷ []) [] ++ starts_from (offset + 1) bs

-- the first line begins at the front, and each other one behind a line feed
abbrev pub line_starts : List ℕ → List ℕ
line_starts text = 0 ∷ starts_from 0 text

-- the i-th is the last of these offsets that isn't behind a given one
pub record IsLast (starts : List ℕ) (offset i : ℕ) : Type 0 where
  pub within : i < length starts
  pub begins : slice_index starts i ≤ offset
  pub ends : i + 1 < length starts → offset < slice_index starts (i + 1)

-- the line of an offset begins at the i-th of these offsets
pub record IsFound (text : List ℕ) (offset i : ℕ) : Type 0 where
  pub within : i < length (line_starts text)
  pub line : i + 1 ≡ line_of text offset
  pub column : min offset (length text) - slice_index (line_starts text) i + 1 ≡ column_of text offset
  pub start : slice_index (line_starts text) i ≡ line_start text offset

-- where the line behind the i-th of these offsets begins, as if a line feed ended the text
abbrev pub next_start : List ℕ → ℕ → ℕ → ℕ
next_start starts size i = slice_index_or starts (i + 1) (size + 1)

-- the bytes of a line that begins at an offset go up to another one
pub record IsLine (text : List ℕ) (from to : ℕ) : Type 0 where
  pub order : from ≤ to
  pub within : to ≤ length text
  pub bytes : until_feed (drop from text) ≡ slice_range text from to
