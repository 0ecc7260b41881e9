-- The part of a line that is shown around a place in it. Of a line that isn't long it is the whole line.
use Rattle.std.specs.Prelude.{ℕ, ◌+◌, ◌-◌, ◌<◌, ◌≤◌, min, Bool, ◌&&◌, nat_lt, nat_le, ◌==◌, cond, List, length, slice_index}
use Rattle.hp_places.specs.declared.stretch.TheConstants.{WIDEST, AHEAD}

-- ---- letters

-- a byte that goes on with a letter of several bytes in UTF-8
abbrev pub goes_on : ℕ → Bool
goes_on b = nat_le 128 b && nat_lt b 192

-- an offset of a line, one byte on where a letter goes on there, so that it isn't cut
unfoldable pub moved_on : List ℕ → ℕ → ℕ
moved_on line i = cond (nat_lt i (length line) && goes_on (slice_index line i)) (i + 1) i

-- and one byte back
unfoldable pub moved_back : List ℕ → ℕ → ℕ
moved_back line i = cond (nat_lt i (length line) && goes_on (slice_index line i)) (i - 1) i

-- a letter has four bytes at most
unfoldable pub letter_end : List ℕ → ℕ → ℕ
letter_end line i = moved_on line (moved_on line (moved_on line i))

unfoldable pub letter_start : List ℕ → ℕ → ℕ
letter_start line i = moved_back line (moved_back line (moved_back line i))

-- ---- the part

-- where the part may begin of which the place is the byte behind so many: so far before it, if as many bytes as are
-- shown stand behind that, and not at all behind the front where the line isn't longer than they are
abbrev pub nearest : List ℕ → ℕ → ℕ
nearest line before = min (before - AHEAD) (length line - WIDEST)

-- where it begins: there, or at the next letter
unfoldable pub part_from : List ℕ → ℕ → ℕ
part_from line before = cond (nearest line before == 0) 0 (letter_end line (nearest line before))

-- where the part ends that begins at an offset: at the end of the line, or at the letter behind which it would be too
-- long
unfoldable pub part_to : List ℕ → ℕ → ℕ
part_to line from = cond (nat_le (length line - from) WIDEST) (length line) (letter_start line (from + WIDEST))

-- the place behind so many bytes stands in a part, which isn't too long
pub record HasPlace (before from to : ℕ) : Type 0 where
  pub begins : from ≤ before
  pub ends : before < to
  pub size : to ≤ from + WIDEST
