-- A place of a text as it is shown: where it is, a sentence, its line, and carets below what is meant.
use Rattle.std.specs.Prelude.{ℕ, ◌-◌, min, max, Bool, nat_lt, ◌==◌, cond, List, [], ◌∷◌, ◌++◌, length, take, drop, map, replicate, slice_index, slice_range, codes, decimal}
use Rattle.hp_syntax.specs.declared.pattern.Span.{Span}
use Rattle.hp_places.specs.Places.{behind_feed, line_of, column_of}
use Rattle.hp_places.specs.Stretches.{part_from, part_to}

-- ---- the line

-- the bytes up to the first line feed
abbrev pub until_feed : List ℕ → List ℕ
until_feed [] = []
until_feed (b ∷ bs) = cond (b == 10) [] (b ∷ until_feed bs)

-- a line without the carriage return at its end
abbrev pub without_return : List ℕ → List ℕ
without_return line = cond (slice_index line (length line - 1) == 13) (take (length line - 1) line) line

-- the offset at which the line of an offset begins
abbrev pub line_start : List ℕ → ℕ → ℕ
line_start text offset = min offset (length text) - behind_feed 0 (take offset text)

-- the line of an offset, without what ends it
abbrev pub line_at : List ℕ → ℕ → List ℕ
line_at text offset = without_return (until_feed (drop (line_start text offset) text))

-- ---- the carets

-- as many blanks as there are bytes, but a tab stays one
abbrev pub indent : List ℕ → List ℕ
indent bytes = map (λ b. cond (b == 9) 9 32) bytes

-- a caret below each byte of a line behind so many others, up to so many, but one at least
abbrev pub carets : List ℕ → ℕ → ℕ → List ℕ
carets line before width = replicate (max 1 (min width (length line - before))) 94

-- blanks below what stands before a span in its line, and carets below what of the span stands there
abbrev pub caret_line : List ℕ → ℕ → ℕ → List ℕ
caret_line line before width = indent (take before line) ++ carets line before width

-- ---- a part of the line

-- what stands where the line goes on
abbrev pub dots : Bool → List ℕ
dots goes_on = cond goes_on (codes "...") []

-- a part of a line, with dots where the line goes on
abbrev pub part_line : List ℕ → ℕ → ℕ → List ℕ
part_line line from to =
    dots (nat_lt 0 from) ++ slice_range line from to ++ dots (nat_lt to (length line)) ++ codes "\n"

-- and the carets below it
abbrev pub part_carets : List ℕ → ℕ → ℕ → ℕ → ℕ → List ℕ
part_carets line from to before width =
    indent (dots (nat_lt 0 from)) ++ caret_line (slice_range line from to) (before - from) width ++ codes "\n"

-- both, of the part around the place behind so many bytes that begins at an offset
abbrev pub marked_part : List ℕ → ℕ → ℕ → ℕ → List ℕ
marked_part line from before width =
    part_line line from (part_to line from) ++ part_carets line from (part_to line from) before width

-- ---- all of it

-- `FILE:LINE:COLUMN: SENTENCE`
abbrev pub headline : List ℕ → ℕ → ℕ → List ℕ → List ℕ
headline name line column sentence =
    name ++ codes ":" ++ decimal line ++ codes ":" ++ decimal column ++ codes ": " ++ sentence ++ codes "\n"

-- the line in which a span begins, or a part of it around the place, and the carets below it
abbrev pub marked : List ℕ → ℕ → Span → List ℕ
marked line column s = marked_part line (part_from line (column - 1)) (column - 1) (s.to - s.from)

-- a span of a text as it is shown, by the name of the file and a sentence
abbrev pub shown : List ℕ → List ℕ → Span → List ℕ → List ℕ
shown name text s sentence =
    headline name (line_of text s.from) (column_of text s.from) sentence
    ++ marked (line_at text s.from) (column_of text s.from) s
