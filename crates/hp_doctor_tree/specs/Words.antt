-- The words of which a drawing is made.
use Rattle.std.specs.Prelude.{ℕ, ◌==◌, cond, List, [], ◌∷◌, ◌++◌, flat_map, Option, Some, None, codes, decimal}
use Rattle.hp_doctor.specs.Texts.{File}
use Rattle.hp_places.specs.Places.{column_of, line_of}

-- words behind a mark, where there are any
abbrev pub marked : List ℕ → List ℕ → List ℕ
marked mark [] = []
marked mark (b ∷ bs) = mark ++ (b ∷ bs)

-- a byte as it stands between quotation marks in the language of graphs: a backslash is doubled
abbrev pub escaped_byte : ℕ → List ℕ
escaped_byte b = cond (b == 92) (92 ∷ 92 ∷ []) (b ∷ [])

abbrev pub escaped : List ℕ → List ℕ
escaped bytes = flat_map escaped_byte bytes

-- `:LINE:COLUMN`
abbrev pub line_and_column : List ℕ → ℕ → List ℕ
line_and_column text offset = codes ":" ++ decimal (line_of text offset) ++ codes ":" ++ decimal (column_of text offset)

abbrev pub place_by : Option (List ℕ) → ℕ → List ℕ
place_by None offset = []
place_by (Some text) offset = line_and_column text offset

-- `FILE:LINE:COLUMN`, or the name alone where the text isn't there
abbrev pub place_text : File → ℕ → List ℕ
place_text f offset = f.name ++ place_by f.text offset
