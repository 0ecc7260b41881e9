-- Places in a text: its lines and columns, both counted from 1, in bytes.
use Rattle.std.specs.Prelude.{ℕ, ◌+◌, ◌==◌, cond, List, [], ◌∷◌, take}

-- how many line feeds there are
abbrev pub feeds : List ℕ → ℕ
feeds [] = 0
feeds (b ∷ bs) = cond (b == 10) 1 0 + feeds bs

-- how many bytes stand behind the last line feed, where so many stand in the line before them
abbrev pub behind_feed : ℕ → List ℕ → ℕ
behind_feed n [] = n
behind_feed n (b ∷ bs) = behind_feed (cond (b == 10) 0 (n + 1)) bs

-- the line of an offset: one more than the line feeds before it
abbrev pub line_of : List ℕ → ℕ → ℕ
line_of text offset = feeds (take offset text) + 1

-- the column of an offset: one more than the bytes before it in its line
abbrev pub column_of : List ℕ → ℕ → ℕ
column_of text offset = behind_feed 0 (take offset text) + 1
