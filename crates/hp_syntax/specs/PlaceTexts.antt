-- The text of a place in a text.
use Rattle.std.specs.Prelude.{ℕ, List, ◌++◌, codes, decimal}
use Rattle.hp_syntax.specs.declared.pattern.Span.{Span}

-- `FROM-TO`
abbrev pub span_text : Span → List ℕ
span_text s = decimal s.from ++ codes "-" ++ decimal s.to

-- `WORD at OFFSET`
abbrev pub at_offset : List ℕ → ℕ → List ℕ
at_offset word offset = word ++ codes " at " ++ decimal offset

-- `WORD at FROM-TO`
abbrev pub at_span : List ℕ → Span → List ℕ
at_span word s = word ++ codes " at " ++ span_text s
