-- The line of each refusal.
use Rattle.std.specs.Prelude.{ℕ, List}
use Rattle.hp_out.specs.declared.refusal.Refusal.{Refusal}
use Rattle.hp_out.specs.declared.refusal.Refusal.TheVariants.{Usage, Read, Text, Form, Check, NoPair}
use Rattle.hp_syntax.specs.PlaceTexts.{at_offset, at_span}
use Rattle.hp_out.specs.Lines.{kind_word, check_word, text_of, expected_text, no_pair_line}
use Rattle.hp_out.specs.Lines.{refused_usage, refused_read, refused_line}

abbrev pub refusal_text : Refusal → List ℕ
refusal_text Usage = refused_usage
refusal_text (Read which) = refused_read which
refusal_text (Text which kind offset) = refused_line which (at_offset (kind_word kind) offset)
refusal_text (Form which what span) = refused_line which (expected_text what span)
refusal_text (Check fault) = refused_line (text_of fault.in_problem) (at_span (check_word fault.kind) fault.span)
refusal_text (NoPair number count) = no_pair_line number count
