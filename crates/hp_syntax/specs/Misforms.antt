-- Where a forest is refused.
use Rattle.hp_syntax.specs.declared.pattern.Span.{Span}
use Rattle.hp_syntax.specs.Steps.{Misform, Expected}

-- the span at which something else is wanted
abbrev pub misform_span : Misform → Span
misform_span (Expected what span) = span
