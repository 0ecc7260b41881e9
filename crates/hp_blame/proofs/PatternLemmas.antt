-- The first pattern that has a span, kind by kind.
use Rattle.std.proofs.Common.{◌≡◌, refl, Bool, true, false, cond, Option, Some, None, sym, ap, ◌∙◌}
use Rattle.hp_syntax.specs.declared.pattern.Pat.{Pat}
use Rattle.hp_syntax.specs.declared.pattern.Span.{Span}
use Rattle.hp_syntax.specs.Changes.{pattern_span}
use Rattle.hp_syntax.specs.Syntax as syntax
use Rattle.hp_syntax.specs.Syntax.{Pattern, Patterns}
use Rattle.hp_syntax.specs.ViewLaws.{pattern_span-of}
use Rattle.hp_syntax.specs.Views.{pattern_of}
use Rattle.hp_blame.specs.Patterns.{is_span, pattern_at, patterns_at}

-- what may be inside a pattern
abbrev pub inside : Span → Pattern → Option Pattern
inside s (syntax.Variable own v) = None
inside s (syntax.Symbol own name) = None
inside s (syntax.Number own n) = None
inside s (syntax.Listing own parts tail) = patterns_at s parts
inside s (syntax.Call own name args) = patterns_at s args

at_pattern : (s : Span) (p : Pattern) → pattern_at s p ≡ cond (is_span (pattern_span p) s) (Some p) (inside s p)
unfolding pattern_at
at_pattern s (syntax.Variable own v) = refl
at_pattern s (syntax.Symbol own name) = refl
at_pattern s (syntax.Number own n) = refl
at_pattern s (syntax.Listing own parts tail) = refl
at_pattern s (syntax.Call own name args) = refl

module _ (s : Span) (p : Pat) where
  by_own : (b : Bool) → b ≡ is_span p.span s → pattern_at s (pattern_of p) ≡ cond b (Some (pattern_of p)) (inside s (pattern_of p))
  by_own b e =
      at_pattern s (pattern_of p)
      ∙ ap (λ c. cond c (Some (pattern_of p)) (inside s (pattern_of p)))
      (ap (λ t. is_span t s) (pattern_span-of p) ∙ sym e)

  -- a pattern of the span is the first
  pub is_there : (b : Bool) → b ≡ is_span p.span s → b ≡ true → Some (pattern_of p) ≡ pattern_at s (pattern_of p)
  is_there b e t =
      sym (by_own b e ∙ ap (λ c. cond c (Some (pattern_of p)) (inside s (pattern_of p))) t)

  -- of one of another span the first inside it is the first
  pub is_inside : (b : Bool) → b ≡ is_span p.span s → b ≡ false → (q : Pattern) → pattern_of p ≡ q
      → inside s q ≡ pattern_at s (pattern_of p)
  is_inside b e f q same =
      sym (by_own b e ∙ (ap (λ c. cond c (Some (pattern_of p)) (inside s (pattern_of p))) f ∙ ap (inside s) same))
