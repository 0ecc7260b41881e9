-- Costs of patterns.
use Rattle.std.specs.Prelude.{◌≡◌, ℕ, ℤ, List, Option, Some, None, Ok}
use Rattle.std.proofs.Common.{refl, ap, sym, ◌∙◌}
use Rattle.hp_syntax.specs.declared.pattern.Span.{Span}
use Rattle.hp_syntax.specs.declared.pattern.Pat.{Pat}
use Rattle.hp_syntax.specs.declared.pattern.PatKind.TheVariants as pats
use Rattle.hp_syntax.specs.declared.fault.FaultKind.TheVariants.{NotNumber}
use Rattle.hp_syntax.specs.Terms.{Term, Symbol, Number, Listed}
use Rattle.hp_syntax.specs.Calls.{fault_at}
use Rattle.hp_syntax.specs.Values as plain
use Rattle.hp_syntax.specs.Values.{Bindings}
use Rattle.hp_syntax.specs.Changes.{Going, Went, Failed, pattern_span, cost_of, cost_value, and_go, go_on}
use Rattle.hp_syntax.specs.Views.{pattern_of}
use Rattle.hp_syntax.specs.ViewLaws.{pattern_span-of}
use Rattle.hp_cells.specs.Cells.{IsCons}
use Rattle.hp_eval.proofs.ValueSteps.{value_of-num}
use Rattle.hp_effect.specs.Costs.{number_in}

-- a number costs that, and nothing else costs anything
abbrev pub went_or : Span → Option ℤ → Going ℤ
went_or s (Some n) = Went n
went_or s None = Failed (fault_at NotNumber s)

by_number : (s : Span) (t : Term) → cost_of s t ≡ went_or s (number_in t)
by_number s (Symbol name) = refl
by_number s (Number n) = refl
by_number s (Listed ts) = refl

-- the cost of a pattern is the number that its value is, or a fault at the pattern
pub cost_of_value : (p : Pat) (e : Bindings) (t : Term) (o : Option ℤ) → plain.value (pattern_of p) e ≡ Ok t
    → o ≡ number_in t → cost_value (pattern_of p) e ≡ went_or p.span o
cost_of_value p e t o h k =
    ap (λ r. and_go (go_on r) (cost_of (pattern_span (pattern_of p)))) h
    ∙ ap (λ s. cost_of s t) (pattern_span-of p) ∙ by_number p.span t ∙ ap (went_or p.span) (sym k)

-- a written number costs that
pub cost_of_number : (p : Pat) (e : Bindings) (n : ℤ) → p.kind ≡ pats.Num n → cost_value (pattern_of p) e ≡ Went n
cost_of_number p e n h = cost_of_value p e (Number n) (Some n) (value_of-num p e n h) refl

-- a list is no number
pub no_number : (terms : List Term) (head tail : ℕ) (t : Term) → IsCons terms head tail t → None ≡ number_in t
no_number terms head tail t h = sym (ap number_in h.whole)
