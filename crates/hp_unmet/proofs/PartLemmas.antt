-- The parts of expressions, and conjunctions of equal variables and parts.
use Rattle.std.proofs.Common.{◌≡◌, ℕ, List, [], ◌∷◌, refl, sym, ap, ap₂, ◌∙◌}
use Rattle.hp_syntax.specs.declared.pattern.Span.{Span}
use Rattle.hp_syntax.specs.Syntax as syntax
use Rattle.hp_syntax.specs.Views.{as_expressions}
use Rattle.hp_unmet.specs.Conjunctions.{Conjunction, conjuncts, listed}

-- what is listed of expressions is all of them
pub listed_again : (es : syntax.Expressions) → as_expressions (listed es) ≡ es
listed_again syntax.NoExpression = refl
listed_again (syntax.Also e es) = ap (λ xs. syntax.Also e xs) (listed_again es)

-- what is made a list of parts is those parts
pub listed_back : (es : List syntax.Expression) → listed (as_expressions es) ≡ es
listed_back [] = refl
listed_back (e ∷ es) = ap (λ xs. e ∷ xs) (listed_back es)

-- an expression that is another one which is its only part is its only part
pub only_part : (e p : syntax.Expression) → e ≡ p → conjuncts p ≡ p ∷ [] → e ∷ [] ≡ conjuncts e
only_part e p q r = ap (λ x. x ∷ []) q ∙ (sym r ∙ sym (ap conjuncts q))

abbrev pub made : Span → List (List ℕ) → syntax.Atom → List syntax.Expression → Conjunction
made s vs head parts = record { span = s; vars = vs; head = head; parts = parts }

-- conjunctions of equal variables and equal parts are equal
pub made_same : (s : Span) (vs ws : List (List ℕ)) (head : syntax.Atom) (ps qs : List syntax.Expression) → vs ≡ ws
    → ps ≡ qs → made s vs head ps ≡ made s ws head qs
made_same s vs ws head ps qs e f = ap₂ (λ v p. made s v head p) e f
