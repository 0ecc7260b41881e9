-- The faults of expressions that stand far too deep don't depend on their level.
use Rattle.std.proofs.Common.{◌≡◌, ℕ, ◌+◌, ◌-◌, ◌^◌, ◌<◌, min, List, Option, ◌++◌, ◌⊎◌, inl, inr, ap, ◌∙◌, refl, arith}
use Rattle.std.proofs.lemmas.Bool.Decides.{nat_tests, leb_tells}
use Rattle.hp_syntax.specs.declared.pattern.Span.{Span}
use Rattle.hp_syntax.specs.declared.check.CheckFault.{CheckFault}
use Rattle.hp_syntax.specs.Syntax.{Expression, Expressions, Holds, And, Or, Not, Forall, Assign, Test, NoExpression, Also}
use Rattle.hp_syntax.specs.Checks.{InBody, earlier, first_of, level_faults, atom_faults, pattern_faults, expression_faults, expressions_faults}

too_deep : (k m : ℕ) → 25 < k → 25 < m → (s : Span) → level_faults k s ≡ level_faults m s
too_deep k m h j s = grind (arith, nat_tests)

mutual
  unfolding expression_faults expressions_faults

  -- below level 25 an expression's faults are the same at each level
  pub below_levels : (k m : ℕ) → 25 < k → 25 < m → (e : Expression) → expression_faults k e ≡ expression_faults m e
  below_levels k m h j (Holds s a) = ap (λ x. x ++ atom_faults InBody a) (too_deep k m h j s)
  below_levels k m h j (And s parts) =
      cc (too_deep k m h j s, all_below_levels (k + 1) (m + 1) (omega arith) (omega arith) parts)
  below_levels k m h j (Or s parts) =
      cc (too_deep k m h j s, all_below_levels (k + 1) (m + 1) (omega arith) (omega arith) parts)
  below_levels k m h j (Not s part) =
      cc (too_deep k m h j s, below_levels (k + 1) (m + 1) (omega arith) (omega arith) part)
  below_levels k m h j (Forall s vars range body) =
      cc (
        too_deep k m h j s,
        below_levels (k + 1) (m + 1) (omega arith) (omega arith) range,
        below_levels (k + 1) (m + 1) (omega arith) (omega arith) body,
      )
  below_levels k m h j (Assign s v value) = ap (λ x. x ++ pattern_faults InBody value) (too_deep k m h j s)
  below_levels k m h j (Test s call) = ap (λ x. x ++ pattern_faults InBody call) (too_deep k m h j s)

  -- below level 25 the faults of many expressions are the same at each level
  pub all_below_levels : (k m : ℕ) → 25 < k → 25 < m → (es : Expressions)
      → expressions_faults k es ≡ expressions_faults m es
  all_below_levels k m h j NoExpression = refl
  all_below_levels k m h j (Also e es) = cc (below_levels k m h j e, all_below_levels k m h j es)

either : (level n : ℕ) → n ≡ min (level + 1) (2 ^ 64 - 1) → (n ≡ level + 1) ⊎ ((25 < n) × (25 < level + 1))
either level n h =
    elim (leb_tells (level + 1) (2 ^ 64 - 1)) [ inl t ↦ inl (omega arith) | inr t ↦ inr (omega arith, omega arith) ]

module _ {X : Type 0} (faults : ℕ → X → List CheckFault)
    (below : (k m : ℕ) → 25 < k → 25 < m → (x : X) → faults k x ≡ faults m x) where
  -- faults that are the same at each level below 25 are, at a level that is counted up to the end of its type, those at
  -- the next level
  faults-next : (level n : ℕ) (x : X) → n ≡ min (level + 1) (2 ^ 64 - 1) → faults n x ≡ faults (level + 1) x
  faults-next level n x h =
      elim (either level n h) [
        | inl k ↦ ap (λ m. faults m x) k
        | inr k ↦ below n (level + 1) k.0 k.1 x
      ]

  -- so the first of them that is seen is the same
  first_seen : (a b : Option CheckFault) (level n : ℕ) (x y : X) → n ≡ min (level + 1) (2 ^ 64 - 1) → x ≡ y
      → b ≡ earlier a (first_of (faults n x)) → b ≡ earlier a (first_of (faults (level + 1) y))
  first_seen a b level n x y h k m =
      m ∙ ap (λ fs. earlier a (first_of fs)) (ap (faults n) k ∙ faults-next level n y h)

-- the fault of an expression at a level that is counted up to the end of its type is that at the next level
pub seen_next : (a b : Option CheckFault) (level n : ℕ) (d e : Expression) → n ≡ min (level + 1) (2 ^ 64 - 1)
    → d ≡ e → b ≡ earlier a (first_of (expression_faults n d))
    → b ≡ earlier a (first_of (expression_faults (level + 1) e))
seen_next = first_seen expression_faults below_levels

-- the fault of many expressions at a level counted up to the end of its type is that at the next level
pub all_seen_next : (a b : Option CheckFault) (level n : ℕ) (ds es : Expressions) → n ≡ min (level + 1) (2 ^ 64 - 1)
    → ds ≡ es → b ≡ earlier a (first_of (expressions_faults n ds))
    → b ≡ earlier a (first_of (expressions_faults (level + 1) es))
all_seen_next = first_seen expressions_faults all_below_levels
