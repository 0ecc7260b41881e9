-- Outcomes of an operator's effects, in memory.
use Rattle.std.specs.Prelude.{◌≡◌, ℕ, ℤ, List, length, Result, Ok, Err}
use Rattle.hp_syntax.specs.Terms.{Term}
use Rattle.hp_syntax.specs.Applying.{ChangesOf}
use Rattle.hp_syntax.specs.Changes.{Changes, Going, Went, CutShort, Failed}
use Rattle.hp_world.specs.Stages.{changes_of, ChangesBelow}
use Rattle.hp_effect.specs.declared.obstacle.Obstacle.{Obstacle}
use Rattle.hp_effect.specs.Gathering.{StopsHere}
use Rattle.hp_satisfiers.specs.declared.effects.EffectsOutcome.{EffectsOutcome}
use Rattle.hp_satisfiers.specs.declared.effects.EffectsOutcome.TheVariants as effected

-- the changes and the cost of an operator
pub record HasGone (going : Going (Changes × ℤ)) (terms : List Term) (changes : ChangesOf ℕ) (cost : ℤ) : Type 0 where
  pub went : going ≡ Went (changes_of terms changes, cost)
  pub below : ChangesBelow (length terms) changes

abbrev pub GoesAll : Result (ChangesOf ℕ × ℤ) Obstacle → Going (Changes × ℤ) → List Term → Type 0
GoesAll (Ok x) going terms = HasGone going terms x.0 x.1
GoesAll (Err obstacle) going terms = StopsHere obstacle going

-- the cost of an operator, whose changes are these
abbrev pub GoesInto : Result ℤ Obstacle → Going (Changes × ℤ) → List Term → ChangesOf ℕ → Type 0
GoesInto (Ok cost) going terms changes = HasGone going terms changes cost
GoesInto (Err obstacle) going terms changes = StopsHere obstacle going

-- an operator's effects come to changes and a cost, or stop at a Cut or at a fault
abbrev pub ComesTo : EffectsOutcome → Going (Changes × ℤ) → List Term → Type 0
ComesTo (effected.Went changes cost) going terms = HasGone going terms changes cost
ComesTo effected.Cut going terms = going ≡ CutShort
ComesTo (effected.Fault f) going terms = going ≡ Failed f
