-- What is known of the node where a walk stands.
use Rattle.std.proofs.Common.{◌≡◌, ℕ, Option, Some, None, MatchOption, refl, subst}
use Rattle.std.proofs.lemmas.Option.{MatchOption-at_some}
use Rattle.hp_search.specs.Planned.{Planned}
use Rattle.hp_syntax.specs.Events.{State}
use Rattle.hp_unmet.specs.States.{InStateOf}

-- what is known of the node reached is known of that node
pub at_that : {A : Type 0} (o : Option A) (P : A → Type 0) (n : A) → o ≡ Some n → MatchOption o ⊥ P → P n
at_that o P n at h = MatchOption-at_some ⊥ P n at h

-- more is known of it, where more follows
pub at_node : {A : Type 0} (o : Option A) (P Q : A → Type 0) → MatchOption o ⊥ P → ((n : A) → o ≡ Some n → P n → Q n)
    → MatchOption o ⊥ Q
at_node None P Q h f = h
at_node (Some n) P Q h f = f n refl h

-- what holds where a walk stands holds where the same walk stands
pub in_same : (p q : Planned) (P : ℕ → State → Type 0) → q ≡ p → InStateOf q P → InStateOf p P
in_same p q P e h = subst (λ r. InStateOf r P) e h
