-- What it is to be the first part that is unmet.
use Rattle.std.specs.Prelude.{◌≡◌, ◌<◌, ◌≤◌, ℕ, List, [], length, Some}
use Rattle.hp_syntax.specs.Events.{Satisfied, State, finding}
use Rattle.hp_syntax.specs.Syntax.{Rule}
use Rattle.hp_syntax.specs.Terms.{Term}
use Rattle.hp_syntax.specs.Values.{Bindings}
use Rattle.hp_unmet.specs.Conjunctions.{Conjunction, first_events, matched}

-- the head matches the task; with each number of the parts before this one there is a satisfier before any fault; and
-- with it, and with each greater number of first parts, there is no event
pub record IsFirstUnmet (rules : List Rule) (nest : ℕ) (state : State) (task : Term) (c : Conjunction) (place : ℕ)
    : Type 0 where
  pub bindings : Bindings
  pub matches : matched c task ≡ Some bindings
  pub within : place < length c.parts
  pub fewer : (n : ℕ) → n ≤ place → finding (first_events rules nest state c (Some bindings) n) ≡ Satisfied
  pub more : (n : ℕ) → place < n → first_events rules nest state c (Some bindings) n ≡ []
