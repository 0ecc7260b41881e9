-- The place of the first item that passes a test.
use Rattle.std.proofs.Common.{rules, ◌≡◌, ◌∙◌, ℕ, suc, Bool, true, false, cond, List, [], ◌∷◌, Some, None, length, refl, ◌+◌, ◌||◌, not, is_some, nat_lt}
use Rattle.std.specs.List.{position, position_or_len, list_any}

a_place : (b : Bool) (n : ℕ) → is_some (cond b (Some n) None) ≡ b
a_place true n = refl
a_place false n = refl

before_end : {X : Type 0} (p : X → Bool) (xs : List X) → nat_lt (position_or_len p xs) (length xs) ≡ list_any p xs
before_end p [] = refl
before_end p (x ∷ xs) =
    let later : nat_lt (position_or_len p xs) (length xs) ≡ list_any p xs = before_end p xs in
    elim (p x) as (λ b. nat_lt (cond (not b) (1 + position_or_len p xs) 0) (suc (length xs)) ≡ (b || list_any p xs)) [
      | true ↦ search rules
      | false ↦ search rules
    ]

-- an item has a place exactly where one passes
pub is_some_position : {X : Type 0} (p : X → Bool) (xs : List X) → is_some (position p xs) ≡ list_any p xs
is_some_position p xs = a_place (nat_lt (position_or_len p xs) (length xs)) (position_or_len p xs) ∙ before_end p xs
