-- Numbers in words.
use Rattle.std.specs.Prelude.{ℕ, ◌+◌, ◌-◌, ◌*◌, Bool, ◌&&◌, ◌||◌, not, nat_le, nat_lt, ◌==◌, cond, length, slice_index, List, [], ◌∷◌, Option, Some, None}
use Rattle.std.specs.List.{list_all}
use Rattle.hp_syntax.specs.Text.{is_digit}

-- something, where a condition holds
abbrev pub only_if : {A : Type 0} → Bool → Option A → Option A
only_if b x = cond b x None

-- a number is `0`, or digits without a leading zero
abbrev pub is_number : List ℕ → Bool
is_number bs =
    nat_lt 0 (length bs) && (list_all is_digit bs && (length bs == 1 || not (slice_index bs 0 == 48)))

-- the number that digits go on to spell
abbrev pub number_from : ℕ → List ℕ → ℕ
number_from n [] = n
number_from n (b ∷ bs) = number_from (n * 10 + (b - 48)) bs

abbrev pub number_within : ℕ → ℕ → List ℕ → Option ℕ
number_within least most bs =
    only_if (is_number bs && (nat_le least (number_from 0 bs) && nat_le (number_from 0 bs) most))
    (Some (number_from 0 bs))
