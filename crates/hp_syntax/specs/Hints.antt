-- Small numbers that tell most names apart.
use Rattle.std.specs.Prelude.{ℕ, ◌+◌, ◌-◌, ◌*◌, ◌%◌, List, length, Option, None, Some, slice_get}

abbrev pub or_zero : Option ℕ → ℕ
or_zero None = 0
or_zero (Some n) = n

-- by the first and the last byte and the length
abbrev pub hint_of : List ℕ → ℕ
hint_of name =
    (or_zero (slice_get name 0) + or_zero (slice_get name (length name - 1)) * 8 + length name % 8 * 32) % 256
