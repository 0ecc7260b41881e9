-- A linear congruential generator.
use Rattle.std.specs.Prelude.{ℕ, ◌+◌, ◌*◌, ◌/◌, ◌%◌}

-- the state that follows a state
abbrev pub next : ℕ → ℕ
next s = (s * 1103515245 + 12345) % 2147483648

-- the number, below 5, that is drawn at a state
abbrev pub draw : ℕ → ℕ
draw s = s / 65536 % 5
