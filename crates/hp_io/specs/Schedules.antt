-- Which calls are to fail.
use Rattle.std.specs.Prelude.{ℕ, Bool, ◌==◌}
use Rattle.std.specs.List.{list_any}
use Rattle.hp_io.specs.declared.schedule.Schedule.{Schedule}

-- the call of this number is to fail
abbrev pub is_listed : Schedule → ℕ → Bool
is_listed schedule n = list_any (λ m. m == n) schedule.listed.items
