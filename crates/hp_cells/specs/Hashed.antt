-- Keys as they are hashed.
use Rattle.std.specs.Prelude.{ℕ, ◌+◌, ◌*◌, ◌^◌, List}
use Rattle.std.specs.Hash as fed
use Rattle.hp_cells.specs.declared.keys.Key.{Key}
use Rattle.hp_cells.specs.declared.keys.Key.TheVariants.{Nil, Sym, Num, Cons}

-- what a key is hashed by
abbrev pub hashed_key : Key → List (List ℕ)
hashed_key Nil = fed.u64 0
hashed_key (Sym number) = fed.u64 (2 ^ 63 + number)
hashed_key (Num n) = fed.i64 n
hashed_key (Cons head tail) = fed.u64 (head * 2 ^ 32 + tail)
