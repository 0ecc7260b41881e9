-- Terms that are compared with a symbol or with a number.
use Rattle.std.specs.Prelude.{ℕ, ℤ, Bool, false, List, bytes_eq}
use Rattle.std.specs.Ordering.{int_eq}
use Rattle.hp_syntax.specs.Terms.{Term, Symbol, Number, Listed}

-- the term is the symbol of this name
abbrev pub is_symbol : List ℕ → Term → Bool
is_symbol name (Symbol own) = bytes_eq name own
is_symbol name (Number m) = false
is_symbol name (Listed ts) = false

-- the term is this number
abbrev pub is_number : ℤ → Term → Bool
is_number n (Symbol name) = false
is_number n (Number m) = int_eq n m
is_number n (Listed ts) = false
