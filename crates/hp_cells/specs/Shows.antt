-- Views of terms.
use Rattle.std.specs.Prelude.{◌≡◌, ℕ, ◌<◌, List}
use Rattle.hp_syntax.specs.Terms.{Term, Symbol, Number, Listed, NoTerm}
use Rattle.hp_cells.specs.Cells.{IsCons}
use Rattle.hp_cells.specs.declared.keys.View.{View}
use Rattle.hp_cells.specs.declared.keys.View.TheVariants.{Nil, Sym, Num, Cons}

-- the view is that of the term, where cells name these terms
abbrev pub Shows : List Term → View → Term → Type 0
Shows terms Nil t = t ≡ Listed NoTerm
Shows terms (Sym name) t = t ≡ Symbol name.now
Shows terms (Num n) t = t ≡ Number n
Shows terms (Cons head tail) t = IsCons terms head tail t

-- the view names only cells before this one
abbrev pub LooksBack : ℕ → View → Type 0
LooksBack cell Nil = Unit {0}
LooksBack cell (Sym name) = Unit {0}
LooksBack cell (Num n) = Unit {0}
LooksBack cell (Cons head tail) = (head < cell) × (tail < cell)
