-- Atoms that fit one another by their names and numbers of arguments.
use Rattle.std.specs.Prelude.{ℕ, Bool, ◌&&◌, ◌||◌, ◌==◌, nat_le, cond, List, is_some, bytes_eq, true}
use Rattle.std.specs.List.{list_any}
use Rattle.hp_syntax.specs.Checks.{count}
use Rattle.hp_syntax.specs.Syntax.{Atom}
use Rattle.hp_lint.specs.declared.table.Width.{Width}

-- how many arguments an atom has, and whether there may be more, since a tail stands behind them
abbrev pub width : Atom → Width
width a = record { count = count a.args; tailed = is_some a.tail }

-- whether one number of arguments may be both
abbrev pub agree : Width → Width → Bool
agree v w =
    cond v.tailed (w.tailed || nat_le v.count w.count) (cond w.tailed (nat_le w.count v.count) (v.count == w.count))

-- whether an atom has a name, and a number of arguments that agrees
abbrev pub fits_as : List ℕ → Width → Atom → Bool
fits_as name w a = bytes_eq name a.name && agree w (width a)

abbrev pub fits : Atom → Atom → Bool
fits a b = fits_as a.name (width a) b

-- whether an atom fits one of these
abbrev pub fits_any : List Atom → Atom → Bool
fits_any atoms a = list_any (fits a) atoms

-- no argument and a tail: any number of arguments
abbrev pub any_width : Width
any_width = record { count = 0; tailed = true }
