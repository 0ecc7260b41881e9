-- Terms are compared by their views.
use Rattle.std.proofs.Common.{◌≡◌, ℕ, ℤ, Bool, false, List, bytes_eq, ap, sym}
use Rattle.std.specs.Ordering.{int_eq}
use Rattle.hp_cells.specs.Compared.{is_symbol, is_number}
use Rattle.hp_cells.specs.Shows.{Shows}
use Rattle.hp_cells.specs.declared.keys.View.{View}
use Rattle.hp_cells.specs.declared.keys.View.TheVariants.{Nil, Sym, Num, Cons}
use Rattle.hp_syntax.specs.Terms.{Term}

-- a view is that of the symbol of a name
abbrev pub symbol_seen : List ℕ → View → Bool
symbol_seen name Nil = false
symbol_seen name (Sym own) = bytes_eq name own.now
symbol_seen name (Num n) = false
symbol_seen name (Cons head tail) = false

-- a term that is shown as the symbol of a name is that symbol
pub symbol_shown : (name : List ℕ) (terms : List Term) (v : View) (t : Term) → Shows terms v t
    → symbol_seen name v ≡ is_symbol name t
symbol_shown name terms Nil t h = sym (ap (is_symbol name) h)
symbol_shown name terms (Sym own) t h = sym (ap (is_symbol name) h)
symbol_shown name terms (Num n) t h = sym (ap (is_symbol name) h)
symbol_shown name terms (Cons head tail) t h = sym (ap (is_symbol name) h.whole)

-- a view is that of a number
abbrev pub number_seen : ℤ → View → Bool
number_seen n Nil = false
number_seen n (Sym name) = false
number_seen n (Num own) = int_eq n own
number_seen n (Cons head tail) = false

-- a term that is shown as a number is that number
pub number_shown : (n : ℤ) (terms : List Term) (v : View) (t : Term) → Shows terms v t
    → number_seen n v ≡ is_number n t
number_shown n terms Nil t h = sym (ap (is_number n) h)
number_shown n terms (Sym name) t h = sym (ap (is_number n) h)
number_shown n terms (Num own) t h = sym (ap (is_number n) h)
number_shown n terms (Cons head tail) t h = sym (ap (is_number n) h.whole)
