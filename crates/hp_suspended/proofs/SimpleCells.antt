-- The cells of what variables, symbols and numbers stand for.
use Rattle.std.proofs.Common.{◌≡◌, ℕ, List, length, slice_get, Bool, true, false, Option, Some, None, is_some, refl, sym, ap, ◌∙◌}
use Rattle.std.specs.Prelude.{ℤ, IfSome, is_none, not, option_map}
use Rattle.std.proofs.lemmas.Bool.{or_left}
use Rattle.std.proofs.lemmas.Option.{none-some, slice_get-map}
use Rattle.hp_syntax.specs.declared.pattern.Span.{Span}
use Rattle.hp_syntax.specs.Syntax.{Pattern, Patterns, Variable, Before}
use Rattle.hp_syntax.specs.Syntax as syntax
use Rattle.hp_syntax.specs.Terms.{Term, Symbol, Number}
use Rattle.hp_syntax.specs.Values.{Bindings, flat_option}
use Rattle.hp_syntax.specs.Goals.{fill_variable}
use Rattle.hp_cells.specs.Cells.{LooksUp}
use Rattle.hp_eval.specs.GoalViews.{term_at}
use Rattle.hp_eval.specs.Slotted.{Slotted, AreBelow, bindings_of, flat, named}
use Rattle.hp_eval.proofs.CellViews.{named_at}
use Rattle.hp_eval.proofs.SlotLemmas.{bindings_some}
use Rattle.hp_suspended.specs.SimpleAtoms.{IsCellOf, is_free, part_filled, some_free}

-- a place that holds a cell is there
held : (o : Option (Option ℕ)) (cell : ℕ) → flat o ≡ Some cell → o ≡ Some (Some cell)
held None cell h = absurd (none-some cell h)
held (Some o) cell h = ap Some h

-- the cell of a variable, if it is bound, is that of its term
pub variable_cell : (terms : List Term) (s : Slotted) → AreBelow (length terms) s → (p : Pattern) (x : Span) (v : ℕ)
    → p ≡ Variable x v → (o : Option ℕ) → o ≡ flat (slice_get s.values v)
    → IfSome o (IsCellOf terms (bindings_of terms s) p)
variable_cell terms s below p x v is None h = tt
variable_cell terms s below p x v is (Some cell) h =
    let there = held (slice_get s.values v) cell (sym h) in
    let names = named_at terms cell (below v cell there) in
    let bound_to = bindings_some terms s v cell (term_at terms cell) there names in (
      term_at terms cell,
      names,
      ap (λ q. part_filled q (bindings_of terms s)) is ∙ ap (λ o. fill_variable v (flat_option o)) bound_to,
    )

-- the cell of a symbol, if it stands, is that of what the symbol is filled to
pub symbol_cell : (terms : List Term) (e : Bindings) (p : Pattern) (x : Span) (name : List ℕ)
    → p ≡ syntax.Symbol x name → (o : Option ℕ) → LooksUp (Symbol name) terms o → IfSome o (IsCellOf terms e p)
symbol_cell terms e p x name is None h = tt
symbol_cell terms e p x name is (Some cell) h = (Symbol name, h, ap (λ q. part_filled q e) is)

-- the cell of a number, if it stands, is that of what the number is filled to
pub number_cell : (terms : List Term) (e : Bindings) (p : Pattern) (x : Span) (n : ℤ)
    → p ≡ syntax.Number x n → (o : Option ℕ) → LooksUp (Number n) terms o → IfSome o (IsCellOf terms e p)
number_cell terms e p x n is None h = tt
number_cell terms e p x n is (Some cell) h = (Number n, h, ap (λ q. part_filled q e) is)

-- a variable without a cell stands for nothing
pub free_there : (terms : List Term) (s : Slotted) (p : Pattern) (x : Span) (v : ℕ) (ps : Patterns)
    → p ≡ Variable x v → (o : Option ℕ) (r : Bool) → o ≡ flat (slice_get s.values v) → is_some o ≡ not r → r ≡ true
    → some_free (Before p ps) (bindings_of terms s) ≡ true
free_there terms s p x v ps is o r h tells holds =
    or_left (is_free p (bindings_of terms s)) (some_free ps (bindings_of terms s))
    (ap (λ q. is_free q (bindings_of terms s)) is
    ∙ (ap (λ y. is_none (flat_option y)) (slice_get-map (named terms) s.values v)
    ∙ by (slice_get s.values v) (sym (ap is_some h) ∙ (tells ∙ ap not holds))))
  where
    by : (y : Option (Option ℕ)) → is_some (flat y) ≡ false
        → is_none (flat_option (option_map (named terms) y)) ≡ true
    by None k = refl
    by (Some None) k = refl
    by (Some (Some cell)) k = absurd cc
