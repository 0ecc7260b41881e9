-- The answers of attempts to match, the slots behind them, and the terms of lists' cells.
use Rattle.std.specs.Prelude.{◌≡◌, ℕ, ◌<◌, Bool, cond, List, length, Option, Some, None, Result, Ok, Err}
use Rattle.hp_syntax.specs.Terms.{Term, Terms, NoTerm, More}
use Rattle.hp_syntax.specs.Values.{Bindings}
use Rattle.hp_syntax.specs.Goals.{Filled, Known, Free, Partly}
use Rattle.hp_cells.specs.Cells.{NamesList}
use Rattle.hp_eval.specs.Slotted.{Slotted, Binds, AreBelow, bindings_of}
use Rattle.hp_eval.specs.GoalViews.{term_at}
use Rattle.hp_eval.specs.FillSteps.{parts_at}

-- the bindings where an attempt ends well, and none otherwise
abbrev pub extended : Bool → Bindings → Option Bindings
extended does e = cond does (Some e) None

-- an attempt answers whether there are bindings, and leaves these where there are; where there are none, bindings may
-- be left above those before
pub record Tries (does : Bool) (found : Option Bindings) (terms : List Term) (old new : Slotted) : Type 0 where
  pub answers : found ≡ extended does (bindings_of terms new)
  pub binds : Binds old new
  pub below : AreBelow (length terms) new

-- an attempt that ends early leaves further bindings, too
pub record Leaves (terms : List Term) (old new : Slotted) : Type 0 where
  pub binds : Binds old new
  pub below : AreBelow (length terms) new

-- an attempt for which the memory may not suffice
abbrev pub Starts : {E : Type 0} → Result Bool E → Option Bindings → List Term → Slotted → Slotted → Type 0
Starts (Ok does) found terms old new = Tries does found terms old new
Starts (Err e) found terms old new = Leaves terms old new

-- one cell names the first part of a list, and the other the list of the others
pub record HasFirst (terms : List Term) (list first others : ℕ) : Type 0 where
  pub parts : parts_at terms list ≡ More (term_at terms first) (parts_at terms others)
  pub first_named : first < length terms
  pub others_named : NamesList terms others

-- the cells of a list's first part and of the list of the others, where it has one
abbrev pub Splits : List Term → ℕ → Option (ℕ × ℕ) → Type 0
Splits terms list None = parts_at terms list ≡ NoTerm
Splits terms list (Some p) = HasFirst terms list p.0 p.1

-- the term that a part is, where it is ground
abbrev pub ground_part : Filled → Option Term
ground_part (Known t) = Some t
ground_part (Free v) = None
ground_part (Partly fs tail) = None

-- the cell of the list of ground parts, where they are ground
abbrev pub Grounds : List Term → Option ℕ → Option Terms → Type 0
Grounds terms None found = found ≡ None
Grounds terms (Some cell) found = NamesList terms cell × (found ≡ Some (parts_at terms cell))
