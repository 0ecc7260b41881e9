-- The steps of filling: the continuation behind the parts of a list, and parts put before others.
use Rattle.std.specs.Prelude.{◌≡◌, ℕ, Bool, true, false, nat_lt, List, Option, Some, None, option_map, Vec}
use Rattle.std.specs.Global.{Global}
use Rattle.std.specs.List.{All}
use Rattle.hp_syntax.specs.declared.limits.TheConstants.{DEEPEST_TERM}
use Rattle.hp_syntax.specs.Terms.{Term, Terms, Listed, term_nesting, deepest}
use Rattle.hp_syntax.specs.Goals as plain
use Rattle.hp_syntax.specs.Goals.{Fillings, NoFilling, Then, Filling, all_known, ground_parts}
use Rattle.hp_cells.specs.Cells.{NamesList}
use Rattle.hp_cells.specs.Keys.{parts_of}
use Rattle.hp_eval.specs.declared.goals.Filled.{Filled}
use Rattle.hp_eval.specs.declared.goals.TailParts.{TailParts}
use Rattle.hp_eval.specs.declared.goals.TailParts.TheVariants as rests
use Rattle.hp_eval.specs.GoalViews.{term_at, fillings_of, is_below}

-- parts, and others behind them
abbrev pub joined : Fillings → Fillings → Fillings
joined NoFilling gs = gs
joined (Then f fs) gs = Then f (joined fs gs)

-- parts before their continuation
abbrev pub before_rest : Fillings → Filling → Filling
before_rest fs r = (joined fs r.0, r.1)

-- the parts of the list that a cell names
abbrev pub parts_at : List Term → ℕ → Terms
parts_at terms cell = parts_of (term_at terms cell)

-- the continuation of a list behind its parts
abbrev pub rest_of : List Term → TailParts → Filling
rest_of terms (rests.Listed cell) = (all_known (parts_at terms cell), None)
rest_of terms (rests.Free v) = (NoFilling, Some v)

-- a rest that is a list is one by its cell
abbrev pub RestBelow : List Term → TailParts → Type 0
RestBelow terms (rests.Listed cell) = NamesList terms cell
RestBelow terms (rests.Free v) = Unit {0}

-- parts without a tail
abbrev pub untailed : List Term → Vec Filled Global → Filling
untailed terms parts = (fillings_of terms parts.items, None)

-- each cell of some parts is below a count
abbrev pub AreFilledBelow : ℕ → List Filled → Type 0
AreFilledBelow n fs = All (λ f. is_below n f ≡ true) fs

-- all of some parts are ground
abbrev pub AreKnown : Fillings → Type 0
AreKnown fs = (ts : Terms) × (ground_parts fs None ≡ Some ts)

-- the depth of a part, where it is ground
abbrev pub depth_of : plain.Filled → Option ℕ
depth_of (plain.Known t) = Some (term_nesting t)
depth_of (plain.Free v) = None
depth_of (plain.Partly fs tail) = None

-- the depth of the deepest part, where all are ground
abbrev pub ground_depth : Fillings → Option ℕ
ground_depth fs = option_map deepest (ground_parts fs None)

-- the list of some ground parts nests too deep
abbrev pub too_deep : Option Terms → Bool
too_deep None = false
too_deep (Some ts) = nat_lt DEEPEST_TERM (term_nesting (Listed ts))
