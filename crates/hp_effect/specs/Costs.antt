-- The answers of valuing a cost.
use Rattle.std.specs.Prelude.{◌≡◌, ℤ, Option, Some, None, Result, Ok, Err}
use Rattle.hp_syntax.specs.Terms.{Term, Symbol, Number, Listed}
use Rattle.hp_syntax.specs.Changes.{Going, Went, Failed}
use Rattle.hp_eval.specs.declared.event.EvalStop.{EvalStop}
use Rattle.hp_eval.specs.declared.event.EvalStop.TheVariants as stops

-- the number that a term is
abbrev pub number_in : Term → Option ℤ
number_in (Number n) = Some n
number_in (Symbol name) = None
number_in (Listed ts) = None

-- the number, or the fault; for want of memory it is free
abbrev pub Costs : Result ℤ EvalStop → Going ℤ → Type 0
Costs (Ok n) g = g ≡ Went n
Costs (Err (stops.Fault f)) g = g ≡ Failed f
Costs (Err stops.NoMemory) g = Unit {0}
