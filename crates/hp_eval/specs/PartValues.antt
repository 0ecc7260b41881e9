-- Answers of the values of parts.
use Rattle.std.specs.Prelude.{◌≡◌, ℕ, List, map, Option, Result, Ok, Err, Vec}
use Rattle.std.specs.Global.{Global}
use Rattle.hp_syntax.specs.declared.pattern.Tail.{Tail}
use Rattle.hp_syntax.specs.Syntax.{Patterns}
use Rattle.hp_syntax.specs.Terms.{Term}
use Rattle.hp_syntax.specs.Values.{Bindings, on_ok, tail_value, values}
use Rattle.hp_eval.specs.declared.event.EvalStop.{EvalStop}
use Rattle.hp_eval.specs.declared.event.EvalStop.TheVariants as stops
use Rattle.hp_eval.specs.GoalViews.{term_at}
use Rattle.hp_eval.specs.Steps.{onto}

-- the cells of the values of parts, in front of whatever a tail stands for, or the first fault, whatever the tail
abbrev pub GivesParts : Result (Vec ℕ Global) EvalStop → Patterns → Bindings → List Term → Type 0
GivesParts (Ok found) ps e terms =
    (tail : Option Tail)
    → values ps tail e ≡ on_ok (tail_value tail e) (λ us. Ok (onto (map (term_at terms) found.items) us))
GivesParts (Err (stops.Fault f)) ps e terms = (tail : Option Tail) → values ps tail e ≡ Err f
GivesParts (Err stops.NoMemory) ps e terms = Unit {0}
