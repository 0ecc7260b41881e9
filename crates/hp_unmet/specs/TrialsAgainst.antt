-- The satisfier that makes a part false, as a trial asks for it.
use Rattle.std.specs.Prelude.{◌≡◌, ℕ, Bool, Option, Some, Vec, option_map}
use Rattle.std.specs.Global.{Global}
use Rattle.std.specs.Option.{option_and_then}
use Rattle.hp_syntax.specs.declared.pattern.Ground.{Ground}
use Rattle.hp_syntax.specs.Events.{State, axioms_of, sat}
use Rattle.hp_syntax.specs.Syntax as syntax
use Rattle.hp_syntax.specs.Terms.{Term}
use Rattle.hp_syntax.specs.Values.{Bindings}
use Rattle.hp_code.specs.Codes.{code_of}
use Rattle.hp_code.specs.CodeViews.{rules_in}
use Rattle.hp_suspended.specs.Nodes.{expression_at}
use Rattle.hp_choice.specs.declared.first.Test.{Test}
use Rattle.hp_choice.specs.FirstSatisfier.{first_that, values_of}
use Rattle.hp_choice.specs.Tests.{Passes}
use Rattle.hp_unmet.specs.Against.{against_in}
use Rattle.hp_unmet.specs.Clauses.{bindings_met}
use Rattle.hp_unmet.specs.Trials.{conjunction_of, rules_tried}
use Rattle.hp_unmet.specs.declared.trial.Trial.{Trial}

module _ (t : Trial) (nest : ℕ) (state : State) (task : Term) where
  -- the bindings by the first satisfier of so many of the first parts together
  abbrev pub met_tried : ℕ → Option Bindings
  met_tried n = bindings_met (rules_tried t) nest state task (conjunction_of t.asked) n

  -- under these bindings the values are those of the first satisfier of a node's expression that passes a test
  abbrev pub GivesAfter : ℕ → ℕ → Test → Option (Vec (Option Ground) Global) → Type 0
  GivesAfter n node test o =
      let code = code_of t.code.now in
      (E : syntax.Expression) (passes : Bindings → Bool) → expression_at code node ≡ Some E
      → Passes code nest state test passes
      → option_map values_of o
      ≡ option_and_then (λ e. first_that passes (sat (axioms_of (rules_in code)) nest state E e)) (met_tried n)

  -- the satisfier that makes the part at a place false
  abbrev pub against_tried : ℕ → Option Bindings
  against_tried place = against_in (rules_tried t) nest state task place (conjunction_of t.asked)
