-- The satisfier that makes a negation or a `forall` false.
use Rattle.std.specs.Prelude.{ℕ, Bool, List, slice_get, Option, None}
use Rattle.std.specs.Option.{option_and_then}
use Rattle.hp_syntax.specs.Events.{State, axioms_of, finding, sat}
use Rattle.hp_syntax.specs.Syntax as syntax
use Rattle.hp_syntax.specs.Terms.{Term}
use Rattle.hp_syntax.specs.Values.{Bindings}
use Rattle.hp_choice.specs.FirstSatisfier.{first_sat, first_that}
use Rattle.hp_choice.specs.Tests.{is_nothing}
use Rattle.hp_unmet.specs.Clauses.{bindings_met}
use Rattle.hp_unmet.specs.Conjunctions.{Conjunction, asked_in}

-- a negation or a `forall`
abbrev pub IsDenial : syntax.Expression → Type 0
IsDenial (syntax.Not s p) = Unit {0}
IsDenial (syntax.Forall s vars y z) = Unit {0}
IsDenial (syntax.Holds s a) = ⊥
IsDenial (syntax.And s ps) = ⊥
IsDenial (syntax.Or s ps) = ⊥
IsDenial (syntax.Assign s v value) = ⊥
IsDenial (syntax.Test s call) = ⊥

module _ (axioms : List syntax.Axiom) (nest : ℕ) (state : State) where
  -- under bindings nothing satisfies an expression, and no limit and no fault is met
  abbrev pub leaves_none : syntax.Expression → Bindings → Bool
  leaves_none z b = is_nothing (finding (sat axioms nest state z b))

  -- `(not (on ?x a))` is false by the first `?x` that is on `a`, and `(forall (?x) ((block ?x)) ((clear ?x)))` by the
  -- first block that isn't clear: by the first satisfier of what a negation denies, or by that of the first expression
  -- of a `forall` under which nothing satisfies the second
  abbrev pub satisfier_against : syntax.Expression → Bindings → Option Bindings
  satisfier_against (syntax.Not s p) e = first_sat (sat axioms nest state p e)
  satisfier_against (syntax.Forall s vars y z) e = first_that (leaves_none z) (sat axioms nest state y e)
  satisfier_against (syntax.Holds s a) e = None
  satisfier_against (syntax.And s ps) e = None
  satisfier_against (syntax.Or s ps) e = None
  satisfier_against (syntax.Assign s v value) e = None
  satisfier_against (syntax.Test s call) e = None

module _ (rules : List syntax.Rule) (nest : ℕ) (state : State) (task : Term) where
  -- the satisfier against a part, under the bindings by the first satisfier of the parts before it
  abbrev pub against_part : Conjunction → ℕ → syntax.Expression → Option Bindings
  against_part c place part =
      option_and_then (satisfier_against (axioms_of rules) nest state part) (bindings_met rules nest state task c place)

  -- that against the part at a place
  abbrev pub against_in : ℕ → Conjunction → Option Bindings
  against_in place c = option_and_then (against_part c place) (slice_get c.parts place)

-- that against the part at a place of what a rule asks for
abbrev pub against : List syntax.Rule → ℕ → State → Term → ℕ → ℕ → ℕ → Option Bindings
against rules nest state task rule branch place =
    option_and_then (against_in rules nest state task place) (asked_in rules rule branch)
