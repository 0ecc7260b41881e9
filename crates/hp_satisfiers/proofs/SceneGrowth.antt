-- Events in a scene stay where terms are added.
use Rattle.std.proofs.Common.{◌≡◌, ℕ, Bool, true, List, length, ap, ap₂}
use Rattle.hp_syntax.specs.declared.expression.Expr.{Expr}
use Rattle.hp_syntax.specs.Syntax.{Expression, Axiom}
use Rattle.hp_syntax.specs.Terms.{Term}
use Rattle.hp_syntax.specs.Values.{Bindings}
use Rattle.hp_syntax.specs.Events.{Event, State, events, negated, sat}
use Rattle.hp_syntax.specs.Views.{expression_of}
use Rattle.hp_eval.specs.Growth.{Grows}
use Rattle.hp_eval.specs.Slotted.{Slotted, AreBelow, bindings_of}
use Rattle.hp_eval.proofs.GrowthLemmas.{bindings_stay}
use Rattle.hp_world.specs.Stages.{Stage, StageBelow, state_of}
use Rattle.hp_answers.specs.declared.answer.Answer.{Answer}
use Rattle.hp_answers.proofs.AnswerLemmas.{finds_same, state_stays}
use Rattle.hp_laws.proofs.HeardAlikeLemmas.{alike_turned, alike_decide}
use Rattle.hp_satisfiers.proofs.HeardLemmas.{hears_found, hears_same}
use Rattle.hp_answers.specs.AnswerViews.{answer_events, Finds, Hears}
use Rattle.hp_laws.specs.HeardAlike.{AreHeardAlike, turned}

-- ---- terms that are added

-- the events of a part, or of its negation, in the place of a Sat
abbrev pub turned_sat : List Axiom → ℕ → State → Expr → Bool → Bindings → List Event
turned_sat axioms n s part negate b = turned negate (sat axioms n s (expression_of part) b) b

module _ (old new : List Term) (g : Grows old new) (stage : Stage) (there : StageBelow (length old) stage) where
  -- expressions meet the same in the place of a Sat
  pub turned_stays : (axioms : List Axiom) (n : ℕ) (part : Expr) (negate : Bool)
      → turned_sat axioms n (state_of new stage) part negate ≡ turned_sat axioms n (state_of old stage) part negate
  turned_stays axioms n part negate =
      ap (λ st. turned_sat axioms n st part negate) (state_stays old new g stage there)

  module _ (s : Slotted) (below : AreBelow (length old) s) where
    -- expressions meet the same under bindings
    pub sat_stays : (axioms : List Axiom) (n : ℕ) (part : Expression)
        → sat axioms n (state_of new stage) part (bindings_of new s)
        ≡ sat axioms n (state_of old stage) part (bindings_of old s)
    sat_stays axioms n part =
        ap₂ (λ st e. sat axioms n st part e) (state_stays old new g stage there) (bindings_stay old new g s below)

-- the events of an expression under slots, or of its negation
pub turn_gives : (terms : List Term) (vars : ℕ) (found items : List Answer) (negate : Bool) (b e : Bindings)
    (events : List Event) → AreHeardAlike (answer_events terms found) events → b ≡ e
    → Finds terms vars items (turned negate (answer_events terms found) b)
    → Hears terms vars items (turned negate events e)
turn_gives terms vars found items negate b e events h k f =
    hears_same terms vars items (turned negate (answer_events terms found) e) (turned negate events e)
    (alike_turned negate (answer_events terms found) events e h)
    (hears_found terms vars items (turned negate (answer_events terms found) e)
    (finds_same terms vars items _ _ (ap (turned negate (answer_events terms found)) k) f))

-- the negation of an expression meets what that of its events does
pub negation_gives : (terms : List Term) (vars : ℕ) (found items : List Answer) (b e : Bindings) (events : List Event)
    → AreHeardAlike (answer_events terms found) events → b ≡ e
    → Finds terms vars items (turned true (answer_events terms found) b)
    → Finds terms vars items (turned true events e)
negation_gives terms vars found items b e events h k f =
    finds_same terms vars items _ _ (ap₂ negated (alike_decide (answer_events terms found) events h) k) f
