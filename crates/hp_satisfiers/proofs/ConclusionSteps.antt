-- Conclusions of an axiom on a goal.
use Rattle.std.proofs.Common.{◌≡◌, Bool, true, false, List, [], ◌∷◌, length, Ok, Err, sym}
use Rattle.hp_syntax.specs.Terms.{Term}
use Rattle.hp_syntax.specs.Events.{Event}
use Rattle.hp_eval.specs.declared.event.EvalStop.{EvalStop}
use Rattle.hp_eval.specs.declared.event.EvalStop.TheVariants as stops
use Rattle.hp_eval.specs.Concluding.{Concluded}
use Rattle.hp_eval.specs.Slotted.{Slotted, AreBelow}
use Rattle.hp_answers.specs.declared.answer.Answer.{Answer}
use Rattle.hp_answers.specs.declared.answer.Answer.TheVariants.{Sat, Fault}
use Rattle.hp_answers.specs.AnswerViews.{Finds, FindsStop}
use Rattle.hp_answers.proofs.AnswerLemmas.{finds_none, finds_one, finds_same}
use Rattle.hp_satisfiers.proofs.MatchSteps.{bound_copy}

module _ (events : List Event) (terms : List Term) (s copy made : Slotted) (found : List Answer) where
  -- the conclusion in a copy of slots is an event
  pub concluded_met : (does : Bool) → does ≡ true → copy.values ≡ s.values → Concluded (Ok does) events terms copy made
      → AreBelow (length terms) made → found ≡ Sat made ∷ [] → Finds terms (length s.values) found events
  concluded_met true e values h below is =
      finds_same terms (length s.values) found _ _ (sym h.0) (bound_copy terms s copy made found values h.1 below is)
  concluded_met false e values h below is = absurd cc

  -- without a conclusion there is no event
  pub concluded_none : (does : Bool) → does ≡ false → Concluded (Ok does) events terms copy made → found ≡ []
      → Finds terms (length s.values) found events
  concluded_none true e h is = absurd cc
  concluded_none false e h is = finds_none terms (length s.values) found events is h.0

  -- the fault at which concluding stops is met
  pub concluded_stopped : (stop : EvalStop) → Concluded (Err stop) events terms copy made → FindsStop stop found
      → Finds terms (length s.values) found events
  concluded_stopped (stops.Fault f) h is =
      finds_same terms (length s.values) found _ _ (sym h.0) (finds_one terms (length s.values) (Fault f) found is tt)
  concluded_stopped stops.NoMemory h is = absurd is
