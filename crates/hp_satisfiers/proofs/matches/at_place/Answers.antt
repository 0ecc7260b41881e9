use Rattle.std.proofs.Common.{length, ap, sym, subst}
use Rattle.std.proofs.lemmas.Result.{IfOk-weaker}
use Rattle.hp_eval.specs.GoalViews.{goal_of}
use Rattle.hp_eval.specs.Slotted.{bindings_of}
use Rattle.hp_satisfiers.specs.Places.{place_events, IsAtomBelow}
use Rattle.hp_answers.proofs.AnswerLemmas.{finds_none, finds_same}
use Rattle.hp_satisfiers.proofs.matches.at_place.Goals as goal

pub returns-in-Some-clause-found : goal.returns-in-Some-clause-found
returns-in-Some-clause-found c =
    let terms = c.args.cells.now in
    let s = c.args.slots.now in
    let events = place_events terms (goal_of terms c.args.goal.now) (bindings_of terms s) in
    IfOk-weaker c.matched.result _ _
    (λ v h. finds_same terms (length s.values) v.items _ _ (ap events (sym c.in-Some.is)) h) c.matched.ensures.found

pub returns-in-None-clause-found : goal.returns-in-None-clause-found
returns-in-None-clause-found c =
    let terms = c.args.cells.now in
    let s = c.args.slots.now in
    let events = place_events terms (goal_of terms c.args.goal.now) (bindings_of terms s) in
    finds_none terms (length s.values) c.new.result.items _ c.new.ensures.items (ap events c.in-None.is)

pub matched-requires-clause-atom : goal.matched-requires-clause-atom
matched-requires-clause-atom c = subst (IsAtomBelow (length c.args.cells.now)) c.in-Some.is c.requires.atom
