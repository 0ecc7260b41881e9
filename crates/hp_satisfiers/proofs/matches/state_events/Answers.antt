use Rattle.std.proofs.Common.{◌+◌, length, map, drop, ap, ◌∙◌, subst, sym, arith}
use Rattle.std.proofs.lemmas.List.{drop_all}
use Rattle.hp_syntax.specs.Events.{state_events}
use Rattle.hp_eval.specs.GoalViews.{goal_of}
use Rattle.hp_eval.specs.Slotted.{named, bindings_of}
use Rattle.hp_eval.proofs.Loops.{left_at}
use Rattle.hp_world.specs.Stages.{live_atoms, terms_at, state_of}
use Rattle.hp_answers.specs.AnswerViews.{Finds}
use Rattle.hp_satisfiers.specs.Places.{place_events}
use Rattle.hp_answers.proofs.AnswerLemmas.{upto_none, upto_more, upto_same, upto_all}
use Rattle.hp_satisfiers.proofs.MatchSteps.{live_at, places_step}
use Rattle.std.specs.Prelude.{slice_get}
use Rattle.hp_satisfiers.proofs.matches.state_events.Goals as goal

pub at_place-requires-clause-atom : goal.at_place-requires-clause-atom
at_place-requires-clause-atom c =
    live_at (length c.args.cells.now) c.args.world.now.now.places c.loop-place.place c.at.result
    c.requires.world.atoms c.at.ensures

pub loop-place-preserved : goal.loop-place-preserved
loop-place-preserved c =
    let terms = c.args.cells.now in
    let s = c.args.slots.now in
    let stage = c.args.world.now.now in
    let places = stage.places in
    let i = c.loop-place.place in
    let q = goal_of terms c.args.goal.now in
    let e = bindings_of terms s in
    let held = c.loop-place.invariant in
    let atom = c.at.result in
    let more = c.in_ok-more.more.items in
    record {
      same = ap (λ x. x.values) c.in_ok-more.ensures.slots ∙ held.same;
      found =
          upto_more terms (length s.values) c.loop-place.found.items (state_events (state_of terms stage) q e)
          (place_events terms q e atom) (state_events (terms_at terms (live_atoms (drop (i + 1) places))) q e) more
          c.append.new.self.items
          (upto_same terms (length s.values) c.loop-place.found.items (state_events (state_of terms stage) q e) _ _
          (ap (λ ps. state_events (terms_at terms (live_atoms ps)) q e) (left_at places i atom c.at.ensures)
          ∙ places_step terms q e atom (drop (i + 1) places))
          held.found)
          (subst (λ vs. Finds terms (length vs) more (place_events terms q (map (named terms) vs) atom)) held.same
          c.in_ok-more.ensures.found)
          c.in_ok-append.ensures.items;
    }

pub at_place-requires-clause-slots : goal.at_place-requires-clause-slots
at_place-requires-clause-slots c = λ v cell k.
    c.requires.slots v cell (ap (λ vs. slice_get vs v) (sym c.loop-place.invariant.same) ∙ k)

pub loop-place-init : goal.loop-place-init
loop-place-init c =
    let terms = c.args.cells.now in
    let s = c.args.slots.now in
    let whole =
    state_events (state_of terms c.args.world.now.now) (goal_of terms c.args.goal.now) (bindings_of terms s) in
    record {
      same = c.in_ok-own.ensures;
      found = upto_none terms (length s.values) c.new-found.result.items whole c.new-found.ensures.items;
    }

pub at_place-requires-clause-goal : goal.at_place-requires-clause-goal
at_place-requires-clause-goal c = c.requires.goal

pub returns : goal.returns
returns c =
    let terms = c.args.cells.now in
    let stage = c.args.world.now.now in
    let q = goal_of terms c.args.goal.now in
    let e = bindings_of terms c.args.slots.now in
    upto_all terms (length c.args.slots.now.values) c.loop-place.found.items (state_events (state_of terms stage) q e)
    (state_events (terms_at terms (live_atoms (drop c.loop-place.place stage.places))) q e)
    (ap (λ ps. state_events (terms_at terms (live_atoms ps)) q e)
    (drop_all c.loop-place.place stage.places (omega (arith, c.places-place-end.ensures, c.loop-place-test.false))))
    c.loop-place.invariant.found
