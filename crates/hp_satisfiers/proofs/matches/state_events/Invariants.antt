use Rattle.std.proofs.Common.{◌≡◌, length, drop}
use Rattle.hp_syntax.specs.Events.{state_events}
use Rattle.hp_eval.specs.GoalViews.{goal_of}
use Rattle.hp_eval.specs.Slotted.{bindings_of}
use Rattle.hp_world.specs.Stages.{live_atoms, terms_at, state_of}
use Rattle.hp_answers.specs.AnswerViews.{FindsUpTo}
use Rattle.hp_satisfiers.proofs.matches.state_events.Given as goal

abbrev pub invariant-loop-place : goal.invariant-loop-place
invariant-loop-place l =
    let q = goal_of l.cells l.goal in
    let e = bindings_of l.cells l.slots in
    record {
      same : l.own.values ≡ l.slots.values;
      found : FindsUpTo l.cells (length l.slots.values) l.found.items (state_events (state_of l.cells l.world.now) q e)
          (state_events (terms_at l.cells (live_atoms (drop l.place l.world.now.places))) q e);
    }
