use Rattle.std.proofs.Common.{◌≡◌, ◌≤◌, ◌+◌, ◌-◌, ◌*◌, max, length}
use Rattle.hp_eval.specs.GoalViews.{goal_of}
use Rattle.hp_eval.specs.Growth.{Grows}
use Rattle.hp_eval.specs.Slotted.{bindings_of}
use Rattle.hp_world.specs.Recorded.{Knows}
use Rattle.hp_world.specs.Stages.{AllBelow, live_atoms}
use Rattle.hp_suspended.specs.Answering.{Keeps, KeepsPair, Moves, SameOver, pair_left, pair_weight}
use Rattle.hp_suspended.specs.Branching.{FindsOver, KeepsAxiom, axiom_left, branch_left, counters, search_turns, search_weight, under}
use Rattle.hp_suspended.specs.Fitting.{Fits, base_of, node_weight, weight}
use Rattle.hp_suspended.specs.Left.{left}
use Rattle.hp_suspended.specs.SceneViews.{IsReady, code_in, setting_of}
use Rattle.hp_suspended.specs.Settings.{node_events}
use Rattle.hp_suspended.specs.Turning.{pair_turns}
use Rattle.hp_suspended.specs.Views.{Disj, Search, level_at, running_view, view, views}
use Rattle.hp_suspended.proofs.+search.Given as goal

abbrev pub decreases-suspended::Suspended::next : goal.decreases-suspended::Suspended::next
decreases-suspended::Suspended::next l = 4 * weight (length (code_in l.scene.now).nodes) (view l.self.now) + 3

abbrev pub decreases-suspended::Suspended::begin : goal.decreases-suspended::Suspended::begin
decreases-suspended::Suspended::begin l = 4 * weight (length (code_in l.scene.now).nodes) (view l.self.now) + 2

abbrev pub decreases-suspended::Suspended::step : goal.decreases-suspended::Suspended::step
decreases-suspended::Suspended::step l = 4 * weight (length (code_in l.scene.now).nodes) (view l.self.now) + 2

abbrev pub decreases-search::conj_turn : goal.decreases-search::conj_turn
decreases-search::conj_turn l =
    4 * pair_weight (length (code_in l.scene.now).nodes) l.nest l.next.now (views l.outer.now.items) (view l.here.now)
    + 4

abbrev pub decreases-search::conj_next : goal.decreases-search::conj_next
decreases-search::conj_next l =
    4 * pair_weight (length (code_in l.scene.now).nodes) l.nest l.next.now (views l.outer.now.items) (view l.here.now)
    + 5

abbrev pub decreases-search::disj_turn : goal.decreases-search::disj_turn
decreases-search::disj_turn l =
    let nodes = length (code_in l.scene.now).nodes in
    4 * max (weight nodes (view l.here.now)) (node_weight nodes l.nest l.next.now) + 4

abbrev pub decreases-search::disj_next : goal.decreases-search::disj_next
decreases-search::disj_next l =
    let nodes = length (code_in l.scene.now).nodes in
    4 * max (weight nodes (view l.here.now)) (node_weight nodes l.nest l.next.now) + 5

abbrev pub decreases-search::branch_turn : goal.decreases-search::branch_turn
decreases-search::branch_turn l =
    4 * search_weight (length (code_in l.scene.now).nodes) l.nest (under (level_at l.run.now)) + 4

abbrev pub decreases-search::branch_next : goal.decreases-search::branch_next
decreases-search::branch_next l =
    4 * search_weight (length (code_in l.scene.now).nodes) l.nest (under (level_at l.run.now)) + 5

abbrev pub decreases-search::axiom_turn : goal.decreases-search::axiom_turn
decreases-search::axiom_turn l =
    4 * search_weight (length (code_in l.scene.now).nodes) l.nest (under (level_at l.run.now)) + 6

abbrev pub decreases-search::axiom_next : goal.decreases-search::axiom_next
decreases-search::axiom_next l =
    4 * search_weight (length (code_in l.scene.now).nodes) l.nest (under (level_at l.run.now)) + 7

abbrev pub decreases-search::search_turn : goal.decreases-search::search_turn
decreases-search::search_turn l =
    4 * search_weight (length (code_in l.scene.now).nodes) l.nest (running_view l.running.now) + 8

abbrev pub decreases-search::search_next : goal.decreases-search::search_next
decreases-search::search_next l =
    4 * search_weight (length (code_in l.scene.now).nodes) l.nest (running_view l.running.now) + 9

abbrev pub decreases-search::denied : goal.decreases-search::denied
decreases-search::denied l = 4 * node_weight (length (code_in l.scene.now).nodes) l.nest l.node + 4

abbrev pub decreases-search::counter_turn : goal.decreases-search::counter_turn
decreases-search::counter_turn l =
    let nodes = length (code_in l.scene.now).nodes in
    4 * max (weight nodes (view l.inner.now)) (node_weight nodes l.nest l.then) + 5

abbrev pub decreases-search::for_all : goal.decreases-search::for_all
decreases-search::for_all l =
    let nodes = length (code_in l.scene.now).nodes in
    4 * max (node_weight nodes l.nest l.range) (node_weight nodes l.nest l.then) + 6

abbrev pub decreases-search::once : goal.decreases-search::once
decreases-search::once l = 4 * node_weight (length (code_in l.scene.now).nodes) l.nest l.node + 1

-- ---- loops

abbrev pub invariant-search::conj_next-loop-turn : goal.invariant-search::conj_next-loop-turn
invariant-search::conj_next-loop-turn l = record {
  ready : IsReady l.scene l.cells l.slots;
  same : SameOver l.scene l.cells
      (λ w. pair_left w l.nest l.fn.next l.end l.fn.slots (views l.fn.outer.items) (view l.fn.here))
      (λ w. pair_left w l.nest l.next l.end l.slots (views l.outer.items) (view l.here));
  keeps : KeepsPair (code_in l.scene) (length l.cells) l.nest l.mark l.end l.slots l.fn.next l.next
      (views l.fn.outer.items) (views l.outer.items) (view l.fn.here) (view l.here);
  moves : Moves l.mark l.fn.cells l.cells l.fn.slots l.slots;
}

abbrev pub decreases-search::conj_next-loop-turn : goal.decreases-search::conj_next-loop-turn
decreases-search::conj_next-loop-turn l =
    pair_turns (setting_of l.scene l.cells) l.nest l.next l.end l.slots (views l.outer.items) (view l.here)

abbrev pub invariant-search::disj_next-loop-turn : goal.invariant-search::disj_next-loop-turn
invariant-search::disj_next-loop-turn l = record {
  ready : IsReady l.scene l.cells l.slots;
  same : SameOver l.scene l.cells
      (λ w. left w l.fn.slots (Disj l.mark l.nest l.fn.next l.end (view l.fn.here)))
      (λ w. left w l.slots (Disj l.mark l.nest l.next l.end (view l.here)));
  keeps : Keeps (code_in l.scene) (length l.cells) l.slots (Disj l.mark l.nest l.fn.next l.end (view l.fn.here))
      (Disj l.mark l.nest l.next l.end (view l.here));
  moves : Moves l.mark l.fn.cells l.cells l.fn.slots l.slots;
}

abbrev pub decreases-search::disj_next-loop-turn : goal.decreases-search::disj_next-loop-turn
decreases-search::disj_next-loop-turn l = l.end - l.next

abbrev pub invariant-search::branch_next-loop-turn : goal.invariant-search::branch_next-loop-turn
invariant-search::branch_next-loop-turn l = record {
  atoms : AllBelow (length l.cells) (live_atoms l.scene.world.now.places);
  knows : Knows l.cells l.scene.world;
  same : SameOver l.scene l.cells (λ w. branch_left w l.nest (level_at l.fn.run))
      (λ w. branch_left w l.nest (level_at l.run));
  keeps : KeepsAxiom (code_in l.scene) (length l.cells) l.nest (level_at l.fn.run) (level_at l.run);
  cells : Grows l.fn.cells l.cells;
}

abbrev pub decreases-search::branch_next-loop-turn : goal.decreases-search::branch_next-loop-turn
decreases-search::branch_next-loop-turn l = l.run.end - l.run.next

abbrev pub invariant-search::axiom_next-loop-turn : goal.invariant-search::axiom_next-loop-turn
invariant-search::axiom_next-loop-turn l = record {
  ready : IsReady l.scene l.cells l.slots;
  same : SameOver l.scene l.cells
      (λ w. axiom_left w l.nest (goal_of w.terms l.goal) (bindings_of w.terms l.fn.slots) (level_at l.fn.run))
      (λ w. axiom_left w l.nest (goal_of w.terms l.goal) (bindings_of w.terms l.fn.slots) (level_at l.run));
  slots : l.slots ≡ l.fn.slots;
  keeps : KeepsAxiom (code_in l.scene) (length l.cells) l.nest (level_at l.fn.run) (level_at l.run);
  cells : Grows l.fn.cells l.cells;
}

abbrev pub decreases-search::axiom_next-loop-turn : goal.decreases-search::axiom_next-loop-turn
decreases-search::axiom_next-loop-turn l = length (branch_left (setting_of l.scene l.cells) l.nest (level_at l.run))

abbrev pub invariant-search::search_next-loop-turn : goal.invariant-search::search_next-loop-turn
invariant-search::search_next-loop-turn l = record {
  ready : IsReady l.scene l.cells l.slots;
  same : SameOver l.scene l.cells
      (λ w. left w l.fn.slots (Search l.mark l.nest l.goal l.fn.at l.fn.rule (running_view l.fn.running)))
      (λ w. left w l.slots (Search l.mark l.nest l.goal l.at l.rule (running_view l.running)));
  keeps : Keeps (code_in l.scene) (length l.cells) l.slots
      (Search l.mark l.nest l.goal l.fn.at l.fn.rule (running_view l.fn.running))
      (Search l.mark l.nest l.goal l.at l.rule (running_view l.running));
  moves : Moves l.mark l.fn.cells l.cells l.fn.slots l.slots;
}

abbrev pub decreases-search::search_next-loop-turn : goal.decreases-search::search_next-loop-turn
decreases-search::search_next-loop-turn l =
    search_turns (length l.scene.world.now.places) (length ((code_in l.scene).axiom_rules l.goal.name)) l.at l.rule
    (running_view l.running)

abbrev pub invariant-search::denied-loop-inner : goal.invariant-search::denied-loop-inner
invariant-search::denied-loop-inner l = record {
  ready : IsReady l.scene l.cells l.slots;
  found : FindsOver l.scene l.cells l.cut (λ w. node_events w l.nest l.node (bindings_of w.terms l.fn.slots))
      (λ w. left w l.slots (view l.inner));
  fits : Fits (code_in l.scene) (length l.cells) (length l.slots.trail) (view l.inner);
  start : base_of (view l.inner) ≡ l.mark;
  lighter : weight (length (code_in l.scene).nodes) (view l.inner)
      ≤ node_weight (length (code_in l.scene).nodes) l.nest l.node;
  moves : Moves l.mark l.fn.cells l.cells l.fn.slots l.slots;
}

abbrev pub decreases-search::denied-loop-inner : goal.decreases-search::denied-loop-inner
decreases-search::denied-loop-inner l = length (left (setting_of l.scene l.cells) l.slots (view l.inner))

abbrev pub invariant-search::for_all-loop-inner : goal.invariant-search::for_all-loop-inner
invariant-search::for_all-loop-inner l = record {
  ready : IsReady l.scene l.cells l.slots;
  found : FindsOver l.scene l.cells l.cut
      (λ w. counters w l.nest l.then (node_events w l.nest l.range (bindings_of w.terms l.fn.slots)))
      (λ w. counters w l.nest l.then (left w l.slots (view l.inner)));
  fits : Fits (code_in l.scene) (length l.cells) (length l.slots.trail) (view l.inner);
  start : base_of (view l.inner) ≡ l.mark;
  lighter : weight (length (code_in l.scene).nodes) (view l.inner)
      ≤ node_weight (length (code_in l.scene).nodes) l.nest l.range;
  moves : Moves l.mark l.fn.cells l.cells l.fn.slots l.slots;
}

abbrev pub decreases-search::for_all-loop-inner : goal.decreases-search::for_all-loop-inner
decreases-search::for_all-loop-inner l = length (left (setting_of l.scene l.cells) l.slots (view l.inner))
