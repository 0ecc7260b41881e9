use Rattle.std.proofs.Common.{◌≡◌, ap, sym, ◌∙◌, arith, length, [], ◌+◌, ◌<◌, ℕ, ◌-◌, refl, subst}
use Rattle.std.proofs.lemmas.Option.{IfSome_then}
use Rattle.hp_eval.specs.declared.event.Event.TheVariants.{End}
use Rattle.hp_suspended.specs.SceneViews.{code_in, setting_of}
use Rattle.hp_suspended.specs.Views.{view, Disj, views, Level, RunningView, Search, level_at, level_of, running_view}
use Rattle.hp_suspended.proofs.CallLemmas.{ready_grows, ready_moved, moves_on, atoms_grow, knows_grow, moves_none}
use Rattle.hp_suspended.proofs.GoingOn.{goes_on, may_go_on}
use Rattle.hp_suspended.proofs.NextSteps.{both_move, start_within, settled_ends, settled_moves, settled_keeps}
use Rattle.hp_suspended.proofs.Shapes.{view_fresh, view_simple, level_is}
use Rattle.hp_suspended.proofs.OneSteps.{one_within, one_gives, one_keeps, one_start, one_moves}
use Rattle.hp_suspended.proofs.VariantSteps.{conj_was, conj_weighs, conj_gives, conj_keeps, conj_start, conj_call_moves, disj_was, disj_weighs, disj_gives, disj_keeps, disj_start, disj_call_moves, search_was, search_weighs, search_gives, search_keeps, search_start, search_call_moves}
use Rattle.hp_suspended.proofs.ConjTurns.{conj_moves, cut_gives, ended_next, fault_gives, here_keeps, keeps_pair_on, pair_rises, popped_keeps, popped_same, pushed_keeps, pushed_same, pair_goes_on, sat_gives, told_keeps_on, told_on}
use Rattle.hp_suspended.proofs.DisjTurns.{disj_goes_on, disj_moves, keeps_on, last_gives, next_keeps, next_same, part_gives, part_keeps}
use Rattle.hp_suspended.proofs.Fitted.{rises}
use Rattle.hp_suspended.proofs.RangeLemmas.{range_ascends, clauses_ascend, first_expression}
use Rattle.hp_suspended.proofs.NodeRanges.{node_in}
use Rattle.hp_suspended.proofs.Stacks.{views_popped}
use Rattle.hp_suspended.proofs.TurnCounts.{turns_fall}
use Rattle.hp_suspended.proofs.+search.Goals as goal
use Rattle.hp_suspended.proofs.+search.Goals.{suspended::Suspended::begin-in-Some+in_ok-event+else-is_some+in_ok-begun, suspended::Suspended::begin-in_default}
use Rattle.hp_eval.specs.GoalViews.{goal_of}
use Rattle.hp_eval.specs.Slotted.{bindings_of}
use Rattle.hp_eval.proofs.GrowthLemmas.{below_grows, grows_length, grows_on, grows_self}
use Rattle.hp_suspended.specs.Branching.{axiom_left, branch_left, search_turns, search_weight, under, counters}
use Rattle.hp_suspended.specs.Fitting.{RunningFits}
use Rattle.hp_suspended.specs.Left.{left}
use Rattle.hp_suspended.specs.Answering.{GivesOver}
use Rattle.hp_eval.specs.declared.event.Event.TheVariants as events
use Rattle.hp_suspended.specs.Settings.{Setting, node_events}
use Rattle.hp_suspended.proofs.AxiomTurns.{axiom_kept_may, axiom_kept_on, branch_over, concluded_gives, gives_before, passed_gives, same_more, same_on}
use Rattle.hp_suspended.proofs.BranchTurns.{branch_follows, branch_gives, branch_keeps, branches_end, branch_next_keeps}
use Rattle.hp_suspended.proofs.CountLemmas.{goal_below_more}
use Rattle.hp_suspended.proofs.SearchTurns.{axiom_ended, axiom_gives, axiom_keeps, axiom_more, axiom_moves, below_undoing, kept_on, place_gives, place_keeps, place_more, place_moves, rule_gives, rule_keeps, rule_more, running_some, undo_moves}
use Rattle.hp_nodes.specs.NodeViews.{laid_of, operation_of}
use Rattle.hp_syntax.specs.Views.{atom_of, pattern_of}
use Rattle.hp_syntax.specs.Events.{finding}
use Rattle.hp_suspended.proofs.Negations.{denied_fault, found_cut, found_same, further_weighs_less, keeps_more, moves_above, moves_back, moves_further, moves_nothing, opens, shorter, shorter_cut}
use Rattle.hp_suspended.proofs.NodeReadings.{expression_within, forall_met, forall_part, not_part}
use Rattle.hp_suspended.proofs.BeginSteps.{atom_found}
use Rattle.hp_suspended.proofs.OnceSteps.{assign_gives, forall_gives, holds_gives, not_gives, test_gives}
use Rattle.hp_suspended.proofs.+search.Goals as goal

-- ---- conjunctions and disjunctions

pub search::conj_next-returns-in_err-turn-clause-moves : goal.search::conj_next-returns-in_err-turn-clause-moves
search::conj_next-returns-in_err-turn-clause-moves t c =
    let a = c.args in
    moves_on a.mark a.cells.now c.loop-turn.cells c.conj_turn.new.cells a.slots.now c.loop-turn.slots
    c.conj_turn.new.slots
    (pair_rises (code_in a.scene.now) (length a.cells.now) a.mark a.end a.next.now (length a.slots.now.trail)
    (views a.outer.now.items) (view a.here.now) c.requires.fits) c.loop-turn.invariant.moves
    c.conj_turn.ensures.moves

pub search::conj_next-returns-in-Some-clause-moves : goal.search::conj_next-returns-in-Some-clause-moves
search::conj_next-returns-in-Some-clause-moves t c =
    let a = c.args in
    moves_on a.mark a.cells.now c.loop-turn.cells c.conj_turn.new.cells a.slots.now c.loop-turn.slots
    c.conj_turn.new.slots
    (pair_rises (code_in a.scene.now) (length a.cells.now) a.mark a.end a.next.now (length a.slots.now.trail)
    (views a.outer.now.items) (view a.here.now) c.requires.fits) c.loop-turn.invariant.moves
    c.conj_turn.ensures.moves

pub search::conj_next-loop-turn-smaller : goal.search::conj_next-loop-turn-smaller
search::conj_next-loop-turn-smaller t c =
    let a = c.args in
    turns_fall a.scene.now c.loop-turn.cells c.conj_turn.new.cells a.mark a.nest c.loop-turn.next c.conj_turn.new.next
    a.end c.loop-turn.slots c.conj_turn.new.slots (views c.loop-turn.outer.items) (views c.conj_turn.new.outer.items)
    (view c.loop-turn.here) (view c.conj_turn.new.here) c.conj_turn.ensures.moves.grows
    c.loop-turn.invariant.ready c.loop-turn.invariant.keeps.fits (rw c.in_default.is at c.in_ok-turn.ensures.more)

pub search::conj_next-loop-turn-preserved : goal.search::conj_next-loop-turn-preserved
search::conj_next-loop-turn-preserved t c =
    let a = c.args in
    let i = c.loop-turn.invariant in
    record {
      ready =
          ready_moved a.scene.now a.mark c.loop-turn.cells c.conj_turn.new.cells c.loop-turn.slots
          c.conj_turn.new.slots i.ready c.conj_turn.ensures.moves;
      same =
          pair_goes_on a.scene.now c.loop-turn.cells c.conj_turn.new.cells a.nest a.end a.slots.now c.loop-turn.slots
          c.conj_turn.new.slots a.next.now c.loop-turn.next c.conj_turn.new.next (views a.outer.now.items)
          (views c.loop-turn.outer.items) (views c.conj_turn.new.outer.items) (view a.here.now)
          (view c.loop-turn.here) (view c.conj_turn.new.here) c.conj_turn.ensures.moves.grows i.same
          (rw c.in_default.is at c.in_ok-turn.ensures.more);
      keeps =
          keeps_pair_on (code_in a.scene.now) (length c.loop-turn.cells) (length c.conj_turn.new.cells) a.nest a.mark
          a.end c.loop-turn.slots c.conj_turn.new.slots a.next.now c.loop-turn.next c.conj_turn.new.next
          (views a.outer.now.items) (views c.loop-turn.outer.items) (views c.conj_turn.new.outer.items)
          (view a.here.now) (view c.loop-turn.here) (view c.conj_turn.new.here) i.keeps
          (rw c.in_default.is at c.in_ok-turn.ensures.keeps);
      moves =
          moves_on a.mark a.cells.now c.loop-turn.cells c.conj_turn.new.cells a.slots.now c.loop-turn.slots
          c.conj_turn.new.slots
          (pair_rises (code_in a.scene.now) (length a.cells.now) a.mark a.end a.next.now (length a.slots.now.trail)
          (views a.outer.now.items) (view a.here.now) c.requires.fits) c.loop-turn.invariant.moves
          c.conj_turn.ensures.moves;
    }

pub search::conj_turn-returns-in_err-next-clause-moves : goal.search::conj_turn-returns-in_err-next-clause-moves
search::conj_turn-returns-in_err-next-clause-moves t c =
    let a = c.args in
    conj_moves a.scene.now a.mark a.next.now a.end (views a.outer.now.items) (view a.here.now) a.cells.now
    c.next.new.cells a.slots.now c.next.new.slots c.requires.fits c.next.ensures.moves

pub search::conj_turn-returns-then-next-end-clause-gives : goal.search::conj_turn-returns-then-next-end-clause-gives
search::conj_turn-returns-then-next-end-clause-gives t c =
    let a = c.args in
    sat_gives a.scene.now a.mark a.next.now a.end (views a.outer.now.items) (view a.here.now) a.cells.now
    c.next.new.cells a.slots.now c.next.new.slots c.requires.fits c.next.ensures.moves a.nest (view c.next.new.self)
    a.scene.now.code.now.kept (rw c.in-Sat.is at c.in_ok-next.ensures.gives) c.if-next-end.true

pub search::conj_turn-returns-then-next-end-clause-keeps : goal.search::conj_turn-returns-then-next-end-clause-keeps
search::conj_turn-returns-then-next-end-clause-keeps t c =
    let a = c.args in
    here_keeps a.scene.now a.mark a.next.now a.end (views a.outer.now.items) (view a.here.now) a.cells.now
    c.next.new.cells a.slots.now c.next.new.slots c.requires.fits c.next.ensures.moves a.nest (view c.next.new.self)
    c.in_ok-next.ensures.keeps

pub search::conj_turn-returns-then-next-end-clause-moves : goal.search::conj_turn-returns-then-next-end-clause-moves
search::conj_turn-returns-then-next-end-clause-moves t c =
    let a = c.args in
    conj_moves a.scene.now a.mark a.next.now a.end (views a.outer.now.items) (view a.here.now) a.cells.now
    c.next.new.cells a.slots.now c.next.new.slots c.requires.fits c.next.ensures.moves

pub search::conj_turn-returns-in_err-push_part-in-Sat-clause-moves :
    goal.search::conj_turn-returns-in_err-push_part-in-Sat-clause-moves
search::conj_turn-returns-in_err-push_part-in-Sat-clause-moves t c =
    let a = c.args in
    conj_moves a.scene.now a.mark a.next.now a.end (views a.outer.now.items) (view a.here.now) a.cells.now
    c.next.new.cells a.slots.now c.next.new.slots c.requires.fits c.next.ensures.moves

pub search::conj_turn-told_of-told-requires-clause-ready : goal.search::conj_turn-told_of-told-requires-clause-ready
search::conj_turn-told_of-told-requires-clause-ready t c =
    let a = c.args in
    let n = c.next.new in
    ready_moved a.scene.now _ a.cells.now n.cells a.slots.now n.slots c.requires.ready c.next.ensures.moves

pub search::conj_turn-told_of-told-requires-clause-node : goal.search::conj_turn-told_of-told-requires-clause-node
search::conj_turn-told_of-told-requires-clause-node t c =
    let a = c.args in
    let less : a.next.now < a.end =
    omega (arith, range_ascends (code_in a.scene.now) a.next.now a.end c.requires.fits.0) in
    let there = node_in (code_in a.scene.now).nodes a.next.now a.end c.requires.fits.0.within less in
    (first_expression (setting_of a.scene.now a.cells.now) a.nest a.next.now a.end a.scene.now.code.now.kept
    c.requires.fits.0 less there.0 there.1).first

pub search::conj_turn-returns-in-Some-End-clause-more : goal.search::conj_turn-returns-in-Some-End-clause-more
search::conj_turn-returns-in-Some-End-clause-more t c =
    let a = c.args in
    let less : a.next.now < a.end =
    omega (arith, range_ascends (code_in a.scene.now) a.next.now a.end c.requires.fits.0) in
    let is : c.in-Some-End.field-0 ≡ events.End = rw c.in-Some-End.is at c.in-Some-End.field-0-is in
    let some = rw c.in-Some-End.is at c.told_of-told.ensures in
    let n = c.next.new in
    let none =
    subst (λ x. (i : ℕ)
    → GivesOver a.scene.now n.cells n.slots x (λ w. node_events w i a.next.now (bindings_of w.terms n.slots))
    (λ w. [])) is some in
    ended_next a.scene.now a.mark a.next.now a.end (views a.outer.now.items) (view a.here.now) a.cells.now
    c.next.new.cells a.slots.now c.next.new.slots c.requires.fits c.next.ensures.moves a.nest (view c.next.new.self)
    a.scene.now.code.now.kept (rw c.in-Sat.is at c.in_ok-next.ensures.gives) less
    (none a.nest)

pub search::conj_turn-returns-in-Some-End-clause-keeps : goal.search::conj_turn-returns-in-Some-End-clause-keeps
search::conj_turn-returns-in-Some-End-clause-keeps t c =
    let a = c.args in
    here_keeps a.scene.now a.mark a.next.now a.end (views a.outer.now.items) (view a.here.now) a.cells.now
    c.next.new.cells a.slots.now c.next.new.slots c.requires.fits c.next.ensures.moves a.nest (view c.next.new.self)
    c.in_ok-next.ensures.keeps

pub search::conj_turn-returns-in-Some-End-clause-moves : goal.search::conj_turn-returns-in-Some-End-clause-moves
search::conj_turn-returns-in-Some-End-clause-moves t c =
    let a = c.args in
    conj_moves a.scene.now a.mark a.next.now a.end (views a.outer.now.items) (view a.here.now) a.cells.now
    c.next.new.cells a.slots.now c.next.new.slots c.requires.fits c.next.ensures.moves

pub search::conj_turn-returns-in_ok-push_part-in-Sat-clause-more :
    goal.search::conj_turn-returns-in_ok-push_part-in-Sat-clause-more
search::conj_turn-returns-in_ok-push_part-in-Sat-clause-more t c =
    let a = c.args in
    let h = c.in_ok-push_part-in-Sat.ensures in
    let vs = views c.push_part.new.outer.items in
    let u = view c.push_part.new.here in
    let gives = rw c.in-Sat.is at c.in_ok-next.ensures.gives in
    let less : a.next.now < a.end =
    omega (arith, range_ascends (code_in a.scene.now) a.next.now a.end c.requires.fits.0) in
    let pushed =
    pushed_same a.scene.now a.mark a.next.now a.end (views a.outer.now.items) (view a.here.now) a.cells.now
    c.next.new.cells a.slots.now c.next.new.slots c.requires.fits c.next.ensures.moves a.nest (view c.next.new.self)
    a.scene.now.code.now.kept gives less c.push_part.new.next vs u h.next h.outer h.here in
    told_on a.scene.now a.mark a.next.now a.end (views a.outer.now.items) (view a.here.now) a.cells.now
    c.next.new.cells a.slots.now c.next.new.slots c.requires.fits c.next.ensures.moves a.nest (view c.next.new.self)
    a.scene.now.code.now.kept gives c.push_part.new.next vs c.told_of-told.result c.told_of-told.ensures u h.here pushed
    c.mark-mark.result c.mark-mark.ensures (view c.tell.new.self) c.tell.ensures

pub search::conj_turn-returns-in_ok-push_part-in-Sat-clause-keeps :
    goal.search::conj_turn-returns-in_ok-push_part-in-Sat-clause-keeps
search::conj_turn-returns-in_ok-push_part-in-Sat-clause-keeps t c =
    let a = c.args in
    let h = c.in_ok-push_part-in-Sat.ensures in
    let vs = views c.push_part.new.outer.items in
    let u = view c.push_part.new.here in
    let less : a.next.now < a.end =
    omega (arith, range_ascends (code_in a.scene.now) a.next.now a.end c.requires.fits.0) in
    let pushed =
    pushed_keeps a.scene.now a.mark a.next.now a.end (views a.outer.now.items) (view a.here.now) a.cells.now
    c.next.new.cells a.slots.now c.next.new.slots c.requires.fits c.next.ensures.moves a.nest (view c.next.new.self)
    a.scene.now.code.now.kept c.in_ok-next.ensures.keeps less c.push_part.new.next vs u h.next h.outer h.here in
    told_keeps_on a.scene.now a.mark a.next.now a.end (views a.outer.now.items) (view a.here.now) a.cells.now
    c.next.new.cells a.slots.now c.next.new.slots c.requires.fits c.next.ensures.moves a.nest (view c.next.new.self)
    c.push_part.new.next vs c.told_of-told.result u h.here pushed c.mark-mark.result c.mark-mark.ensures
    (view c.tell.new.self) c.tell.ensures

pub search::conj_turn-returns-in_ok-push_part-in-Sat-clause-moves :
    goal.search::conj_turn-returns-in_ok-push_part-in-Sat-clause-moves
search::conj_turn-returns-in_ok-push_part-in-Sat-clause-moves t c =
    let a = c.args in
    conj_moves a.scene.now a.mark a.next.now a.end (views a.outer.now.items) (view a.here.now) a.cells.now
    c.next.new.cells a.slots.now c.next.new.slots c.requires.fits c.next.ensures.moves

pub search::conj_turn-returns-in-Cut-clause-gives : goal.search::conj_turn-returns-in-Cut-clause-gives
search::conj_turn-returns-in-Cut-clause-gives t c =
    let a = c.args in
    cut_gives a.scene.now a.mark a.next.now a.end (views a.outer.now.items) (view a.here.now) a.cells.now
    c.next.new.cells a.slots.now c.next.new.slots c.requires.fits c.next.ensures.moves a.nest (view c.next.new.self)
    (rw c.in-Cut.is at c.in_ok-next.ensures.gives)

pub search::conj_turn-returns-in-Cut-clause-keeps : goal.search::conj_turn-returns-in-Cut-clause-keeps
search::conj_turn-returns-in-Cut-clause-keeps t c =
    let a = c.args in
    here_keeps a.scene.now a.mark a.next.now a.end (views a.outer.now.items) (view a.here.now) a.cells.now
    c.next.new.cells a.slots.now c.next.new.slots c.requires.fits c.next.ensures.moves a.nest (view c.next.new.self)
    c.in_ok-next.ensures.keeps

pub search::conj_turn-returns-in-Cut-clause-moves : goal.search::conj_turn-returns-in-Cut-clause-moves
search::conj_turn-returns-in-Cut-clause-moves t c =
    let a = c.args in
    conj_moves a.scene.now a.mark a.next.now a.end (views a.outer.now.items) (view a.here.now) a.cells.now
    c.next.new.cells a.slots.now c.next.new.slots c.requires.fits c.next.ensures.moves

pub search::conj_turn-returns-in-Fault-clause-gives : goal.search::conj_turn-returns-in-Fault-clause-gives
search::conj_turn-returns-in-Fault-clause-gives t c =
    let a = c.args in
    fault_gives a.scene.now a.mark a.next.now a.end (views a.outer.now.items) (view a.here.now) a.cells.now
    c.next.new.cells a.slots.now c.next.new.slots c.requires.fits c.next.ensures.moves a.nest (view c.next.new.self)
    c.in-Fault.fault (rw c.in-Fault.is at c.in_ok-next.ensures.gives)

pub search::conj_turn-returns-in-Fault-clause-moves : goal.search::conj_turn-returns-in-Fault-clause-moves
search::conj_turn-returns-in-Fault-clause-moves t c =
    let a = c.args in
    conj_moves a.scene.now a.mark a.next.now a.end (views a.outer.now.items) (view a.here.now) a.cells.now
    c.next.new.cells a.slots.now c.next.new.slots c.requires.fits c.next.ensures.moves

pub search::conj_turn-returns-in-Some-clause-more : goal.search::conj_turn-returns-in-Some-clause-more
search::conj_turn-returns-in-Some-clause-more t c =
    let a = c.args in
    let p = c.pop in
    let on = views_popped a.outer.now.items p.new.self.items p.result c.in-Some.last p.ensures.items c.in-Some.is in
    rw (c.pop_part.ensures.next, c.pop_part.ensures.here)
    (popped_same a.scene.now a.mark a.next.now a.end (views a.outer.now.items) (view a.here.now) a.cells.now
    c.next.new.cells a.slots.now c.next.new.slots c.requires.fits c.next.ensures.moves a.nest (view c.next.new.self)
    (rw c.in-End.is at c.in_ok-next.ensures.gives) (views c.pop.new.self.items) c.in-Some.last.next
    (view c.in-Some.last.part) on)

pub search::conj_turn-returns-in-Some-clause-keeps : goal.search::conj_turn-returns-in-Some-clause-keeps
search::conj_turn-returns-in-Some-clause-keeps t c =
    let a = c.args in
    let p = c.pop in
    let on = views_popped a.outer.now.items p.new.self.items p.result c.in-Some.last p.ensures.items c.in-Some.is in
    rw (c.pop_part.ensures.next, c.pop_part.ensures.here)
    (popped_keeps a.scene.now a.mark a.next.now a.end (views a.outer.now.items) (view a.here.now) a.cells.now
    c.next.new.cells a.slots.now c.next.new.slots c.requires.fits c.next.ensures.moves a.nest (view c.next.new.self)
    (rw c.in-End.is at c.in_ok-next.ensures.ends) (views c.pop.new.self.items) c.in-Some.last.next
    (view c.in-Some.last.part) on)

pub search::conj_turn-returns-in-Some-clause-moves : goal.search::conj_turn-returns-in-Some-clause-moves
search::conj_turn-returns-in-Some-clause-moves t c =
    let a = c.args in
    conj_moves a.scene.now a.mark a.next.now a.end (views a.outer.now.items) (view a.here.now) a.cells.now
    c.next.new.cells a.slots.now c.next.new.slots c.requires.fits c.next.ensures.moves

pub search::disj_next-returns-in_err-turn-clause-moves : goal.search::disj_next-returns-in_err-turn-clause-moves
search::disj_next-returns-in_err-turn-clause-moves t c =
    let a = c.args in
    moves_on a.mark a.cells.now c.loop-turn.cells c.disj_turn.new.cells a.slots.now c.loop-turn.slots
    c.disj_turn.new.slots
    (rises (code_in a.scene.now) (length a.cells.now) (length a.slots.now.trail)
    (Disj a.mark a.nest a.next.now a.end (view a.here.now)) c.requires.fits) c.loop-turn.invariant.moves
    c.disj_turn.ensures.moves

pub search::disj_next-returns-in-Some-clause-moves : goal.search::disj_next-returns-in-Some-clause-moves
search::disj_next-returns-in-Some-clause-moves t c =
    let a = c.args in
    moves_on a.mark a.cells.now c.loop-turn.cells c.disj_turn.new.cells a.slots.now c.loop-turn.slots
    c.disj_turn.new.slots
    (rises (code_in a.scene.now) (length a.cells.now) (length a.slots.now.trail)
    (Disj a.mark a.nest a.next.now a.end (view a.here.now)) c.requires.fits) c.loop-turn.invariant.moves
    c.disj_turn.ensures.moves

pub search::disj_next-loop-turn-preserved : goal.search::disj_next-loop-turn-preserved
search::disj_next-loop-turn-preserved t c =
    let a = c.args in
    let i = c.loop-turn.invariant in
    record {
      ready =
          ready_moved a.scene.now a.mark c.loop-turn.cells c.disj_turn.new.cells c.loop-turn.slots
          c.disj_turn.new.slots i.ready c.disj_turn.ensures.moves;
      same =
          disj_goes_on a.scene.now c.loop-turn.cells c.disj_turn.new.cells a.mark a.nest a.end a.slots.now
          c.loop-turn.slots c.disj_turn.new.slots a.next.now c.loop-turn.next c.disj_turn.new.next (view a.here.now)
          (view c.loop-turn.here) (view c.disj_turn.new.here) c.disj_turn.ensures.moves.grows i.same
          (rw c.in_default.is at c.in_ok-turn.ensures.more);
      keeps =
          keeps_on (code_in a.scene.now) (length c.loop-turn.cells) (length c.disj_turn.new.cells) c.loop-turn.slots
          c.disj_turn.new.slots (Disj a.mark a.nest a.next.now a.end (view a.here.now))
          (Disj a.mark a.nest c.loop-turn.next a.end (view c.loop-turn.here))
          (Disj a.mark a.nest c.disj_turn.new.next a.end (view c.disj_turn.new.here)) i.keeps
          (rw c.in_default.is at c.in_ok-turn.ensures.keeps);
      moves =
          moves_on a.mark a.cells.now c.loop-turn.cells c.disj_turn.new.cells a.slots.now c.loop-turn.slots
          c.disj_turn.new.slots
          (rises (code_in a.scene.now) (length a.cells.now) (length a.slots.now.trail)
          (Disj a.mark a.nest a.next.now a.end (view a.here.now)) c.requires.fits) c.loop-turn.invariant.moves
          c.disj_turn.ensures.moves;
    }

pub search::disj_turn-returns-then-next-end-clause-gives : goal.search::disj_turn-returns-then-next-end-clause-gives
search::disj_turn-returns-then-next-end-clause-gives t c =
    let a = c.args in
    last_gives a.scene.now a.mark a.nest a.next.now a.end (view a.here.now) a.cells.now c.next.new.cells a.slots.now
    c.next.new.slots c.requires.fits c.next.ensures.moves
    (view c.next.new.self) a.scene.now.code.now.kept (rw c.in-End.is at c.in_ok-event.ensures.gives) c.if-next-end.true

pub search::disj_turn-returns-else-next-end-clause-more : goal.search::disj_turn-returns-else-next-end-clause-more
search::disj_turn-returns-else-next-end-clause-more t c =
    let a = c.args in
    let less : a.next.now < a.end =
    omega (arith, range_ascends (code_in a.scene.now) a.next.now a.end c.requires.fits.0) in
    next_same a.scene.now a.mark a.nest a.next.now a.end (view a.here.now) a.cells.now c.next.new.cells a.slots.now
    c.next.new.slots c.requires.fits c.next.ensures.moves (view c.next.new.self) a.scene.now.code.now.kept
    (rw c.in-End.is at c.in_ok-event.ensures.gives) less c.next_part.new.next (view c.next_part.new.here)
    c.next_part.ensures.next c.next_part.ensures.here

pub search::disj_turn-returns-else-next-end-clause-keeps : goal.search::disj_turn-returns-else-next-end-clause-keeps
search::disj_turn-returns-else-next-end-clause-keeps t c =
    let a = c.args in
    let less : a.next.now < a.end =
    omega (arith, range_ascends (code_in a.scene.now) a.next.now a.end c.requires.fits.0) in
    next_keeps a.scene.now a.mark a.nest a.next.now a.end (view a.here.now) a.cells.now c.next.new.cells a.slots.now
    c.next.new.slots c.requires.fits c.next.ensures.moves (view c.next.new.self) a.scene.now.code.now.kept
    (rw c.in-End.is at c.in_ok-event.ensures.ends) less c.next_part.new.next (view c.next_part.new.here)
    c.next_part.ensures.next c.next_part.ensures.here

pub search::disj_turn-returns-in_default : goal.search::disj_turn-returns-in_default
search::disj_turn-returns-in_default t c =
    let a = c.args in
    record {
      gives =
          part_gives a.scene.now a.mark a.nest a.next.now a.end (view a.here.now) a.cells.now c.next.new.cells
          a.slots.now c.next.new.slots c.requires.fits c.next.ensures.moves (view c.next.new.self) c.in_ok-event.event
          c.in_default.not-End c.in_ok-event.ensures.gives;
      more = tt;
      keeps =
          goes_on c.in_ok-event.event _
          (part_keeps a.scene.now a.mark a.nest a.next.now a.end (view a.here.now) a.cells.now c.next.new.cells
          a.slots.now c.next.new.slots c.requires.fits c.next.ensures.moves (view c.next.new.self)
          c.in_ok-event.ensures.keeps);
      moves =
          disj_moves a.scene.now a.mark a.nest a.next.now a.end (view a.here.now) a.cells.now c.next.new.cells
          a.slots.now c.next.new.slots c.requires.fits c.next.ensures.moves;
    }

-- ---- branches, axioms and atoms

pub search::axiom_next-axiom_turn-requires : goal.search::axiom_next-axiom_turn-requires
search::axiom_next-axiom_turn-requires t c =
    let k = c.loop-turn.invariant in
    let whole = c.decreases in (
      omega (arith, k.keeps.lighter, whole),
      (
        k.ready,
        (
          goal_below_more (length c.args.cells.now) (length c.loop-turn.cells) c.args.goal.now
              (grows_length c.args.cells.now c.loop-turn.cells k.cells) c.requires.goal,
          k.keeps.fits,
        ),
      ),
    )

pub search::axiom_next-returns-in-Some-clause-gives : goal.search::axiom_next-returns-in-Some-clause-gives
search::axiom_next-returns-in-Some-clause-gives t c =
    let k = c.loop-turn.invariant in
    let a = c.args in
    let first = λ (x : Level) (w : Setting).
    axiom_left w a.nest (goal_of w.terms a.goal.now) (bindings_of w.terms a.slots.now) x in
    let h = c.in_ok-turn.ensures in
    gives_before a.scene.now c.axiom_turn.new.cells c.axiom_turn.new.slots c.in-Some.event (first (level_at a.run.now))
    (first (level_at c.loop-turn.run)) (first (level_at c.axiom_turn.new.run))
    (same_more a.scene.now c.loop-turn.cells c.axiom_turn.new.cells (first (level_at a.run.now))
    (first (level_at c.loop-turn.run)) h.moves.grows k.same)
    (rw (c.in-Some.is, k.slots) at h.gives)

pub search::axiom_next-loop-turn-smaller : goal.search::axiom_next-loop-turn-smaller
search::axiom_next-loop-turn-smaller t c =
    let k = c.loop-turn.invariant in
    let a = c.args in
    let h = c.in_ok-turn.ensures in
    let less = ((rw c.in_default.is at h.more) c.axiom_turn.new.cells (grows_self c.axiom_turn.new.cells)).1 in
    let same = branch_over a.scene.now c.loop-turn.cells c.axiom_turn.new.cells (code_in a.scene.now) a.nest
    (level_at c.loop-turn.run) h.moves.grows k.ready.atoms k.keeps.fits in
    let long = ap length same in
    omega (arith, less, long)

pub search::axiom_next-loop-turn-preserved : goal.search::axiom_next-loop-turn-preserved
search::axiom_next-loop-turn-preserved t c =
    let k = c.loop-turn.invariant in
    let a = c.args in
    let h = c.in_ok-turn.ensures in
    let first = λ (x : Level) (w : Setting).
    axiom_left w a.nest (goal_of w.terms a.goal.now) (bindings_of w.terms a.slots.now) x in
    let turns = λ (x : Level) (w : Setting). length (branch_left w a.nest x) in
    record {
      ready =
          ready_moved a.scene.now (length c.loop-turn.slots.trail) c.loop-turn.cells c.axiom_turn.new.cells
          c.loop-turn.slots c.axiom_turn.new.slots k.ready h.moves;
      same =
          same_on a.scene.now c.loop-turn.cells c.axiom_turn.new.cells (first (level_at a.run.now))
          (first (level_at c.loop-turn.run)) (first (level_at c.axiom_turn.new.run)) (turns (level_at c.loop-turn.run))
          (turns (level_at c.axiom_turn.new.run)) h.moves.grows k.same
          (rw (c.in_default.is, k.slots) at h.more);
      slots = (rw c.in_default.is at h.same) ∙ k.slots;
      keeps =
          axiom_kept_on (code_in a.scene.now) (length c.loop-turn.cells) (length c.axiom_turn.new.cells) a.nest
          (level_at a.run.now) (level_at c.loop-turn.run) (level_at c.axiom_turn.new.run) k.keeps
          (rw c.in_default.is at h.keeps);
      cells = grows_on a.cells.now c.loop-turn.cells c.axiom_turn.new.cells k.cells h.moves.grows;
    }

pub search::axiom_turn-conclusion-requires-clause-goal : goal.search::axiom_turn-conclusion-requires-clause-goal
search::axiom_turn-conclusion-requires-clause-goal t c =
    goal_below_more (length c.args.cells.now) (length c.branch_next.new.cells) c.args.goal.now
    (grows_length c.args.cells.now c.branch_next.new.cells c.in_ok-event.ensures.cells) c.requires.goal

pub search::axiom_turn-returns-in-Sat-clause-gives : goal.search::axiom_turn-returns-in-Sat-clause-gives
search::axiom_turn-returns-in-Sat-clause-gives t c =
    let kept = rw c.in-Sat.is at c.in_ok-event.ensures.keeps in
    concluded_gives c.args.scene.now c.branch_next.new.cells c.conclusion.new.cells c.conclusion.ensures.moves.grows
    c.args.nest c.args.goal.now c.args.slots.now c.conclusion.new.slots (level_at c.args.run.now)
    (level_at c.branch_next.new.run) kept.head (rw c.in-Sat.is at c.in_ok-event.ensures.gives) c.conclusion.result
    c.conclusion.ensures.gives c.conclusion.ensures.event

pub search::axiom_turn-returns-in-Sat-clause-keeps : goal.search::axiom_turn-returns-in-Sat-clause-keeps
search::axiom_turn-returns-in-Sat-clause-keeps t c =
    axiom_kept_may c.conclusion.result (code_in c.args.scene.now) (length c.branch_next.new.cells)
    (length c.conclusion.new.cells) c.args.nest (level_at c.args.run.now) (level_at c.branch_next.new.run)
    (grows_length c.branch_next.new.cells c.conclusion.new.cells c.conclusion.ensures.moves.grows)
    (rw c.in-Sat.is at c.in_ok-event.ensures.keeps)

pub search::axiom_turn-returns-in_default : goal.search::axiom_turn-returns-in_default
search::axiom_turn-returns-in_default t c =
    let h = c.in_ok-event.ensures in
    let slots = c.args.slots.now in
    record {
      gives =
          passed_gives c.args.scene.now c.branch_next.new.cells c.args.nest c.args.goal.now slots
          (level_at c.args.run.now) (level_at c.branch_next.new.run) (code_in c.args.scene.now)
          (length c.branch_next.new.cells) c.in_ok-event.event c.in_default.not-Sat h.keeps h.gives;
      more = tt;
      same = tt;
      keeps = h.keeps;
      moves =
          moves_none (length slots.trail) c.args.cells.now c.branch_next.new.cells slots refl h.cells
          c.requires.ready.bindings;
    }

pub search::branch_turn-returns-then-run-clause-gives : goal.search::branch_turn-returns-then-run-clause-gives
search::branch_turn-returns-then-run-clause-gives t c =
    branches_end c.args.scene.now c.args.scene.now.code.now.kept c.args.cells.now c.next.new.cells c.args.nest
    (level_at c.args.run.now) c.next.new.slots (view c.next.new.self) c.requires.fits c.in_ok-event.ensures.moves
    c.in_ok-event.ensures.keeps (rw c.in-End.is at c.in_ok-event.ensures.gives) c.if-run.true

pub search::branch_turn-returns-else-run-clause-more : goal.search::branch_turn-returns-else-run-clause-more
search::branch_turn-returns-else-run-clause-more t c =
    let less = clauses_ascend (code_in c.args.scene.now) c.args.run.now.next c.args.run.now.end c.requires.fits.1 in
    branch_follows c.args.scene.now c.args.scene.now.code.now.kept c.args.cells.now c.next.new.cells c.args.nest
    (level_at c.args.run.now) c.next.new.slots (view c.next.new.self) c.requires.fits c.in_ok-event.ensures.moves
    c.in_ok-event.ensures.keeps (level_at c.next_branch.new.run) c.next_branch.ensures.same c.next_branch.ensures.next
    (omega (arith, less, c.if-run.false)) (rw c.in-End.is at c.in_ok-event.ensures.gives)

pub search::branch_turn-returns-else-run-clause-keeps : goal.search::branch_turn-returns-else-run-clause-keeps
search::branch_turn-returns-else-run-clause-keeps t c =
    let less = clauses_ascend (code_in c.args.scene.now) c.args.run.now.next c.args.run.now.end c.requires.fits.1 in
    branch_next_keeps c.args.scene.now c.args.scene.now.code.now.kept c.args.cells.now c.next.new.cells c.args.nest
    (level_at c.args.run.now) c.next.new.slots (view c.next.new.self) c.requires.fits c.in_ok-event.ensures.moves
    c.in_ok-event.ensures.keeps (level_at c.next_branch.new.run) c.next_branch.ensures.same c.next_branch.ensures.next
    (omega (arith, less, c.if-run.false)) (rw c.in-End.is at c.in_ok-event.ensures.ends)

pub search::branch_turn-returns-in_default : goal.search::branch_turn-returns-in_default
search::branch_turn-returns-in_default t c =
    let x = level_at c.args.run.now in
    let here = view c.next.new.self in
    let fits = c.requires.fits in
    let s = c.args.scene.now in
    let code = c.args.scene.now.code.now.kept in
    let h = c.in_ok-event.ensures in
    record {
      gives =
          branch_gives s code c.args.cells.now c.next.new.cells c.args.nest x c.next.new.slots here fits h.moves h.keeps
          c.in_ok-event.event c.in_default.not-End h.gives;
      more = tt;
      keeps =
          goes_on c.in_ok-event.event _
          (branch_keeps s code c.args.cells.now c.next.new.cells c.args.nest x c.next.new.slots here fits h.moves
          h.keeps);
      cells = h.moves.grows;
    }

pub search::search_turn-returns-then-at-places-clause-gives :
    goal.search::search_turn-returns-then-at-places-clause-gives
search::search_turn-returns-then-at-places-clause-gives t c =
    let a = c.args in
    let h = c.turn_at_places.ensures in
    place_gives a.scene.now a.mark a.nest a.goal.now a.cells.now a.slots.now a.at.now a.rule.now
    (running_view a.running.now) c.requires.fits c.undo_to.new.self c.turn_at_places.new.slots c.turn_at_places.result
    c.undo_to.ensures h.bound
    c.turn_at_places.new.at h.below h.left

pub search::search_turn-returns-then-at-places-clause-more : goal.search::search_turn-returns-then-at-places-clause-more
search::search_turn-returns-then-at-places-clause-more t c =
    let a = c.args in
    let h = c.turn_at_places.ensures in
    place_more a.scene.now a.mark a.nest a.goal.now a.cells.now a.slots.now a.at.now a.rule.now
    (running_view a.running.now) c.requires.fits c.undo_to.new.self c.turn_at_places.new.slots c.turn_at_places.result
    c.undo_to.ensures h.bound
    c.turn_at_places.new.at h.below h.left (h.later (omega (arith, c.if-at-places.true, c.places.ensures)))
    (omega (arith, c.if-at-places.true, c.places.ensures))

pub search::search_turn-returns-then-at-places-clause-keeps :
    goal.search::search_turn-returns-then-at-places-clause-keeps
search::search_turn-returns-then-at-places-clause-keeps t c =
    let a = c.args in
    let h = c.turn_at_places.ensures in
    may_go_on c.turn_at_places.result _
    (place_keeps a.scene.now a.mark a.nest a.goal.now a.cells.now a.slots.now a.at.now a.rule.now
    (running_view a.running.now) c.requires.fits c.undo_to.new.self c.turn_at_places.new.slots c.turn_at_places.result
    c.undo_to.ensures h.bound
    c.turn_at_places.new.at h.below)

pub search::search_turn-returns-then-at-places-clause-moves :
    goal.search::search_turn-returns-then-at-places-clause-moves
search::search_turn-returns-then-at-places-clause-moves t c =
    let a = c.args in
    let h = c.turn_at_places.ensures in
    place_moves a.scene.now a.mark a.nest a.goal.now a.cells.now a.slots.now a.at.now a.rule.now
    (running_view a.running.now) c.requires.fits c.undo_to.new.self c.turn_at_places.new.slots c.turn_at_places.result
    c.undo_to.ensures h.bound
    h.below

pub search::search_turn-returns-in_default-clause-gives : goal.search::search_turn-returns-in_default-clause-gives
search::search_turn-returns-in_default-clause-gives t c =
    let a = c.args in
    let h = c.rule_turn.ensures in
    let moves = undo_moves a.scene.now a.mark a.nest a.goal.now a.cells.now a.slots.now a.at.now a.rule.now
    (running_view a.running.now) c.requires.fits
    c.rule_turn.new.cells c.undo_to.new.self c.undo_to.ensures h.cells c.requires.ready.bindings in
    rule_gives a.scene.now a.mark a.nest a.goal.now a.cells.now a.slots.now a.at.now a.rule.now
    (running_view a.running.now) c.requires.fits c.rule_turn.new.cells c.undo_to.new.self
    moves (ap running_view c.in_default.is) (omega (arith, c.if-at-places.false, c.places.ensures)) c.rule_turn.new.rule
    (running_view c.rule_turn.new.running)
    a.scene.now.code.now.kept c.rule_turn.result h.end

pub search::search_turn-returns-in_default-clause-more : goal.search::search_turn-returns-in_default-clause-more
search::search_turn-returns-in_default-clause-more t c =
    let a = c.args in
    let h = c.rule_turn.ensures in
    let moves = undo_moves a.scene.now a.mark a.nest a.goal.now a.cells.now a.slots.now a.at.now a.rule.now
    (running_view a.running.now) c.requires.fits
    c.rule_turn.new.cells c.undo_to.new.self c.undo_to.ensures h.cells c.requires.ready.bindings in
    rule_more a.scene.now a.mark a.nest a.goal.now a.cells.now a.slots.now a.at.now a.rule.now
    (running_view a.running.now) c.requires.fits c.rule_turn.new.cells c.undo_to.new.self
    moves (ap running_view c.in_default.is) (omega (arith, c.if-at-places.false, c.places.ensures)) c.rule_turn.new.rule
    (running_view c.rule_turn.new.running)
    c.rule_turn.result h.next h.same

pub search::search_turn-returns-in_default-clause-keeps : goal.search::search_turn-returns-in_default-clause-keeps
search::search_turn-returns-in_default-clause-keeps t c =
    let a = c.args in
    let h = c.rule_turn.ensures in
    let moves = undo_moves a.scene.now a.mark a.nest a.goal.now a.cells.now a.slots.now a.at.now a.rule.now
    (running_view a.running.now) c.requires.fits
    c.rule_turn.new.cells c.undo_to.new.self c.undo_to.ensures h.cells c.requires.ready.bindings in
    rule_keeps a.scene.now a.mark a.nest a.goal.now a.cells.now a.slots.now a.at.now a.rule.now
    (running_view a.running.now) c.requires.fits c.rule_turn.new.cells c.undo_to.new.self
    moves (ap running_view c.in_default.is) (omega (arith, c.if-at-places.false, c.places.ensures)) c.rule_turn.new.rule
    (running_view c.rule_turn.new.running)
    c.rule_turn.result h.end h.fits h.weight

pub search::search_turn-returns-in_default-clause-moves : goal.search::search_turn-returns-in_default-clause-moves
search::search_turn-returns-in_default-clause-moves t c =
    let a = c.args in
    undo_moves a.scene.now a.mark a.nest a.goal.now a.cells.now a.slots.now a.at.now a.rule.now
    (running_view a.running.now) c.requires.fits
    c.rule_turn.new.cells c.undo_to.new.self c.undo_to.ensures c.rule_turn.ensures.cells c.requires.ready.bindings

pub search::search_turn-axiom_next-requires : goal.search::search_turn-axiom_next-requires
search::search_turn-axiom_next-requires t c =
    let a = c.args in
    let s = a.scene.now in
    let run = running_some a.running.now c.in-Some.run' c.deref_mut.result.now c.in-Some.is
    (sym c.deref_mut.ensures.value) in
    let heavy = ap (search_weight (length (code_in s).nodes) a.nest) run in
    let whole = c.decreases in (
      omega (arith, whole, heavy),
      (
        record {
          atoms = c.requires.ready.atoms;
          knows = c.requires.ready.knows;
          bindings =
              below_undoing (length a.cells.now) a.mark a.slots.now c.undo_to.new.self c.undo_to.ensures
              c.requires.ready.bindings;
        },
        (
          c.requires.fits.1,
          subst (RunningFits (code_in s) (length a.cells.now) a.nest) run c.requires.fits.2,
        ),
      ),
    )

pub search::search_turn-returns-in-End-clause-more : goal.search::search_turn-returns-in-End-clause-more
search::search_turn-returns-in-End-clause-more t c =
    let a = c.args in
    let run = running_some a.running.now c.in-Some.run' c.deref_mut.result.now c.in-Some.is
    (sym c.deref_mut.ensures.value) in
    let moves = axiom_moves a.scene.now a.mark a.nest a.goal.now a.cells.now a.slots.now a.at.now a.rule.now
    (running_view a.running.now) c.requires.fits
    c.axiom_next.new.cells c.undo_to.new.self c.axiom_next.new.slots c.undo_to.ensures c.requires.ready.bindings
    c.in_ok-event.ensures.moves in
    axiom_more a.scene.now a.mark a.nest a.goal.now a.cells.now a.slots.now a.at.now a.rule.now
    (running_view a.running.now) c.requires.fits c.axiom_next.new.cells c.undo_to.new.self
    c.axiom_next.new.slots c.undo_to.ensures moves (level_at c.deref_mut.result.now) run
    (level_at c.axiom_next.new.run) (rw c.in-End.is at c.in_ok-event.ensures.gives)

pub search::search_turn-returns-in-End-clause-keeps : goal.search::search_turn-returns-in-End-clause-keeps
search::search_turn-returns-in-End-clause-keeps t c =
    let a = c.args in
    let run = running_some a.running.now c.in-Some.run' c.deref_mut.result.now c.in-Some.is
    (sym c.deref_mut.ensures.value) in
    let moves = axiom_moves a.scene.now a.mark a.nest a.goal.now a.cells.now a.slots.now a.at.now a.rule.now
    (running_view a.running.now) c.requires.fits
    c.axiom_next.new.cells c.undo_to.new.self c.axiom_next.new.slots c.undo_to.ensures c.requires.ready.bindings
    c.in_ok-event.ensures.moves in
    axiom_ended a.scene.now a.mark a.nest a.goal.now a.cells.now a.slots.now a.at.now a.rule.now
    (running_view a.running.now) c.requires.fits c.axiom_next.new.cells c.undo_to.new.self
    c.axiom_next.new.slots c.undo_to.ensures moves (level_at c.deref_mut.result.now) run

pub search::search_turn-returns-in_default-2 : goal.search::search_turn-returns-in_default-2
search::search_turn-returns-in_default-2 t c =
    let a = c.args in
    let h = c.in_ok-event.ensures in
    let z = c.in_ok-event.event in
    let same = ap under (level_is c.axiom_next.new.run) in
    let run = running_some a.running.now c.in-Some.run' c.deref_mut.result.now c.in-Some.is
    (sym c.deref_mut.ensures.value) in
    let moves = axiom_moves a.scene.now a.mark a.nest a.goal.now a.cells.now a.slots.now a.at.now a.rule.now
    (running_view a.running.now) c.requires.fits
    c.axiom_next.new.cells c.undo_to.new.self c.axiom_next.new.slots c.undo_to.ensures c.requires.ready.bindings
    c.in_ok-event.ensures.moves in
    record {
      gives =
          axiom_gives a.scene.now a.mark a.nest a.goal.now a.cells.now a.slots.now a.at.now a.rule.now
          (running_view a.running.now) c.requires.fits c.axiom_next.new.cells c.undo_to.new.self
          c.axiom_next.new.slots c.undo_to.ensures moves (level_at c.deref_mut.result.now) run
          (omega (arith, c.if-at-places.false, c.places.ensures))
          (level_at c.axiom_next.new.run) (under (level_of c.axiom_next.new.run)) same z c.in_default-2.not-End h.gives;
      more = tt;
      keeps =
          axiom_keeps a.scene.now a.mark a.nest a.goal.now a.cells.now a.slots.now a.at.now a.rule.now
          (running_view a.running.now) c.requires.fits c.axiom_next.new.cells c.undo_to.new.self
          c.axiom_next.new.slots c.undo_to.ensures moves (level_at c.deref_mut.result.now) run
          (omega (arith, c.if-at-places.false, c.places.ensures))
          (level_at c.axiom_next.new.run) (under (level_of c.axiom_next.new.run)) same z h.keeps;
      moves = moves;
    }

-- ---- negations

pub search::counter_turn-returns-in_err-event-in-Sat-clause-moves :
    goal.search::counter_turn-returns-in_err-event-in-Sat-clause-moves
search::counter_turn-returns-in_err-event-in-Sat-clause-moves t c =
    let a = c.args in
    let n = c.next.new in
    moves_above (code_in a.scene.now) (view a.inner.now) (view n.self) a.cells.now n.cells c.denied.new.cells
    a.slots.now n.slots c.denied.new.slots _ c.requires.fits c.in_ok-event.ensures.keeps c.mark-mark.ensures
    c.next.ensures.moves c.denied.ensures.moves

pub search::counter_turn-returns-in_ok-event-in-Sat-clause-keeps :
    goal.search::counter_turn-returns-in_ok-event-in-Sat-clause-keeps
search::counter_turn-returns-in_ok-event-in-Sat-clause-keeps t c =
    let a = c.args in
    let n = c.next.new in
    keeps_more (code_in a.scene.now) (view a.inner.now) (view n.self) (length n.cells) (length c.denied.new.cells)
    n.slots c.denied.new.slots (grows_length n.cells c.denied.new.cells c.denied.ensures.moves.grows)
    c.in_ok-event-in-Sat.ensures.ends c.in_ok-event.ensures.keeps

pub search::denied-returns-in-Some-clause-moves : goal.search::denied-returns-in-Some-clause-moves
search::denied-returns-in-Some-clause-moves t c =
    let a = c.args in moves_nothing a.mark a.cells.now a.slots.now c.requires.mark c.requires.ready.bindings

pub search::denied-returns-in-Some-clause-gives : goal.search::denied-returns-in-Some-clause-gives
search::denied-returns-in-Some-clause-gives t c = c.in-Some.ensures c.args.nest

pub search::denied-loop-inner-init : goal.search::denied-loop-inner-init
search::denied-loop-inner-init t c =
    let a = c.args in
    let o =
    opens a.scene.now a.cells.now a.slots.now a.mark a.nest a.node (view _) (view_fresh a.mark a.nest a.node)
    c.requires.mark c.requires.node in
    record {
      ready = c.requires.ready;
      found = λ terms g. ap finding (sym (o.same (setting_of a.scene.now terms)));
      fits = o.fits;
      start = o.start;
      lighter = o.lighter;
      moves = moves_nothing a.mark a.cells.now a.slots.now c.requires.mark c.requires.ready.bindings;
    }

pub search::denied-loop-inner-smaller : goal.search::denied-loop-inner-smaller
search::denied-loop-inner-smaller t c =
    let l = c.loop-inner in
    let i = c.loop-inner.invariant in
    let n = c.next.new in
    shorter_cut c.args.scene.now l.cells n.cells c.next.ensures.moves.grows i.ready.atoms l.slots n.slots
    i.ready.bindings (length l.slots.trail) (view l.inner) (view n.self) i.fits
    (rw c.in-Cut.is at c.in_ok-next.ensures.gives)

pub search::denied-loop-inner-preserved : goal.search::denied-loop-inner-preserved
search::denied-loop-inner-preserved t c =
    let a = c.args in
    let l = c.loop-inner in
    let i = c.loop-inner.invariant in
    let k = c.in_ok-next.ensures.keeps in
    let m = c.next.ensures.moves in
    let n = c.next.new in
    record {
      ready = ready_moved a.scene.now _ l.cells n.cells l.slots n.slots i.ready m;
      found =
          found_cut a.scene.now l.cells n.cells m.grows l.cut
          (λ w. node_events w a.nest a.node (bindings_of w.terms a.slots.now)) (λ w. left w l.slots (view l.inner))
          (λ w. left w n.slots (view n.self)) i.found n.slots (rw c.in-Cut.is at c.in_ok-next.ensures.gives);
      fits = k.fits;
      start = k.start ∙ i.start;
      lighter = omega (arith, k.lighter, i.lighter);
      moves =
          moves_further _ a.mark a.cells.now l.cells n.cells a.slots.now l.slots n.slots i.start c.requires.mark
          i.moves m;
    }

pub search::denied-returns-in-Fault-clause-gives : goal.search::denied-returns-in-Fault-clause-gives
search::denied-returns-in-Fault-clause-gives t c =
    let a = c.args in
    let l = c.loop-inner in
    let n = c.next.new in
    denied_fault a.scene.now l.cells n.cells c.next.ensures.moves.grows l.cut
    (λ w. node_events w a.nest a.node (bindings_of w.terms a.slots.now)) (λ w. left w l.slots (view l.inner))
    (λ w. left w n.slots (view n.self)) l.invariant.found n.slots n.slots a.slots.now c.in-Fault.fault
    (rw c.in-Fault.is at c.in_ok-next.ensures.gives)

pub search::for_all-loop-inner-init : goal.search::for_all-loop-inner-init
search::for_all-loop-inner-init t c =
    let a = c.args in
    let o =
    opens a.scene.now a.cells.now a.slots.now a.mark a.nest a.range (view _) (view_fresh a.mark a.nest a.range)
    c.requires.mark c.requires.range in
    record {
      ready = c.requires.ready;
      found =
          λ terms g. let w = setting_of a.scene.now terms in
          ap (λ xs. finding (counters w a.nest a.then xs)) (sym (o.same w));
      fits = o.fits;
      start = o.start;
      lighter = o.lighter;
      moves = moves_nothing a.mark a.cells.now a.slots.now c.requires.mark c.requires.ready.bindings;
    }

pub search::for_all-returns-in-Some-Sat-clause-moves : goal.search::for_all-returns-in-Some-Sat-clause-moves
search::for_all-returns-in-Some-Sat-clause-moves t c =
    let a = c.args in
    let l = c.loop-inner in
    let n = c.counter_turn.new in
    moves_back _ a.mark a.cells.now l.cells n.cells a.slots.now l.slots n.slots c.undo_to.new.self l.invariant.start
    c.requires.mark l.invariant.moves c.counter_turn.ensures.moves c.undo_to.ensures

pub search::for_all-loop-inner-smaller-in-Some-Cut : goal.search::for_all-loop-inner-smaller-in-Some-Cut
search::for_all-loop-inner-smaller-in-Some-Cut t c =
    let l = c.loop-inner in
    let i = c.loop-inner.invariant in
    let n = c.counter_turn.new in
    let some = rw c.in-Some-Cut.is at c.in_ok-counter_turn.ensures.shorter in
    let less = rw c.in-Some-Cut.field-0-is at some in
    shorter c.args.scene.now l.cells n.cells c.counter_turn.ensures.moves.grows i.ready.atoms l.slots n.slots
    i.ready.bindings (length l.slots.trail) (view l.inner) (view n.inner) i.fits (less n.cells (grows_self n.cells))

pub search::for_all-loop-inner-preserved-in-Some-Cut : goal.search::for_all-loop-inner-preserved-in-Some-Cut
search::for_all-loop-inner-preserved-in-Some-Cut t c =
    let a = c.args in
    let l = c.loop-inner in
    let i = c.loop-inner.invariant in
    let k = c.in_ok-counter_turn.ensures.keeps in
    let m = c.counter_turn.ensures.moves in
    let n = c.counter_turn.new in
    let some = rw c.in-Some-Cut.is at c.in_ok-counter_turn.ensures.gives in
    let gives = rw c.in-Some-Cut.field-0-is at some in
    record {
      ready = ready_moved a.scene.now _ l.cells n.cells l.slots n.slots i.ready m;
      found =
          found_cut a.scene.now l.cells n.cells m.grows l.cut
          (λ w. counters w a.nest a.then (node_events w a.nest a.range (bindings_of w.terms a.slots.now)))
          (λ w. counters w a.nest a.then (left w l.slots (view l.inner)))
          (λ w. counters w a.nest a.then (left w n.slots (view n.inner))) i.found n.slots gives;
      fits = k.fits;
      start = k.start ∙ i.start;
      lighter = omega (arith, k.lighter, i.lighter);
      moves =
          moves_further _ a.mark a.cells.now l.cells n.cells a.slots.now l.slots n.slots i.start c.requires.mark
          i.moves m;
    }

pub search::for_all-returns-in-Some-Fault-clause-gives : goal.search::for_all-returns-in-Some-Fault-clause-gives
search::for_all-returns-in-Some-Fault-clause-gives t c =
    let a = c.args in
    let l = c.loop-inner in
    let n = c.counter_turn.new in
    let some = rw c.in-Some-Fault.is at c.in_ok-counter_turn.ensures.gives in
    let gives = rw c.in-Some-Fault.field-0-is at some in
    denied_fault a.scene.now l.cells n.cells c.counter_turn.ensures.moves.grows l.cut
    (λ w. counters w a.nest a.then (node_events w a.nest a.range (bindings_of w.terms a.slots.now)))
    (λ w. counters w a.nest a.then (left w l.slots (view l.inner)))
    (λ w. counters w a.nest a.then (left w n.slots (view n.inner))) l.invariant.found n.slots
    c.undo_to-in-Some-Fault.new.self a.slots.now c.in-Some-Fault.fault gives

pub search::for_all-returns-in-Some-Fault-clause-moves : goal.search::for_all-returns-in-Some-Fault-clause-moves
search::for_all-returns-in-Some-Fault-clause-moves t c =
    let a = c.args in
    let l = c.loop-inner in
    let n = c.counter_turn.new in
    moves_back _ a.mark a.cells.now l.cells n.cells a.slots.now l.slots n.slots c.undo_to-in-Some-Fault.new.self
    l.invariant.start c.requires.mark l.invariant.moves c.counter_turn.ensures.moves c.undo_to-in-Some-Fault.ensures

pub search::for_all-loop-inner-smaller : goal.search::for_all-loop-inner-smaller
search::for_all-loop-inner-smaller t c =
    let l = c.loop-inner in
    let i = c.loop-inner.invariant in
    let n = c.counter_turn.new in
    let more = rw c.in-None.is at c.in_ok-counter_turn.ensures.more in
    shorter c.args.scene.now l.cells n.cells c.counter_turn.ensures.moves.grows i.ready.atoms l.slots n.slots
    i.ready.bindings (length l.slots.trail) (view l.inner) (view n.inner) i.fits (more n.cells (grows_self n.cells)).1

pub search::for_all-loop-inner-preserved : goal.search::for_all-loop-inner-preserved
search::for_all-loop-inner-preserved t c =
    let a = c.args in
    let l = c.loop-inner in
    let i = c.loop-inner.invariant in
    let k = c.in_ok-counter_turn.ensures.keeps in
    let m = c.counter_turn.ensures.moves in
    let n = c.counter_turn.new in
    let more = rw c.in-None.is at c.in_ok-counter_turn.ensures.more in
    record {
      ready = ready_moved a.scene.now _ l.cells n.cells l.slots n.slots i.ready m;
      found =
          found_same a.scene.now l.cells n.cells m.grows l.cut
          (λ w. counters w a.nest a.then (node_events w a.nest a.range (bindings_of w.terms a.slots.now)))
          (λ w. counters w a.nest a.then (left w l.slots (view l.inner)))
          (λ w. counters w a.nest a.then (left w n.slots (view n.inner))) i.found (λ terms h. (more terms h).0);
      fits = k.fits;
      start = k.start ∙ i.start;
      lighter = omega (arith, k.lighter, i.lighter);
      moves =
          moves_further _ a.mark a.cells.now l.cells n.cells a.slots.now l.slots n.slots i.start c.requires.mark
          i.moves m;
    }

pub search::once-node_at-requires : goal.search::once-node_at-requires
search::once-node_at-requires t c = expression_within (code_in c.args.scene.now) c.args.node c.requires.node

pub search::once-denied-requires : goal.search::once-denied-requires
search::once-denied-requires t c =
    let a = c.args in
    let here = expression_within (code_in a.scene.now) a.node c.requires.node in
    let nodes = length (code_in a.scene.now).nodes in
    let lighter = further_weighs_less nodes a.nest a.node (a.node + 1) here (omega arith) in
    let part =
    not_part (setting_of a.scene.now a.cells.now) a.nest a.node a.scene.now.code.now.kept c.requires.node
    (laid_of c.node_at.result.now) c.node_at.ensures.is (ap operation_of c.in-Not.is) in
    (omega (arith, c.decreases, lighter), (c.requires.ready, (c.requires.mark, part)))

pub search::once-node_at-requires-in-Forall : goal.search::once-node_at-requires-in-Forall
search::once-node_at-requires-in-Forall t c =
    let a = c.args in
    expression_within (code_in a.scene.now) (a.node + 1)
    (forall_part (setting_of a.scene.now a.cells.now) a.nest a.node a.scene.now.code.now.kept c.requires.node
    (laid_of c.node_at.result.now) c.node_at.ensures.is (ap operation_of c.in-Forall.is))

pub search::once-for_all-requires : goal.search::once-for_all-requires
search::once-for_all-requires t c =
    let a = c.args in
    let here = expression_within (code_in a.scene.now) a.node c.requires.node in
    let second = c.node_at-in-Forall.result.now in
    let f =
    forall_met (setting_of a.scene.now a.cells.now) a.nest a.node a.scene.now.code.now.kept c.requires.node
    (laid_of c.node_at.result.now) c.node_at.ensures.is (ap operation_of c.in-Forall.is) (laid_of second)
    c.node_at-in-Forall.ensures.is in
    let nodes = length (code_in a.scene.now).nodes in
    let range_lighter = further_weighs_less nodes a.nest a.node (a.node + 1) here (omega arith) in
    let then_lighter = further_weighs_less nodes a.nest a.node second.to here (omega (arith, f.more)) in (
      omega (arith, c.decreases, range_lighter, then_lighter),
      (c.requires.ready, (c.requires.mark, (f.first, (f.second, f.more)))),
    )

pub search::once-returns-in_ok-event-in-Not-clause-gives : goal.search::once-returns-in_ok-event-in-Not-clause-gives
search::once-returns-in_ok-event-in-Not-clause-gives t c =
    let a = c.args in
    not_gives a.scene.now c.denied.new.cells a.nest a.node a.slots.now c.denied.new.slots c.in_ok-event-in-Not.event
    a.scene.now.code.now.kept c.requires.node (laid_of c.node_at.result.now) c.node_at.ensures.is
    (ap operation_of c.in-Not.is) c.in_ok-event-in-Not.ensures.gives

pub search::once-returns-in_ok-event-in-Forall-clause-gives :
    goal.search::once-returns-in_ok-event-in-Forall-clause-gives
search::once-returns-in_ok-event-in-Forall-clause-gives t c =
    let a = c.args in
    forall_gives a.scene.now c.for_all.new.cells a.nest a.node a.slots.now c.for_all.new.slots
    c.in_ok-event-in-Forall.event a.scene.now.code.now.kept c.requires.node (laid_of c.node_at.result.now)
    c.node_at.ensures.is (ap operation_of c.in-Forall.is) (laid_of c.node_at-in-Forall.result.now)
    c.node_at-in-Forall.ensures.is c.in_ok-event-in-Forall.ensures.gives

pub search::once-returns-in_ok-event-in-Assign-clause-gives :
    goal.search::once-returns-in_ok-event-in-Assign-clause-gives
search::once-returns-in_ok-event-in-Assign-clause-gives t c =
    let a = c.args in
    assign_gives a.scene.now c.assigned.new.cells a.nest a.node a.slots.now c.assigned.new.slots
    c.in_ok-event-in-Assign.event a.scene.now.code.now.kept c.requires.node (laid_of c.node_at.result.now)
    c.node_at.ensures.is c.in-Assign.v (pattern_of c.in-Assign.pattern) (ap operation_of c.in-Assign.is)
    c.in_ok-event-in-Assign.ensures.gives

pub search::once-returns-in_ok-event-in-Call-clause-gives : goal.search::once-returns-in_ok-event-in-Call-clause-gives
search::once-returns-in_ok-event-in-Call-clause-gives t c =
    let a = c.args in
    test_gives a.scene.now c.tested.new.cells a.nest a.node a.slots.now c.tested.new.slots c.in_ok-event-in-Call.event
    a.scene.now.code.now.kept c.requires.node (laid_of c.node_at.result.now) c.node_at.ensures.is
    (pattern_of c.in-Call.call) (ap operation_of c.in-Call.is) c.in_ok-event-in-Call.ensures.gives

pub search::once-held_event-requires-clause-atom : goal.search::once-held_event-requires-clause-atom
search::once-held_event-requires-clause-atom t c =
    atom_found (code_in c.args.scene.now) c.args.node (laid_of c.node_at.result.now) c.node_at.ensures.is
    (atom_of c.in-Atom.atom) (ap operation_of c.in-Atom.is)

pub search::once-returns-in-Atom-clause-gives : goal.search::once-returns-in-Atom-clause-gives
search::once-returns-in-Atom-clause-gives t c =
    let a = c.args in
    IfSome_then c.held_event.result c.held_event.ensures
    (λ x h. holds_gives a.scene.now a.cells.now a.nest a.node a.slots.now a.slots.now x a.scene.now.code.now.kept
    c.requires.node (laid_of c.node_at.result.now) c.node_at.ensures.is (atom_of c.in-Atom.atom)
    (ap operation_of c.in-Atom.is) (h a.nest))

-- ---- all variants

pub suspended::Suspended::step-undo_to-requires : goal.suspended::Suspended::step-undo_to-requires
suspended::Suspended::step-undo_to-requires t c =
    let a = c.args in
    let i = c.in-One in
    record {
      earlier = one_within a.self.now i.mark i.event i.is _ i.mark-is _ i.event-is a.scene.now a.cells.now
          a.slots.now c.requires.fits;
    }

pub suspended::Suspended::step-unreachable-requires : goal.suspended::Suspended::step-unreachable-requires
suspended::Suspended::step-unreachable-requires t c =
    let i = c.in-Fresh in
    rw (ap view i.is ∙ view_fresh i.mark i.nest i.node) at c.requires.begun

pub suspended::Suspended::step-unreachable-requires-in-Simple :
    goal.suspended::Suspended::step-unreachable-requires-in-Simple
suspended::Suspended::step-unreachable-requires-in-Simple t c =
    let i = c.in-Simple in
    rw (ap view i.is ∙ view_simple i.field-0) at c.requires.begun

pub suspended::Suspended::step-search_next-requires : goal.suspended::Suspended::step-search_next-requires
suspended::Suspended::step-search_next-requires t c =
    let a = c.args in
    let i = c.in-Search in
    let was = search_was a.self.now i.mark i.nest i.goal i.at i.rule i.running i.is _ _ _ _ _ _
    i.mark-is i.nest-is i.goal-is i.at-is i.rule-is i.running-is in
    let more = search_weighs a.self.now i.mark i.nest i.goal i.at i.rule i.running i.is _ _ _ _ _ _
    i.mark-is i.nest-is i.goal-is i.at-is i.rule-is i.running-is (length (code_in a.scene.now).nodes) in
    (omega (arith, c.decreases, more), (c.requires.ready, rw was at c.requires.fits))

pub suspended::Suspended::step-returns-in_err-event-in-Search-clause-moves :
    goal.suspended::Suspended::step-returns-in_err-event-in-Search-clause-moves
suspended::Suspended::step-returns-in_err-event-in-Search-clause-moves t c =
    let a = c.args in
    let i = c.in-Search in
    search_call_moves a.self.now i.mark i.nest i.goal i.at i.rule i.running i.is _ _ _ _ _ _
    i.mark-is i.nest-is i.goal-is i.at-is i.rule-is i.running-is a.scene.now End c.search_next.new.cells a.slots.now
    c.search_next.new.slots c.search_next.new.at c.search_next.new.rule c.search_next.new.running a.cells.now
    c.in_err-event-in-Search.ensures.moves

pub suspended::Suspended::step-conj_next-requires : goal.suspended::Suspended::step-conj_next-requires
suspended::Suspended::step-conj_next-requires t c =
    let a = c.args in
    let i = c.in-Conj in
    let was = conj_was a.self.now i.mark i.nest i.next i.end i.outer i.here i.is _ _ _ _ _ _ i.mark-is i.nest-is
    i.next-is i.end-is i.outer-is
    i.here-is c.deref_mut.result.now c.deref_mut.ensures.value in
    let more = conj_weighs a.self.now i.mark i.nest i.next i.end i.outer i.here i.is _ _ _ _ _ _ i.mark-is i.nest-is
    i.next-is i.end-is i.outer-is
    i.here-is c.deref_mut.result.now c.deref_mut.ensures.value (length (code_in a.scene.now).nodes) in
    (omega (arith, c.decreases, more), (c.requires.ready, rw was at c.requires.fits))

pub suspended::Suspended::step-returns-in_err-event-in-Conj-clause-moves :
    goal.suspended::Suspended::step-returns-in_err-event-in-Conj-clause-moves
suspended::Suspended::step-returns-in_err-event-in-Conj-clause-moves t c =
    let a = c.args in
    let i = c.in-Conj in
    conj_call_moves a.self.now i.mark i.nest i.next i.end i.outer i.here i.is _ _ _ _ _ _ i.mark-is i.nest-is
    i.next-is i.end-is
    i.outer-is i.here-is c.deref_mut.result.now c.deref_mut.ensures.value a.scene.now End
    c.conj_next.new.cells a.slots.now c.conj_next.new.slots c.conj_next.new.next c.conj_next.new.outer i.here
    a.cells.now c.in_err-event-in-Conj.ensures.moves

pub suspended::Suspended::step-disj_next-requires : goal.suspended::Suspended::step-disj_next-requires
suspended::Suspended::step-disj_next-requires t c =
    let a = c.args in
    let i = c.in-Disj in
    let was = disj_was a.self.now i.mark i.nest i.next i.end i.here i.is _ _ _ _ _
    i.mark-is i.nest-is i.next-is i.end-is i.here-is c.deref_mut-in-Disj.result.now c.deref_mut-in-Disj.ensures.value in
    let more = disj_weighs a.self.now i.mark i.nest i.next i.end i.here i.is _ _ _ _ _
    i.mark-is i.nest-is i.next-is i.end-is i.here-is c.deref_mut-in-Disj.result.now c.deref_mut-in-Disj.ensures.value
    (length (code_in a.scene.now).nodes) in
    (omega (arith, c.decreases, more), (c.requires.ready, rw was at c.requires.fits))

pub suspended::Suspended::step-returns-in_err-event-in-Disj-clause-moves :
    goal.suspended::Suspended::step-returns-in_err-event-in-Disj-clause-moves
suspended::Suspended::step-returns-in_err-event-in-Disj-clause-moves t c =
    let a = c.args in
    let i = c.in-Disj in
    disj_call_moves a.self.now i.mark i.nest i.next i.end i.here i.is _ _ _ _ _
    i.mark-is i.nest-is i.next-is i.end-is i.here-is c.deref_mut-in-Disj.result.now c.deref_mut-in-Disj.ensures.value
    a.scene.now End c.disj_next.new.cells a.slots.now
    c.disj_next.new.slots c.disj_next.new.next i.here a.cells.now c.in_err-event-in-Disj.ensures.moves

pub suspended::Suspended::step-returns-in-One-clause-gives : goal.suspended::Suspended::step-returns-in-One-clause-gives
suspended::Suspended::step-returns-in-One-clause-gives t c =
    let a = c.args in
    let i = c.in-One in
    one_gives a.self.now i.mark i.event i.is _ i.mark-is _ i.event-is a.scene.now a.cells.now a.slots.now
    c.requires.fits c.undo_to.new.self c.undo_to.ensures _ c.replace-given.ensures.after
    c.replace-given.result c.replace-given.ensures.value

pub suspended::Suspended::step-returns-in-One-clause-keeps : goal.suspended::Suspended::step-returns-in-One-clause-keeps
suspended::Suspended::step-returns-in-One-clause-keeps t c =
    let a = c.args in
    let i = c.in-One in
    one_keeps a.self.now i.mark i.event i.is _ i.mark-is _ i.event-is a.scene.now a.cells.now a.slots.now
    c.requires.fits c.undo_to.new.self c.undo_to.ensures _ c.replace-given.ensures.after
    c.replace-given.result

pub suspended::Suspended::step-returns-in-One-clause-start : goal.suspended::Suspended::step-returns-in-One-clause-start
suspended::Suspended::step-returns-in-One-clause-start t c =
    let a = c.args in
    let i = c.in-One in
    one_start a.self.now i.mark i.event i.is _ i.mark-is _ i.event-is a.scene.now a.cells.now a.slots.now
    c.requires.fits c.undo_to.new.self c.undo_to.ensures _ c.replace-given.ensures.after

pub suspended::Suspended::step-returns-in-One-clause-moves : goal.suspended::Suspended::step-returns-in-One-clause-moves
suspended::Suspended::step-returns-in-One-clause-moves t c =
    let a = c.args in
    let i = c.in-One in
    one_moves a.self.now i.mark i.event i.is _ i.mark-is _ i.event-is a.scene.now a.cells.now a.slots.now
    c.requires.fits c.undo_to.new.self c.undo_to.ensures _ c.replace-given.ensures.after c.requires.ready.bindings

pub suspended::Suspended::step-returns-in_ok-event-in-Search-clause-gives :
    goal.suspended::Suspended::step-returns-in_ok-event-in-Search-clause-gives
suspended::Suspended::step-returns-in_ok-event-in-Search-clause-gives t c =
    let a = c.args in
    let i = c.in-Search in
    search_gives a.self.now i.mark i.nest i.goal i.at i.rule i.running i.is _ _ _ _ _ _
    i.mark-is i.nest-is i.goal-is i.at-is i.rule-is i.running-is a.scene.now c.in_ok-event-in-Search.event
    c.search_next.new.cells a.slots.now
    c.search_next.new.slots c.search_next.new.at c.search_next.new.rule c.search_next.new.running
    c.in_ok-event-in-Search.ensures.gives

pub suspended::Suspended::step-returns-in_ok-event-in-Search-clause-keeps :
    goal.suspended::Suspended::step-returns-in_ok-event-in-Search-clause-keeps
suspended::Suspended::step-returns-in_ok-event-in-Search-clause-keeps t c =
    let a = c.args in
    let i = c.in-Search in
    search_keeps a.self.now i.mark i.nest i.goal i.at i.rule i.running i.is _ _ _ _ _ _
    i.mark-is i.nest-is i.goal-is i.at-is i.rule-is i.running-is a.scene.now c.in_ok-event-in-Search.event
    c.search_next.new.cells a.slots.now
    c.search_next.new.slots c.search_next.new.at c.search_next.new.rule c.search_next.new.running
    c.in_ok-event-in-Search.ensures.keeps

pub suspended::Suspended::step-returns-in_ok-event-in-Search-clause-start :
    goal.suspended::Suspended::step-returns-in_ok-event-in-Search-clause-start
suspended::Suspended::step-returns-in_ok-event-in-Search-clause-start t c =
    let a = c.args in
    let i = c.in-Search in
    search_start a.self.now i.mark i.nest i.goal i.at i.rule i.running i.is _ _ _ _ _ _
    i.mark-is i.nest-is i.goal-is i.at-is i.rule-is i.running-is a.scene.now c.in_ok-event-in-Search.event
    c.search_next.new.cells a.slots.now
    c.search_next.new.slots c.search_next.new.at c.search_next.new.rule c.search_next.new.running

pub suspended::Suspended::step-returns-in_ok-event-in-Search-clause-moves :
    goal.suspended::Suspended::step-returns-in_ok-event-in-Search-clause-moves
suspended::Suspended::step-returns-in_ok-event-in-Search-clause-moves t c =
    let a = c.args in
    let i = c.in-Search in
    search_call_moves a.self.now i.mark i.nest i.goal i.at i.rule i.running i.is _ _ _ _ _ _
    i.mark-is i.nest-is i.goal-is i.at-is i.rule-is i.running-is a.scene.now c.in_ok-event-in-Search.event
    c.search_next.new.cells a.slots.now
    c.search_next.new.slots c.search_next.new.at c.search_next.new.rule c.search_next.new.running a.cells.now
    c.in_ok-event-in-Search.ensures.moves

pub suspended::Suspended::step-returns-in_ok-event-in-Conj-clause-gives :
    goal.suspended::Suspended::step-returns-in_ok-event-in-Conj-clause-gives
suspended::Suspended::step-returns-in_ok-event-in-Conj-clause-gives t c =
    let a = c.args in
    let i = c.in-Conj in
    conj_gives a.self.now i.mark i.nest i.next i.end i.outer i.here i.is _ _ _ _ _ _ i.mark-is i.nest-is i.next-is
    i.end-is i.outer-is
    i.here-is c.deref_mut.result.now c.deref_mut.ensures.value a.scene.now c.in_ok-event-in-Conj.event
    c.conj_next.new.cells a.slots.now c.conj_next.new.slots c.conj_next.new.next c.conj_next.new.outer _
    c.in_ok-event-in-Conj.ensures.gives

pub suspended::Suspended::step-returns-in_ok-event-in-Conj-clause-keeps :
    goal.suspended::Suspended::step-returns-in_ok-event-in-Conj-clause-keeps
suspended::Suspended::step-returns-in_ok-event-in-Conj-clause-keeps t c =
    let a = c.args in
    let i = c.in-Conj in
    conj_keeps a.self.now i.mark i.nest i.next i.end i.outer i.here i.is _ _ _ _ _ _ i.mark-is i.nest-is i.next-is
    i.end-is i.outer-is
    i.here-is c.deref_mut.result.now c.deref_mut.ensures.value a.scene.now c.in_ok-event-in-Conj.event
    c.conj_next.new.cells a.slots.now c.conj_next.new.slots c.conj_next.new.next c.conj_next.new.outer _
    c.in_ok-event-in-Conj.ensures.keeps

pub suspended::Suspended::step-returns-in_ok-event-in-Conj-clause-start :
    goal.suspended::Suspended::step-returns-in_ok-event-in-Conj-clause-start
suspended::Suspended::step-returns-in_ok-event-in-Conj-clause-start t c =
    let a = c.args in
    let i = c.in-Conj in
    conj_start a.self.now i.mark i.nest i.next i.end i.outer i.here i.is _ _ _ _ _ _ i.mark-is i.nest-is i.next-is
    i.end-is i.outer-is
    i.here-is c.deref_mut.result.now c.deref_mut.ensures.value a.scene.now c.in_ok-event-in-Conj.event
    c.conj_next.new.cells a.slots.now c.conj_next.new.slots c.conj_next.new.next c.conj_next.new.outer _

pub suspended::Suspended::step-returns-in_ok-event-in-Conj-clause-moves :
    goal.suspended::Suspended::step-returns-in_ok-event-in-Conj-clause-moves
suspended::Suspended::step-returns-in_ok-event-in-Conj-clause-moves t c =
    let a = c.args in
    let i = c.in-Conj in
    conj_call_moves a.self.now i.mark i.nest i.next i.end i.outer i.here i.is _ _ _ _ _ _ i.mark-is i.nest-is
    i.next-is i.end-is i.outer-is
    i.here-is c.deref_mut.result.now c.deref_mut.ensures.value a.scene.now c.in_ok-event-in-Conj.event
    c.conj_next.new.cells a.slots.now c.conj_next.new.slots c.conj_next.new.next c.conj_next.new.outer i.here
    a.cells.now c.in_ok-event-in-Conj.ensures.moves

pub suspended::Suspended::step-returns-in_ok-event-in-Disj-clause-gives :
    goal.suspended::Suspended::step-returns-in_ok-event-in-Disj-clause-gives
suspended::Suspended::step-returns-in_ok-event-in-Disj-clause-gives t c =
    let a = c.args in
    let i = c.in-Disj in
    disj_gives a.self.now i.mark i.nest i.next i.end i.here i.is _ _ _ _ _
    i.mark-is i.nest-is i.next-is i.end-is i.here-is c.deref_mut-in-Disj.result.now c.deref_mut-in-Disj.ensures.value
    a.scene.now c.in_ok-event-in-Disj.event c.disj_next.new.cells a.slots.now
    c.disj_next.new.slots c.disj_next.new.next _ c.in_ok-event-in-Disj.ensures.gives

pub suspended::Suspended::step-returns-in_ok-event-in-Disj-clause-keeps :
    goal.suspended::Suspended::step-returns-in_ok-event-in-Disj-clause-keeps
suspended::Suspended::step-returns-in_ok-event-in-Disj-clause-keeps t c =
    let a = c.args in
    let i = c.in-Disj in
    disj_keeps a.self.now i.mark i.nest i.next i.end i.here i.is _ _ _ _ _
    i.mark-is i.nest-is i.next-is i.end-is i.here-is c.deref_mut-in-Disj.result.now c.deref_mut-in-Disj.ensures.value
    a.scene.now c.in_ok-event-in-Disj.event c.disj_next.new.cells a.slots.now
    c.disj_next.new.slots c.disj_next.new.next _ c.in_ok-event-in-Disj.ensures.keeps

pub suspended::Suspended::step-returns-in_ok-event-in-Disj-clause-start :
    goal.suspended::Suspended::step-returns-in_ok-event-in-Disj-clause-start
suspended::Suspended::step-returns-in_ok-event-in-Disj-clause-start t c =
    let a = c.args in
    let i = c.in-Disj in
    disj_start a.self.now i.mark i.nest i.next i.end i.here i.is _ _ _ _ _
    i.mark-is i.nest-is i.next-is i.end-is i.here-is c.deref_mut-in-Disj.result.now c.deref_mut-in-Disj.ensures.value
    a.scene.now c.in_ok-event-in-Disj.event c.disj_next.new.cells a.slots.now
    c.disj_next.new.slots c.disj_next.new.next _

pub suspended::Suspended::step-returns-in_ok-event-in-Disj-clause-moves :
    goal.suspended::Suspended::step-returns-in_ok-event-in-Disj-clause-moves
suspended::Suspended::step-returns-in_ok-event-in-Disj-clause-moves t c =
    let a = c.args in
    let i = c.in-Disj in
    disj_call_moves a.self.now i.mark i.nest i.next i.end i.here i.is _ _ _ _ _
    i.mark-is i.nest-is i.next-is i.end-is i.here-is c.deref_mut-in-Disj.result.now c.deref_mut-in-Disj.ensures.value
    a.scene.now c.in_ok-event-in-Disj.event c.disj_next.new.cells a.slots.now
    c.disj_next.new.slots c.disj_next.new.next i.here a.cells.now c.in_ok-event-in-Disj.ensures.moves

pub suspended::Suspended::begin-scan-requires-clause-ready :
    goal.suspended::Suspended::begin-scan-requires-clause-ready
suspended::Suspended::begin-scan-requires-clause-ready t c =
    let a = c.args in
    elim c.match-unbegun.branch [
      | suspended::Suspended::begin-in-Some+in_ok-event+else-is_some+in_ok-begun w ↦
          let n = w.once.new in
          rw (w.cells-is, w.slots-is)
          (ready_grows a.scene.now n.cells w.begun.new.cells w.begun.ensures.cells n.slots n.slots
          (ready_moved a.scene.now _ a.cells.now n.cells a.slots.now n.slots c.requires.ready w.once.ensures.moves)
          (below_grows n.cells w.begun.new.cells w.begun.ensures.cells n.slots w.once.ensures.moves.below))
      | suspended::Suspended::begin-in_default w ↦ rw (w.cells-is, w.slots-is) c.requires.ready
    ]

pub suspended::Suspended::begin-begun-requires-clause-ready :
    goal.suspended::Suspended::begin-begun-requires-clause-ready
suspended::Suspended::begin-begun-requires-clause-ready t c =
    let a = c.args in
    ready_moved a.scene.now _ a.cells.now c.once.new.cells a.slots.now c.once.new.slots c.requires.ready
    c.once.ensures.moves

pub suspended::Suspended::next-returns-in_err-event-in-None-clause-moves :
    goal.suspended::Suspended::next-returns-in_err-event-in-None-clause-moves
suspended::Suspended::next-returns-in_err-event-in-None-clause-moves t c =
    let a = c.args in
    both_move a.scene.now a.cells.now c.begin.new.cells c.step.new.cells a.slots.now c.begin.new.slots c.step.new.slots
    a.slots.now (view a.self.now) (view c.begin.new.self) (view c.step.new.self) (view a.self.now) c.requires.fits
    (rw c.in-None.is at c.in_ok-event.ensures.begun) c.begin.ensures.moves c.step.ensures.moves

pub suspended::Suspended::next-returns-in_ok-event-in-None-clause-ends :
    goal.suspended::Suspended::next-returns-in_ok-event-in-None-clause-ends
suspended::Suspended::next-returns-in_ok-event-in-None-clause-ends t c =
    let a = c.args in
    settled_ends a.scene.now a.cells.now c.begin.new.cells c.step.new.cells a.slots.now c.begin.new.slots
    c.step.new.slots
    c.settle.new.slots (view a.self.now) (view c.begin.new.self) (view c.step.new.self) (view c.settle.new.self)
    c.requires.fits
    (rw c.in-None.is at c.in_ok-event.ensures.begun) c.begin.ensures.moves c.step.ensures.moves
    c.in_ok-event-in-None.ensures.start c.in_ok-event-in-None.event c.settle.ensures

pub suspended::Suspended::next-returns-in_ok-event-in-None-clause-keeps :
    goal.suspended::Suspended::next-returns-in_ok-event-in-None-clause-keeps
suspended::Suspended::next-returns-in_ok-event-in-None-clause-keeps t c =
    let a = c.args in
    settled_keeps a.scene.now a.cells.now c.begin.new.cells c.step.new.cells a.slots.now c.begin.new.slots
    c.step.new.slots
    c.settle.new.slots (view a.self.now) (view c.begin.new.self) (view c.step.new.self) (view c.settle.new.self)
    c.requires.fits
    (rw c.in-None.is at c.in_ok-event.ensures.begun) c.begin.ensures.moves c.step.ensures.moves
    c.in_ok-event-in-None.ensures.start c.in_ok-event-in-None.event c.in_ok-event-in-None.ensures.keeps c.settle.ensures

pub suspended::Suspended::next-returns-in_ok-event-in-None-clause-moves :
    goal.suspended::Suspended::next-returns-in_ok-event-in-None-clause-moves
suspended::Suspended::next-returns-in_ok-event-in-None-clause-moves t c =
    let a = c.args in
    settled_moves a.scene.now a.cells.now c.begin.new.cells c.step.new.cells a.slots.now c.begin.new.slots
    c.step.new.slots
    c.settle.new.slots (view a.self.now) (view c.begin.new.self) (view c.step.new.self) (view c.settle.new.self)
    c.requires.fits
    (rw c.in-None.is at c.in_ok-event.ensures.begun) c.begin.ensures.moves c.step.ensures.moves
    c.in_ok-event-in-None.ensures.start c.in_ok-event-in-None.event c.settle.ensures

pub suspended::Suspended::next-settle-requires : goal.suspended::Suspended::next-settle-requires
suspended::Suspended::next-settle-requires t c =
    let a = c.args in
    record {
      start = start_within a.scene.now a.cells.now c.begin.new.cells c.step.new.cells a.slots.now
          c.begin.new.slots c.step.new.slots
          a.slots.now (view a.self.now) (view c.begin.new.self) (view c.step.new.self) (view a.self.now) c.requires.fits
          (rw c.in-None.is at c.in_ok-event.ensures.begun) c.begin.ensures.moves c.step.ensures.moves
          c.in_ok-event-in-None.ensures.start;
    }

pub suspended::Suspended::next-step-requires : goal.suspended::Suspended::next-step-requires
suspended::Suspended::next-step-requires t c =
    let a = c.args in
    let b = rw c.in-None.is at c.in_ok-event.ensures.begun in (
      omega (arith, c.decreases, b.lighter),
      (
        ready_moved a.scene.now _ a.cells.now c.begin.new.cells a.slots.now c.begin.new.slots c.requires.ready
            c.begin.ensures.moves,
        (b.fits, b.begun),
      ),
    )

pub search::branch_next-loop-turn-preserved : goal.search::branch_next-loop-turn-preserved
search::branch_next-loop-turn-preserved t c =
    let k = c.loop-turn.invariant in
    let a = c.args in
    let h = c.in_ok-turn.ensures in
    let first = λ (x : Level) (w : Setting). branch_left w a.nest x in
    let turns = λ (x : Level) (w : Setting). x.end - x.next in
    record {
      atoms = atoms_grow a.scene.now c.loop-turn.cells c.branch_turn.new.cells h.cells k.atoms;
      knows = knows_grow a.scene.now c.loop-turn.cells c.branch_turn.new.cells h.cells k.knows;
      same =
          same_on a.scene.now c.loop-turn.cells c.branch_turn.new.cells (first (level_at a.run.now))
          (first (level_at c.loop-turn.run)) (first (level_at c.branch_turn.new.run)) (turns (level_at c.loop-turn.run))
          (turns (level_at c.branch_turn.new.run)) h.cells k.same (rw c.in_default.is at h.more);
      keeps =
          axiom_kept_on (code_in a.scene.now) (length c.loop-turn.cells) (length c.branch_turn.new.cells) a.nest
          (level_at a.run.now) (level_at c.loop-turn.run) (level_at c.branch_turn.new.run) k.keeps
          (rw c.in_default.is at h.keeps);
      cells = grows_on a.cells.now c.loop-turn.cells c.branch_turn.new.cells k.cells h.cells;
    }

pub search::search_turn-turn_at_places-requires-clause-slots :
    goal.search::search_turn-turn_at_places-requires-clause-slots
search::search_turn-turn_at_places-requires-clause-slots t c =
    below_undoing (length c.args.cells.now) c.args.mark c.args.slots.now c.undo_to.new.self c.undo_to.ensures
    c.requires.ready.bindings

pub search::search_next-loop-turn-preserved : goal.search::search_next-loop-turn-preserved
search::search_next-loop-turn-preserved t c =
    let k = c.loop-turn.invariant in
    let a = c.args in
    let s = a.scene.now in
    let h = c.in_ok-turn.ensures in
    let old = Search a.mark a.nest a.goal.now a.at.now a.rule.now (running_view a.running.now) in
    let mid =
    Search a.mark a.nest a.goal.now c.loop-turn.at c.loop-turn.rule (running_view c.loop-turn.running) in
    let new = Search a.mark a.nest a.goal.now c.search_turn.new.at c.search_turn.new.rule
    (running_view c.search_turn.new.running) in
    let cells = c.loop-turn.cells in
    let slots = c.loop-turn.slots in
    let turns = λ (i j : ℕ) (r : RunningView) (w : Setting).
    search_turns (length w.places) (length (w.code.axiom_rules a.goal.now.name)) i j r in
    record {
      ready = ready_moved s a.mark cells c.search_turn.new.cells slots c.search_turn.new.slots k.ready h.moves;
      same =
          same_on s cells c.search_turn.new.cells (λ w. left w a.slots.now old) (λ w. left w slots mid)
          (λ w. left w c.search_turn.new.slots new)
          (turns c.loop-turn.at c.loop-turn.rule (running_view c.loop-turn.running))
          (turns c.search_turn.new.at c.search_turn.new.rule (running_view c.search_turn.new.running)) h.moves.grows
          k.same (rw c.in_default.is at h.more);
      keeps =
          kept_on (code_in s) (length cells) (length c.search_turn.new.cells) slots c.search_turn.new.slots old mid new
          k.keeps (rw c.in_default.is at h.keeps);
      moves =
          moves_on a.mark a.cells.now cells c.search_turn.new.cells a.slots.now slots c.search_turn.new.slots
          c.requires.fits.0 k.moves h.moves;
    }

pub search::counter_turn-denied-requires : goal.search::counter_turn-denied-requires
search::counter_turn-denied-requires t c =
    let a = c.args in
    let n = c.next.new in
    let ready =
    ready_moved a.scene.now _ a.cells.now n.cells a.slots.now n.slots c.requires.ready c.next.ensures.moves in
    (omega (arith, c.decreases), (ready, (sym c.mark-mark.ensures, c.requires.then)))
