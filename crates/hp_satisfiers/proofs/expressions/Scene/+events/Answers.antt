use Rattle.std.specs.Result.{IfOk}
use Rattle.hp_syntax.specs.Syntax.{Axiom}
use Rattle.std.proofs.Common.{◌≡◌, ◌+◌, ◌-◌, ◌*◌, ◌<◌, ◌≤◌, true, false, List, map, vec_len, ◌++◌, length, drop, get_or, Option, option_map, Result, Ok, Err, ap, ap₂, sym, ◌∙◌, subst, arith}
use Rattle.std.proofs.lemmas.List.{nil_from_length, drop_all}
use Rattle.hp_laws.proofs.Listings.{map_has}
use Rattle.hp_syntax.specs.Syntax.{Clause}
use Rattle.std.proofs.lemmas.Result.{IfOk-weaker}
use Rattle.hp_syntax.specs.declared.fault.RunFault.{RunFault}
use Rattle.hp_syntax.specs.Values.{Bindings, unbound}
use Rattle.hp_syntax.specs.Goals.{Goal, start_goal}
use Rattle.hp_syntax.specs.Events.{Event, State, state_events, through, sat, branch_events, filled_events, concluded, chosen, chosen_events}
use Rattle.hp_syntax.specs.Views.{atom_of, axiom_of, clause_of, expression_of, expressions_of}
use Rattle.hp_eval.specs.GoalViews.{goal_of}
use Rattle.hp_eval.specs.Slotted.{bindings_of}
use Rattle.hp_eval.proofs.GrowthLemmas.{grows_self, grows_on, bindings_stay, below_grows}
use Rattle.hp_syntax.specs.Preconditions.{heard}
use Rattle.std.specs.List.{All}
use Rattle.std.proofs.lemmas.List.Elements.{All-weaker, All-get_or}
use Rattle.hp_answers.specs.declared.answer.Answer.TheVariants.{Cut}
use Rattle.hp_answers.specs.AnswerViews.{answer_events, Fits, AllFit, BindsBelow, MeetsHead}
use Rattle.hp_laws.specs.HeardAlike.{AreHeardAlike}
use Rattle.hp_laws.specs.RulesByName.{concluding}
use Rattle.hp_answers.specs.RuleIndexes.{axiom_at}
use Rattle.hp_satisfiers.specs.Scenes.{rules_in, axioms_in, stage_in, state_in, below_at, placed_events}
use Rattle.hp_eval.proofs.GoalViewLemmas.{goal_below_grows, goal_stays}
use Rattle.hp_answers.proofs.AnswerLemmas.{finds_none, finds_one, finds_same, sat_replaced, cut_replaced, fault_replaced, fits_below, stage_below_grows, state_stays, sat_fits}
use Rattle.hp_satisfiers.proofs.Sizes.{size, sizes, item_work, left_to_do, less_to_do_below, branch_size, size_of-atom, size_of-and, size_of-or, size_of-not, size_of-forall, part_size}
use Rattle.hp_satisfiers.proofs.SearchSteps.{sat_of-atom, sat_of-and, sat_of-or, sat_of-not, sat_of-forall, sat_of-assign, sat_of-call, forall_sat, all_of, all_begin, all_go_on, all_end, any_of}
use Rattle.hp_satisfiers.proofs.AxiomSteps.{goal_begins, placed_axiom, few_at, axiom_among, axiom_unstarted, axiom_started, some_met, none_met}
use Rattle.hp_satisfiers.proofs.ChosenBranches.{branches_begin, chosen_left, chosen_here, chosen_passes}
use Rattle.hp_satisfiers.proofs.SceneGrowth.{turned_sat, turned_stays, sat_stays, turn_gives, negation_gives}
use Rattle.hp_laws.proofs.HeardAlikeLemmas.{alike_through}
use Rattle.hp_satisfiers.proofs.HeardLemmas.{hears_found, hears_same, hears_vars, hears_begin, hears_all, hears_over, hears_both}
use Rattle.hp_satisfiers.specs.Sources.{item_count, pieces, joined, SourceBelow}
use Rattle.hp_satisfiers.proofs.SourceSteps.{pieces_count, piece_is, replaced_piece, source_grows, source_next, sats_joined, parts_joined, axioms_joined}
use Rattle.std.proofs.lemmas.Bool.{eqb-true, eqb-false}
use Rattle.hp_satisfiers.proofs.expressions.Scene.+events.Goals as goal

-- what holds of a value where there is one holds together
IfOk-both : {T E : Type 0} (r : Result T E) (P Q : T → Type 0) → IfOk r P → IfOk r Q → IfOk r (λ x. P x × Q x)
IfOk-both (Ok x) P Q h k = (h, k)
IfOk-both (Err e) P Q h k = tt

-- ---- an expression by its kind

pub events-atom_events-requires : goal.events-atom_events-requires
events-atom_events-requires t c =
    let one = size_of-atom c.args.expr.now c.in-Atom.atom c.in-Atom.is in
    (omega (arith, c.decreases, one), (c.requires.slots, c.requires.world))

pub events-all_events-requires : goal.events-all_events-requires
events-all_events-requires t c =
    let one = size_of-and c.args.expr.now c.in-And.parts c.in-And.is in
    let same = ap (λ ps. sizes (expressions_of ps)) c.as_slice.ensures.value in
    (omega (arith, c.decreases, one, same), (c.requires.slots, c.requires.world))

pub events-joined_events-requires : goal.events-joined_events-requires
events-joined_events-requires t c =
    let one = size_of-or c.args.expr.now c.in-Or.parts c.in-Or.is in
    let same = ap (λ ps. sizes (expressions_of ps)) c.as_slice-in-Or.ensures.value in
    (omega (arith, c.decreases, one, same), (c.requires.slots, (tt, c.requires.world)))

pub events-events-requires : goal.events-events-requires
events-events-requires t c =
    let one = size_of-not c.args.expr.now c.in-Not.part c.in-Not.is in
    let same = ap (λ p. size (expression_of p)) c.deref.ensures in
    (omega (arith, c.decreases, one, same), (c.requires.slots, c.requires.world))

pub events-forall_events-requires : goal.events-forall_events-requires
events-forall_events-requires t c =
    let one = size_of-forall c.args.expr.now c.in-Forall.field-0 c.in-Forall.range c.in-Forall.body c.in-Forall.is in
    let range = ap (λ p. size (expression_of p)) c.deref-in-Forall.ensures in
    let body = ap (λ p. size (expression_of p)) c.deref-in-Forall-2.ensures in
    (omega (arith, c.decreases, one, range, body), (c.requires.slots, c.requires.world))

pub events-returns-in-Atom-clause-found : goal.events-returns-in-Atom-clause-found
events-returns-in-Atom-clause-found t c =
    let scene = c.args.self.now in
    let old = c.args.cells.now in
    IfOk-weaker c.atom_events.result _ _
    (λ v h. h.stand
    ∙ ap heard (sat_of-atom (axioms_in scene) c.args.level (state_in old scene) c.args.expr.now
    (bindings_of old c.args.slots.now) c.in-Atom.atom c.in-Atom.is))
    c.atom_events.ensures.finds

pub events-returns-in-And-clause-found : goal.events-returns-in-And-clause-found
events-returns-in-And-clause-found t c =
    let scene = c.args.self.now in
    let old = c.args.cells.now in
    let e = bindings_of old c.args.slots.now in
    IfOk-weaker c.all_events.result _ _
    (λ v h. h.stand
    ∙ ap heard (ap (λ ps. all_of (axioms_in scene) c.args.level (state_in old scene) ps e) c.as_slice.ensures.value
    ∙ sat_of-and (axioms_in scene) c.args.level (state_in old scene) c.args.expr.now e c.in-And.parts c.in-And.is))
    c.all_events.ensures.finds

pub events-returns-in-Or-clause-found : goal.events-returns-in-Or-clause-found
events-returns-in-Or-clause-found t c =
    let axioms = axioms_in c.args.self.now in
    let level = c.args.level in
    let old = c.args.cells.now in
    let state = state_in old c.args.self.now in
    let e = bindings_of old c.args.slots.now in
    IfOk-weaker c.joined_events.result _ _
    (λ v h. h.stand
    ∙ ap heard (parts_joined axioms level state e c.as_slice-in-Or.result.now
    ∙ (ap (λ ps. any_of axioms level state ps e) c.as_slice-in-Or.ensures.value
    ∙ sat_of-or axioms level state c.args.expr.now e c.in-Or.parts c.in-Or.is)))
    c.joined_events.ensures.finds

pub events-returns-in-Forall-clause-found : goal.events-returns-in-Forall-clause-found
events-returns-in-Forall-clause-found t c =
    let scene = c.args.self.now in
    let old = c.args.cells.now in
    let e = bindings_of old c.args.slots.now in
    IfOk-weaker c.forall_events.result _ _
    (λ v h. ap heard (h.stand
    ∙ ap₂ (forall_sat (axioms_in scene) c.args.level (state_in old scene) e) c.deref-in-Forall.ensures
    c.deref-in-Forall-2.ensures
    ∙ sat_of-forall (axioms_in scene) c.args.level (state_in old scene) c.args.expr.now e c.in-Forall.field-0
    c.in-Forall.range c.in-Forall.body c.in-Forall.is))
    c.forall_events.ensures.finds

pub events-returns-in-Assign-clause-found : goal.events-returns-in-Assign-clause-found
events-returns-in-Assign-clause-found t c =
    let scene = c.args.self.now in
    let old = c.args.cells.now in
    IfOk-weaker c.assigned.result _ _
    (λ v h. ap heard (h.stand
    ∙ sat_of-assign (axioms_in scene) c.args.level (state_in old scene) c.args.expr.now
    (bindings_of old c.args.slots.now) c.in-Assign.v c.in-Assign.value c.in-Assign.is))
    c.assigned.ensures.found

pub events-returns-in-Call-clause-found : goal.events-returns-in-Call-clause-found
events-returns-in-Call-clause-found t c =
    let scene = c.args.self.now in
    let old = c.args.cells.now in
    IfOk-weaker c.tested.result _ _
    (λ v h. ap heard (h.stand
    ∙ sat_of-call (axioms_in scene) c.args.level (state_in old scene) c.args.expr.now
    (bindings_of old c.args.slots.now) c.in-Call.call c.in-Call.is))
    c.tested.ensures.found

pub events-returns-in_ok-found-in-Not-clause-found : goal.events-returns-in_ok-found-in-Not-clause-found
events-returns-in_ok-found-in-Not-clause-found t c =
    let scene = c.args.self.now in
    let old = c.args.cells.now in
    let new = c.events.new.cells in
    let s = c.args.slots.now in
    let e = bindings_of old s in
    let got = c.in_ok-found-in-Not.ensures in
    let met = got.found ∙ ap (λ p. heard (sat (axioms_in scene) c.args.level (state_in old scene) (expression_of p) e))
    c.deref.ensures in
    IfOk-weaker c.turn.result _ _
    (λ v h. ap heard ((negation_gives new (length s.values) c.in_ok-found-in-Not.found.items v.items
    (bindings_of new s) e _ met (bindings_stay old new got.cells s c.requires.slots)
    (h new (below_grows old new got.cells s c.requires.slots) got.fit)).stand
    ∙ sat_of-not (axioms_in scene) c.args.level (state_in old scene) c.args.expr.now e c.in-Not.part c.in-Not.is))
    c.turn.ensures

pub events-returns-in_ok-found-in-Not-clause-fit : goal.events-returns-in_ok-found-in-Not-clause-fit
events-returns-in_ok-found-in-Not-clause-fit t c =
    let old = c.args.cells.now in
    let new = c.events.new.cells in
    let got = c.in_ok-found-in-Not.ensures in
    IfOk-weaker c.turn.result _ _
    (λ v h. (h new (below_grows old new got.cells c.args.slots.now c.requires.slots) got.fit).fit)
    c.turn.ensures

-- ---- for all satisfiers

pub forall_events-returns-clause-finds : goal.forall_events-returns-clause-finds
forall_events-returns-clause-finds t c =
    let scene = c.args.self.now in
    let axioms = axioms_in scene in
    let level = c.args.level in
    let old = c.args.cells.now in
    let mid = c.events.new.cells in
    let new = c.joined_events.new.cells in
    let s = c.args.slots.now in
    let e = bindings_of old s in
    let met = c.in_ok-found.ensures in
    let got = c.in_ok-refuted.ensures in
    let grown = grows_on old mid new met.cells got.cells in
    let refuted = c.in_ok-refuted.refuted.items in
    let body = c.args.body.now in
    let ranged = answer_events mid c.as_slice.result.now in
    let range = sat axioms level (state_in old scene) (expression_of c.args.range.now) e in
    let events =
    got.finds.stand
    ∙ (ap heard (sats_joined ranged
    (turned_sat axioms level (state_in mid scene) body true)
    ∙ ap (through ranged) (turned_stays old mid met.cells (stage_in scene) c.requires.world axioms level body true))
    ∙ alike_through ranged range (turned_sat axioms level (state_in old scene) body true)
    (ap (λ xs. heard (answer_events mid xs)) c.as_slice.ensures.value ∙ met.found)) in
    IfOk-weaker c.turn.result _ _
    (λ v h. negation_gives new (length s.values) refuted v.items (bindings_of new s) e _ events
    (bindings_stay old new grown s c.requires.slots)
    (h new (below_grows old new grown s c.requires.slots) got.finds.fit))
    c.turn.ensures

-- ---- all of some parts

pub all_events-loop-part-init : goal.all_events-loop-part-init
all_events-loop-part-init t c =
    let scene = c.args.self.now in
    let old = c.args.cells.now in
    let found = c.in_ok-found.found.items in
    let one = c.in_ok-found.ensures old c.requires.slots in
    record {
      grows = grows_self old;
      fit = one.fit;
      so_far =
          ap heard (all_begin (axioms_in scene) c.args.level (state_in old scene) c.args.parts.now
          (bindings_of old c.args.slots.now) (answer_events old found) one.stand);
    }

pub all_events-joined_events-requires : goal.all_events-joined_events-requires
all_events-joined_events-requires t c =
    let old = c.args.cells.now in
    let mid = c.loop-part.cells in
    let held = c.loop-part.invariant in
    let s = c.args.slots.now in
    let part =
    part_size c.args.parts.now c.loop-part.part-index c.part-item.result c.loop-part-test.true c.part-item.is in (
      omega (arith, c.decreases, part),
      (
        below_grows old mid held.grows s c.requires.slots,
        (
          subst (AllFit (length s.values) (length mid)) (sym c.as_slice.ensures.value) held.fit,
          stage_below_grows old mid held.grows (stage_in c.args.self.now) c.requires.world,
        ),
      ),
    )

pub all_events-loop-part-preserved : goal.all_events-loop-part-preserved
all_events-loop-part-preserved t c =
    let scene = c.args.self.now in
    let axioms = axioms_in scene in
    let level = c.args.level in
    let old = c.args.cells.now in
    let mid = c.loop-part.cells in
    let new = c.joined_events.new.cells in
    let held = c.loop-part.invariant in
    let got = c.in_ok-found-2.ensures in
    let part = c.part-item.result in
    let before = c.loop-part.found.items in
    record {
      grows = grows_on old mid new held.grows got.cells;
      fit = got.finds.fit;
      so_far =
          all_go_on axioms level (state_in old scene) c.args.parts.now c.loop-part.part-index part
          (answer_events mid before) (answer_events new c.in_ok-found-2.found.items) _ c.loop-part-test.true
          c.part-item.is
          (got.finds.stand
          ∙ ap heard (sats_joined (answer_events mid c.as_slice.result.now)
          (turned_sat axioms level (state_in mid scene) part false)
          ∙ ap₂ (λ xs f. through (answer_events mid xs) f) c.as_slice.ensures.value
          (turned_stays old mid held.grows (stage_in scene) c.requires.world axioms level part false)))
          held.so_far;
    }

pub all_events-returns-clause-finds : goal.all_events-returns-clause-finds
all_events-returns-clause-finds t c =
    let scene = c.args.self.now in
    let old = c.args.cells.now in
    let held = c.loop-part.invariant in
    record {
      stand =
          all_end (axioms_in scene) c.args.level (state_in old scene) c.args.parts.now c.loop-part.part-index
          (answer_events c.loop-part.cells c.loop-part.found.items) _ c.loop-part-test.false held.so_far;
      fit = held.fit;
    }

-- ---- all items of a source

pub joined_events-loop-number-init : goal.joined_events-loop-number-init
joined_events-loop-number-init t c =
    let old = c.args.cells.now in
    let vars = length c.args.slots.now.values in
    record {
      grows = grows_self old;
      found = hears_begin old vars c.new-found.result.items _ c.new-found.ensures.items;
    }

pub joined_events-item_events-requires : goal.joined_events-item_events-requires
joined_events-item_events-requires t c =
    let old = c.args.cells.now in
    let mid = c.loop-number.cells in
    let grown = c.loop-number.invariant.grows in
    let s = c.args.slots.now in (
      omega (arith, c.decreases),
      (
        omega (arith, c.count-number-end.ensures, c.loop-number-test.true),
        (
          below_grows old mid grown s c.requires.slots,
          (
            source_grows old mid grown (length s.values) c.args.source c.requires.source,
            stage_below_grows old mid grown (stage_in c.args.self.now) c.requires.world,
          ),
        ),
      ),
    )

pub joined_events-loop-number-preserved : goal.joined_events-loop-number-preserved
joined_events-loop-number-preserved t c =
    let old = c.args.cells.now in
    let mid = c.loop-number.cells in
    let new = c.item_events.new.cells in
    let held = c.loop-number.invariant in
    let got = c.in_ok-more.ensures in
    record {
      grows = grows_on old mid new held.grows got.cells;
      found =
          source_next old mid held.grows c.args.self.now c.args.level c.requires.world c.args.slots.now
          c.requires.slots c.args.source c.requires.source new got.cells c.loop-number.found.items
          c.in_ok-more.more.items c.add.new.found.items _ c.loop-number.number
          (omega (arith, c.count-number-end.ensures, c.loop-number-test.true)) held.found got.finds
          c.in_ok-over.ensures.added;
    }

pub joined_events-returns-then-over-clause-finds : goal.joined_events-returns-then-over-clause-finds
joined_events-returns-then-over-clause-finds t c =
    let old = c.args.cells.now in
    let mid = c.loop-number.cells in
    let new = c.item_events.new.cells in
    let held = c.loop-number.invariant in
    let got = c.in_ok-more.ensures in
    let s = c.args.slots.now in
    let items = c.add.new.found.items in
    hears_over new (length s.values) items _ _
    (sym c.in_ok-over.ensures.over ∙ c.if-over.true)
    (source_next old mid held.grows c.args.self.now c.args.level c.requires.world s c.requires.slots
    c.args.source c.requires.source new got.cells c.loop-number.found.items c.in_ok-more.more.items items _
    c.loop-number.number (omega (arith, c.count-number-end.ensures, c.loop-number-test.true)) held.found got.finds
    c.in_ok-over.ensures.added)

pub joined_events-returns-clause-finds : goal.joined_events-returns-clause-finds
joined_events-returns-clause-finds t c =
    let old = c.args.cells.now in
    let s = c.args.slots.now in
    let ps = pieces c.args.self.now c.args.level old s c.args.source in
    let count = pieces_count c.args.self.now c.args.level old s c.args.source in
    hears_all c.loop-number.cells (length s.values) c.loop-number.found.items _ _
    (ap joined (drop_all c.loop-number.number ps (omega (
      arith,
      count,
      c.count-number-end.ensures,
      c.loop-number-test.false,
    ))))
    c.loop-number.invariant.found

-- ---- an item

pub item_events-events-requires : goal.item_events-events-requires
item_events-events-requires t c =
    let number = c.args.number in
    let within = subst (λ source. number < item_count source) c.in-Parts.is c.requires.number in
    let part = part_size c.in-Parts.parts.now number c.at.result.now within c.at.ensures in
    (omega (arith, c.decreases, part, ap item_work c.in-Parts.is), (c.requires.slots, c.requires.world))

pub item_events-returns-in-Sats-clause-finds : goal.item_events-returns-in-Sats-clause-finds
item_events-returns-in-Sats-clause-finds t c =
    let scene = c.args.self.now in
    let level = c.args.level in
    let old = c.args.cells.now in
    let s = c.args.slots.now in
    let number = c.args.number in
    let within = subst (λ source. number < item_count source) c.in-Sats.is c.requires.number in
    let f = turned_sat (axioms_in scene) level (state_in old scene) c.in-Sats.part.now c.in-Sats.negate in
    IfOk-weaker c.one_events.result _ _
    (λ v h. hears_same c.one_events.new.cells (length s.values) v.items _ _
    (ap heard (replaced_piece old f c.in-Sats.found.now number c.at-in-Sats.result.now _
    (ap (pieces scene level old s) c.in-Sats.is) within c.at-in-Sats.ensures)) h)
    c.one_events.ensures.finds

pub item_events-returns-in-Branches-clause-finds : goal.item_events-returns-in-Branches-clause-finds
item_events-returns-in-Branches-clause-finds t c =
    let scene = c.args.self.now in
    let old = c.args.cells.now in
    let s = c.args.slots.now in
    let number = c.args.number in
    let within = subst (λ source. number < item_count source) c.in-Branches.is c.requires.number in
    let f : Bindings → List Event
    = λ b. concluded (atom_of c.in-Branches.head.now) b (goal_of old c.in-Branches.goal.now) (bindings_of old s) in
    IfOk-weaker c.conclusion.result _ _
    (λ v h. hears_same c.conclusion.new.cells (length s.values) v.items _ _
    (ap heard (replaced_piece old f c.in-Branches.found.now number c.at-in-Branches.result.now _
    (ap (pieces scene c.args.level old s) c.in-Branches.is) within c.at-in-Branches.ensures))
    (hears_found c.conclusion.new.cells (length s.values) v.items _ h))
    c.conclusion.ensures.found

-- ---- in the place of each Sat

pub one_events-returns-in_ok-more-in-Sat-clause-finds : goal.one_events-returns-in_ok-more-in-Sat-clause-finds
one_events-returns-in_ok-more-in-Sat-clause-finds t c =
    let scene = c.args.self.now in
    let old = c.args.cells.now in
    let new = c.events.new.cells in
    let s = c.in-Sat.own in
    let vars = length c.args.slots.now.values in
    let x = c.args.found.now in
    let got = c.in_ok-more-in-Sat.ensures in
    let fits = sat_fits vars (length old) x s c.in-Sat.is c.requires.found in
    let more = c.in_ok-more-in-Sat.more.items in
    let f = turned_sat (axioms_in scene) c.args.level (state_in old scene) c.args.part.now c.args.negate in
    IfOk-weaker c.turn.result _ _
    (λ v h. hears_vars new (length s.values) vars v.items _ fits.0
    (hears_same new (length s.values) v.items _ _ (ap heard (sat_replaced old f x s c.in-Sat.is))
    (turn_gives new (length s.values) more v.items c.args.negate (bindings_of new s) (bindings_of old s) _ got.found
    (bindings_stay old new got.cells s fits.1)
    (h new (below_grows old new got.cells s fits.1) got.fit))))
    c.turn.ensures

-- ---- atoms

pub atom_events-returns-in-Ok-clause-finds : goal.atom_events-returns-in-Ok-clause-finds
atom_events-returns-in-Ok-clause-finds t c =
    let scene = c.args.self.now in
    let axioms = axioms_in scene in
    let level = c.args.level in
    let old = c.args.cells.now in
    let mid = c.fill_goal.new.cells in
    let filled = c.in-Ok.ensures in
    let s = c.args.slots.now in
    let e = bindings_of old s in
    let events : State → Bindings → Result Goal RunFault → List Event
    = λ st b r. filled_events axioms (below_at axioms level st) st r b in
    IfOk-weaker c.goal_events.result _ _
    (λ v h. hears_same c.goal_events.new.cells (length s.values) v.items _ _
    (ap heard (ap₂ (λ st b. events st b (Ok (goal_of mid c.in-Ok.goal)))
    (state_stays old mid filled.cells (stage_in scene) c.requires.world)
    (bindings_stay old mid filled.cells s c.requires.slots)
    ∙ ap (events (state_in old scene) e) (sym filled.gives))) h)
    c.goal_events.ensures.finds

pub goal_events-joined_events-requires : goal.goal_events-joined_events-requires
goal_events-joined_events-requires t c =
    (omega (arith, c.decreases), (c.requires.slots, (c.requires.goal, c.requires.world)))

pub goal_events-returns-clause-finds : goal.goal_events-returns-clause-finds
goal_events-returns-clause-finds t c =
    let scene = c.args.self.now in
    let rules = rules_in scene in
    let old = c.args.cells.now in
    let new = c.joined_events.new.cells in
    let state = state_in old scene in
    let lower = below_at (axioms_in scene) c.args.level state in
    let q = goal_of old c.args.goal.now in
    let s = c.args.slots.now in
    let e = bindings_of old s in
    let got = c.in_ok-more.ensures in
    let items = c.add.new.found.items in
    hears_same new (length s.values) items _ _
    (ap heard (ap (λ xs. state_events state q e ++ xs)
    (axioms_joined lower q e rules c.axioms.result.now (concluding q.name rules) c.axioms.ensures)
    ∙ sym (goal_begins lower q e state rules)))
    (hears_both old new got.cells (length s.values) c.in_ok-found.found.items c.in_ok-more.more.items items _ _
    (hears_found old (length s.values) c.in_ok-found.found.items _ c.in_ok-found.ensures) got.finds
    c.in_ok-add.ensures.added)

-- ---- an axiom

pub axiom_events-own_slots-requires : goal.axiom_events-own_slots-requires
axiom_events-own_slots-requires t c =
    let rules = rules_in c.args.self.now in
    let there =
    placed_axiom (axiom_at rules c.args.place) c.axiom.result c.in-Some.axiom c.axiom.ensures c.in-Some.is in
    record {
      few = few_at rules c.args.place (axiom_of c.in-Some.axiom.now) c.args.self.now.book.now.few there;
      goal = c.requires.goal;
    }

pub axiom_events-returns-in-None-clause-finds : goal.axiom_events-returns-in-None-clause-finds
axiom_events-returns-in-None-clause-finds t c =
    let scene = c.args.self.now in
    let old = c.args.cells.now in
    let new = c.own_slots.new.cells in
    let x = axiom_of c.in-Some.axiom.now in
    let q = goal_of old c.args.goal.now in
    let e = bindings_of old c.args.slots.now in
    let vars = length c.args.slots.now.values in
    let items = c.new-in-None.result.items in
    let lower = below_at (axioms_in scene) c.args.level (state_in old scene) in
    let there =
    placed_axiom (axiom_at (rules_in scene) c.args.place) c.axiom.result c.in-Some.axiom c.axiom.ensures c.in-Some.is in
    let none =
    subst (λ o. MeetsHead new (length x.vars) o (start_goal x.head q (unbound (length x.vars)))) c.in-None.is
    c.in_ok-started.ensures.starts in
    hears_found new vars items _
    (finds_none new vars items _ c.new-in-None.ensures.items
    (ap (λ o. placed_events lower o q e) there ∙ axiom_unstarted lower q e x none))

pub axiom_events-branch_events-requires : goal.axiom_events-branch_events-requires
axiom_events-branch_events-requires t c =
    let old = c.args.cells.now in
    let new = c.own_slots.new.cells in
    let rules = rules_in c.args.self.now in
    let x = axiom_of c.in-Some.axiom.now in
    let q = goal_of old c.args.goal.now in
    let there =
    placed_axiom (axiom_at rules c.args.place) c.axiom.result c.in-Some.axiom c.axiom.ensures c.in-Some.is in
    let m =
    subst (λ o. MeetsHead new (length x.vars) o (start_goal x.head q (unbound (length x.vars)))) c.in-Some-started.is
    c.in_ok-started.ensures.starts in (
      omega (arith, c.decreases),
      (
        axiom_among rules c.args.place x there,
        (
          m.2,
          stage_below_grows old new c.in_ok-started.ensures.cells (stage_in c.args.self.now) c.requires.world,
        ),
      ),
    )

pub axiom_events-joined_events-requires : goal.axiom_events-joined_events-requires
axiom_events-joined_events-requires t c =
    let old = c.args.cells.now in
    let mid = c.own_slots.new.cells in
    let new = c.branch_events.new.cells in
    let grown = grows_on old mid new c.in_ok-started.ensures.cells c.branch_events.ensures.cells in
    let n = length new in
    let vars = length c.in-Some-started.own.values in
    let fits = c.in_ok-found-in-Some-started.ensures.finds.fit in (
      omega (arith, c.decreases),
      (
        below_grows old new grown c.args.slots.now c.requires.slots,
        (
          (
            goal_below_grows old new grown c.args.goal.now c.requires.goal,
            subst (All (BindsBelow n)) (sym c.as_slice.ensures.value)
                (All-weaker (Fits vars n) (BindsBelow n) (fits_below vars n)
                c.in_ok-found-in-Some-started.found.items fits),
          ),
          stage_below_grows old new grown (stage_in c.args.self.now) c.requires.world,
        ),
      ),
    )

pub axiom_events-returns-in_ok-found-in-Some-started-clause-finds :
    goal.axiom_events-returns-in_ok-found-in-Some-started-clause-finds
axiom_events-returns-in_ok-found-in-Some-started-clause-finds t c =
    let scene = c.args.self.now in
    let axioms = axioms_in scene in
    let level = c.args.level in
    let old = c.args.cells.now in
    let mid = c.own_slots.new.cells in
    let new = c.branch_events.new.cells in
    let grown = grows_on old mid new c.in_ok-started.ensures.cells c.branch_events.ensures.cells in
    let x = axiom_of c.in-Some.axiom.now in
    let goal' = c.args.goal.now in
    let q = goal_of old goal' in
    let s = c.args.slots.now in
    let e = bindings_of old s in
    let own = c.in-Some-started.own in
    let state = state_in old scene in
    let lower = below_at axioms level state in
    let there =
    placed_axiom (axiom_at (rules_in scene) c.args.place) c.axiom.result c.in-Some.axiom c.axiom.ensures c.in-Some.is in
    let m =
    subst (λ o. MeetsHead mid (length x.vars) o (start_goal x.head q (unbound (length x.vars)))) c.in-Some-started.is
    c.in_ok-started.ensures.starts in
    let met =
    ap (λ xs. heard (answer_events new xs)) c.as_slice.ensures.value
    ∙ (c.in_ok-found-in-Some-started.ensures.finds.stand
    ∙ ap (λ st. heard (branch_events (below_at axioms level st) x (bindings_of mid own)))
    (state_stays old mid c.in_ok-started.ensures.cells (stage_in scene) c.requires.world)) in
    let same =
    ap₂ {C = Bindings → List Event} (λ p b d. concluded x.head d p b) (goal_stays old new grown goal' c.requires.goal)
    (bindings_stay old new grown s c.requires.slots) in
    let found = answer_events new c.as_slice.result.now in
    let conclude : Bindings → List Event
    = λ d. concluded x.head d (goal_of new goal') (bindings_of new s) in
    IfOk-weaker c.joined_events.result _ _
    (λ v h. hears_same c.joined_events.new.cells (length s.values) v.items _ _
    (ap heard (sats_joined found conclude)
    ∙ (alike_through found (branch_events lower x (bindings_of mid own)) conclude met
    ∙ ap heard (ap (through (branch_events lower x (bindings_of mid own))) same
    ∙ (axiom_started lower q e x (bindings_of mid own) m.0
    ∙ sym (ap (λ o. placed_events lower o q e) there)))))
    h)
    c.joined_events.ensures.finds

-- ---- the branches of an axiom

pub branch_events-events-requires : goal.branch_events-events-requires
branch_events-events-requires t c =
    let scene = c.args.self.now in
    let axioms = axioms_in scene in
    let level = c.args.level in
    let old = c.args.cells.now in
    let mid = c.loop-clause.cells in
    let grown = c.loop-clause.invariant.grows in
    let x = axiom_of c.args.rule.now in
    let clause = c.clause-item.result in
    let some : 0 < level = omega arith in
    let clauses = c.args.rule.now.clauses.items in
    let i = c.loop-clause.clause-index in
    let is = c.deref-clause-items.ensures.value in
    let among =
    map_has clause_of clauses clause (
      i,
      subst (λ cs. i < length cs) is c.loop-clause-test.true,
      sym (c.clause-item.is ∙ ap (λ cs. get_or cs i clause) is),
    ) in (
      subst
          (λ m. left_to_do axioms (level - 1) (8 * size (expression_of clause.body)) < m) c.decreases
          (less_to_do_below axioms level (size (expression_of clause.body)) 1 some
          (branch_size axioms x (clause_of clause) c.requires.known among)),
      (
        below_grows old mid grown c.args.slots.now c.requires.slots,
        stage_below_grows old mid grown (stage_in scene) c.requires.world,
      ),
    )

pub branch_events-returns-then-not-is_empty-clause-finds : goal.branch_events-returns-then-not-is_empty-clause-finds
branch_events-returns-then-not-is_empty-clause-finds t c =
    let scene = c.args.self.now in
    let axioms = axioms_in scene in
    let level = c.args.level in
    let old = c.args.cells.now in
    let mid = c.loop-clause.cells in
    let new = c.events.new.cells in
    let held = c.loop-clause.invariant in
    let got = c.in_ok-found.ensures in
    let s = c.args.slots.now in
    let clauses = c.args.rule.now.clauses.items in
    let clause = c.clause-item.result in
    let i = c.loop-clause.clause-index in
    let is = c.deref-clause-items.ensures.value in
    let found = c.in_ok-found.found.items in
    let f : Clause → List Event
    = λ x. sat axioms (level - 1) (state_in old scene) x.body (bindings_of old s) in
    let met : AreHeardAlike (answer_events new found) (f (clause_of clause))
    = got.found
    ∙ ap heard (sat_stays old mid held.grows (stage_in scene) c.requires.world s c.requires.slots axioms (level - 1)
    (expression_of clause.body)) in
    let many = eqb-false (vec_len c.in_ok-found.found) 0 (sym c.is_empty.ensures ∙ c.if-not-is_empty.true) in
    let some : 0 < length found = omega (arith, many, c.in_ok-found.found.ok.0) in
    let first =
    chosen_here (clause_of clause) (f (clause_of clause)) (chosen f (map clause_of (drop (i + 1) clauses)))
    (some_met new found (f (clause_of clause)) met some) in
    record {
      stand =
          met
          ∙ ap heard (sym (held.so_far
          ∙ ap chosen_events (chosen_left f clause_of clauses i clause
          (subst (λ cs. i < length cs) is c.loop-clause-test.true)
          (c.clause-item.is ∙ ap (λ cs. get_or cs i clause) is)
          ∙ first)));
      fit = got.fit;
    }

pub branch_events-loop-clause-preserved : goal.branch_events-loop-clause-preserved
branch_events-loop-clause-preserved t c =
    let scene = c.args.self.now in
    let axioms = axioms_in scene in
    let level = c.args.level in
    let old = c.args.cells.now in
    let mid = c.loop-clause.cells in
    let new = c.events.new.cells in
    let held = c.loop-clause.invariant in
    let got = c.in_ok-found.ensures in
    let s = c.args.slots.now in
    let clauses = c.args.rule.now.clauses.items in
    let clause = c.clause-item.result in
    let i = c.loop-clause.clause-index in
    let is = c.deref-clause-items.ensures.value in
    let found = c.in_ok-found.found.items in
    let f : Clause → List Event
    = λ x. sat axioms (level - 1) (state_in old scene) x.body (bindings_of old s) in
    let met : AreHeardAlike (answer_events new found) (f (clause_of clause))
    = got.found
    ∙ ap heard (sat_stays old mid held.grows (stage_in scene) c.requires.world s c.requires.slots axioms (level - 1)
    (expression_of clause.body)) in
    let many = eqb-true (vec_len c.in_ok-found.found) 0 (sym c.is_empty.ensures ∙ c.if-not-is_empty.false) in
    let none : length found ≡ 0 = omega (arith, many, c.in_ok-found.found.ok.0) in
    record {
      grows = grows_on old mid new held.grows got.cells;
      so_far =
          held.so_far
          ∙ ap chosen_events (chosen_left f clause_of clauses i clause
          (subst (λ cs. i < length cs) is c.loop-clause-test.true)
          (c.clause-item.is ∙ ap (λ cs. get_or cs i clause) is)
          ∙ chosen_passes (clause_of clause) (f (clause_of clause)) (chosen f (map clause_of (drop (i + 1) clauses)))
          (none_met new found (f (clause_of clause)) met (nil_from_length found none)));
    }

-- ---- cells that are added

pub all_events-returns-in_err-found-2-clause-cells : goal.all_events-returns-in_err-found-2-clause-cells
all_events-returns-in_err-found-2-clause-cells t c =
    grows_on c.args.cells.now c.loop-part.cells c.joined_events.new.cells c.loop-part.invariant.grows
    c.joined_events.ensures.cells

pub joined_events-returns-in_err-more-clause-cells : goal.joined_events-returns-in_err-more-clause-cells
joined_events-returns-in_err-more-clause-cells t c =
    grows_on c.args.cells.now c.loop-number.cells c.item_events.new.cells c.loop-number.invariant.grows
    c.item_events.ensures.cells

pub joined_events-returns-in_err-over-clause-cells : goal.joined_events-returns-in_err-over-clause-cells
joined_events-returns-in_err-over-clause-cells t c =
    grows_on c.args.cells.now c.loop-number.cells c.item_events.new.cells c.loop-number.invariant.grows
    c.item_events.ensures.cells

pub joined_events-returns-then-over-clause-cells : goal.joined_events-returns-then-over-clause-cells
joined_events-returns-then-over-clause-cells t c =
    grows_on c.args.cells.now c.loop-number.cells c.item_events.new.cells c.loop-number.invariant.grows
    c.item_events.ensures.cells

pub branch_events-returns-in_err-found-clause-cells : goal.branch_events-returns-in_err-found-clause-cells
branch_events-returns-in_err-found-clause-cells t c =
    grows_on c.args.cells.now c.loop-clause.cells c.events.new.cells c.loop-clause.invariant.grows
    c.events.ensures.cells

pub branch_events-returns-then-not-is_empty-clause-cells : goal.branch_events-returns-then-not-is_empty-clause-cells
branch_events-returns-then-not-is_empty-clause-cells t c =
    grows_on c.args.cells.now c.loop-clause.cells c.events.new.cells c.loop-clause.invariant.grows
    c.events.ensures.cells

pub forall_events-returns-in_err-refuted-clause-cells : goal.forall_events-returns-in_err-refuted-clause-cells
forall_events-returns-in_err-refuted-clause-cells t c =
    grows_on c.args.cells.now c.events.new.cells c.joined_events.new.cells c.events.ensures.cells
    c.joined_events.ensures.cells

pub forall_events-returns-clause-cells : goal.forall_events-returns-clause-cells
forall_events-returns-clause-cells t c =
    grows_on c.args.cells.now c.events.new.cells c.joined_events.new.cells c.events.ensures.cells
    c.joined_events.ensures.cells

pub atom_events-returns-in-Ok-clause-cells : goal.atom_events-returns-in-Ok-clause-cells
atom_events-returns-in-Ok-clause-cells t c =
    grows_on c.args.cells.now c.fill_goal.new.cells c.goal_events.new.cells c.fill_goal.ensures.cells
    c.goal_events.ensures.cells

pub axiom_events-returns-in_err-found-in-Some-started-clause-cells :
    goal.axiom_events-returns-in_err-found-in-Some-started-clause-cells
axiom_events-returns-in_err-found-in-Some-started-clause-cells t c =
    grows_on c.args.cells.now c.own_slots.new.cells c.branch_events.new.cells c.own_slots.ensures.cells
    c.branch_events.ensures.cells

pub axiom_events-returns-in_ok-found-in-Some-started-clause-cells :
    goal.axiom_events-returns-in_ok-found-in-Some-started-clause-cells
axiom_events-returns-in_ok-found-in-Some-started-clause-cells t c =
    let old = c.args.cells.now in
    let mid = c.own_slots.new.cells in
    let new = c.branch_events.new.cells in
    grows_on old new c.joined_events.new.cells
    (grows_on old mid new c.own_slots.ensures.cells c.branch_events.ensures.cells) c.joined_events.ensures.cells

-- ---- answers fit, and cells are only added

pub events-returns-in-Atom-clause-fit : goal.events-returns-in-Atom-clause-fit
events-returns-in-Atom-clause-fit t c =
    IfOk-weaker c.atom_events.result _ _ (λ v h. h.fit) c.atom_events.ensures.finds

pub events-returns-in-Atom-clause-cells : goal.events-returns-in-Atom-clause-cells
events-returns-in-Atom-clause-cells t c = c.atom_events.ensures.cells

pub events-returns-in-And-clause-fit : goal.events-returns-in-And-clause-fit
events-returns-in-And-clause-fit t c =
    IfOk-weaker c.all_events.result _ _ (λ v h. h.fit) c.all_events.ensures.finds

pub events-returns-in-And-clause-cells : goal.events-returns-in-And-clause-cells
events-returns-in-And-clause-cells t c = c.all_events.ensures.cells

pub events-returns-in-Or-clause-fit : goal.events-returns-in-Or-clause-fit
events-returns-in-Or-clause-fit t c =
    IfOk-weaker c.joined_events.result _ _ (λ v h. h.fit) c.joined_events.ensures.finds

pub events-returns-in-Or-clause-cells : goal.events-returns-in-Or-clause-cells
events-returns-in-Or-clause-cells t c = c.joined_events.ensures.cells

pub events-returns-in-Forall-clause-fit : goal.events-returns-in-Forall-clause-fit
events-returns-in-Forall-clause-fit t c =
    IfOk-weaker c.forall_events.result _ _ (λ v h. h.fit) c.forall_events.ensures.finds

pub events-returns-in-Forall-clause-cells : goal.events-returns-in-Forall-clause-cells
events-returns-in-Forall-clause-cells t c = c.forall_events.ensures.cells

pub events-returns-in-Assign-clause-fit : goal.events-returns-in-Assign-clause-fit
events-returns-in-Assign-clause-fit t c =
    IfOk-weaker c.assigned.result _ _ (λ v h. h.fit) c.assigned.ensures.found

pub events-returns-in-Assign-clause-cells : goal.events-returns-in-Assign-clause-cells
events-returns-in-Assign-clause-cells t c = c.assigned.ensures.cells

pub events-returns-in-Call-clause-fit : goal.events-returns-in-Call-clause-fit
events-returns-in-Call-clause-fit t c =
    IfOk-weaker c.tested.result _ _ (λ v h. h.fit) c.tested.ensures.found

pub events-returns-in-Call-clause-cells : goal.events-returns-in-Call-clause-cells
events-returns-in-Call-clause-cells t c = c.tested.ensures.cells

pub events-returns-in_err-found-in-Not-clause-cells : goal.events-returns-in_err-found-in-Not-clause-cells
events-returns-in_err-found-in-Not-clause-cells t c = c.events.ensures.cells

pub events-returns-in_ok-found-in-Not-clause-cells : goal.events-returns-in_ok-found-in-Not-clause-cells
events-returns-in_ok-found-in-Not-clause-cells t c = c.events.ensures.cells

-- ---- before the first

pub forall_events-events-requires : goal.forall_events-events-requires
forall_events-events-requires t c =
    (omega (arith, c.decreases), (c.requires.slots, c.requires.world))

pub forall_events-joined_events-requires : goal.forall_events-joined_events-requires
forall_events-joined_events-requires t c =
    let old = c.args.cells.now in
    let mid = c.events.new.cells in
    let met = c.in_ok-found.ensures in
    let s = c.args.slots.now in (
      omega (arith, c.decreases),
      (
        below_grows old mid met.cells s c.requires.slots,
        (
          subst (AllFit (length s.values) (length mid)) (sym c.as_slice.ensures.value) met.fit,
          stage_below_grows old mid met.cells (stage_in c.args.self.now) c.requires.world,
        ),
      ),
    )

-- ---- behind the last

pub all_events-returns-clause-cells : goal.all_events-returns-clause-cells
all_events-returns-clause-cells t c = c.loop-part.invariant.grows

pub joined_events-returns-clause-cells : goal.joined_events-returns-clause-cells
joined_events-returns-clause-cells t c = c.loop-number.invariant.grows

pub branch_events-returns-clause-cells : goal.branch_events-returns-clause-cells
branch_events-returns-clause-cells t c = c.loop-clause.invariant.grows

pub all_events-returns-in_err-found-clause-cells : goal.all_events-returns-in_err-found-clause-cells
all_events-returns-in_err-found-clause-cells t c = grows_self c.args.cells.now

pub goal_events-returns-in_err-more-clause-cells : goal.goal_events-returns-in_err-more-clause-cells
goal_events-returns-in_err-more-clause-cells t c = c.joined_events.ensures.cells

pub goal_events-returns-in_err-add-clause-cells : goal.goal_events-returns-in_err-add-clause-cells
goal_events-returns-in_err-add-clause-cells t c = c.joined_events.ensures.cells

pub goal_events-returns-clause-cells : goal.goal_events-returns-clause-cells
goal_events-returns-clause-cells t c = c.joined_events.ensures.cells

pub goal_events-returns-in_err-found-clause-cells : goal.goal_events-returns-in_err-found-clause-cells
goal_events-returns-in_err-found-clause-cells t c = grows_self c.args.cells.now

-- ---- functions of one call

pub forall_events-returns-in_err-found-clause-cells : goal.forall_events-returns-in_err-found-clause-cells
forall_events-returns-in_err-found-clause-cells t c = c.events.ensures.cells

pub atom_events-returns-in-Err-clause-cells : goal.atom_events-returns-in-Err-clause-cells
atom_events-returns-in-Err-clause-cells t c = c.fill_goal.ensures.cells

pub axiom_events-returns-in-None-clause-cells : goal.axiom_events-returns-in-None-clause-cells
axiom_events-returns-in-None-clause-cells t c = c.own_slots.ensures.cells

pub axiom_events-returns-in_err-started-clause-cells : goal.axiom_events-returns-in_err-started-clause-cells
axiom_events-returns-in_err-started-clause-cells t c = c.own_slots.ensures.cells

pub axiom_events-returns-in_default-clause-cells : goal.axiom_events-returns-in_default-clause-cells
axiom_events-returns-in_default-clause-cells t c = grows_self c.args.cells.now

pub branch_events-returns-then-level-eq0-clause-cells : goal.branch_events-returns-then-level-eq0-clause-cells
branch_events-returns-then-level-eq0-clause-cells t c = grows_self c.args.cells.now

pub one_events-returns-in-Cut-clause-cells : goal.one_events-returns-in-Cut-clause-cells
one_events-returns-in-Cut-clause-cells t c = grows_self c.args.cells.now

pub one_events-returns-in-Fault-clause-cells : goal.one_events-returns-in-Fault-clause-cells
one_events-returns-in-Fault-clause-cells t c = grows_self c.args.cells.now

pub one_events-returns-in_err-more-in-Sat-clause-cells : goal.one_events-returns-in_err-more-in-Sat-clause-cells
one_events-returns-in_err-more-in-Sat-clause-cells t c = c.events.ensures.cells

pub one_events-returns-in_ok-more-in-Sat-clause-cells : goal.one_events-returns-in_ok-more-in-Sat-clause-cells
one_events-returns-in_ok-more-in-Sat-clause-cells t c = c.events.ensures.cells

pub one_events-events-requires : goal.one_events-events-requires
one_events-events-requires t c =
    let fits =
    sat_fits (length c.args.slots.now.values) (length c.args.cells.now) c.args.found.now c.in-Sat.own c.in-Sat.is
    c.requires.found in
    (omega (arith, c.decreases), (fits.1, c.requires.world))

pub one_events-returns-in-Cut-clause-finds : goal.one_events-returns-in-Cut-clause-finds
one_events-returns-in-Cut-clause-finds t c =
    let old = c.args.cells.now in
    let vars = length c.args.slots.now.values in
    let x = c.args.found.now in
    let f =
    turned_sat (axioms_in c.args.self.now) c.args.level (state_in old c.args.self.now) c.args.part.now c.args.negate in
    IfOk-weaker c.only.result _ _
    (λ v is. hears_found old vars v.items _ (cut_replaced old f x vars v.items c.in-Cut.is is)) c.only.ensures

pub one_events-returns-in-Fault-clause-finds : goal.one_events-returns-in-Fault-clause-finds
one_events-returns-in-Fault-clause-finds t c =
    let old = c.args.cells.now in
    let vars = length c.args.slots.now.values in
    let x = c.args.found.now in
    let f =
    turned_sat (axioms_in c.args.self.now) c.args.level (state_in old c.args.self.now) c.args.part.now c.args.negate in
    IfOk-weaker c.only-in-Fault.result _ _
    (λ v is.
    hears_found old vars v.items _ (fault_replaced old f x vars c.in-Fault.fault v.items c.in-Fault.is is))
    c.only-in-Fault.ensures

pub atom_events-goal_events-requires : goal.atom_events-goal_events-requires
atom_events-goal_events-requires t c =
    let old = c.args.cells.now in
    let mid = c.fill_goal.new.cells in
    let filled = c.in-Ok.ensures in (
      omega (arith, c.decreases),
      (
        below_grows old mid filled.cells c.args.slots.now c.requires.slots,
        (
          filled.below,
          stage_below_grows old mid filled.cells (stage_in c.args.self.now) c.requires.world,
        ),
      ),
    )

-- ---- items

pub item_events-at-requires : goal.item_events-at-requires
item_events-at-requires t c =
    subst (λ source. c.args.number < item_count source) c.in-Parts.is c.requires.number

pub item_events-at-requires-in-Sats : goal.item_events-at-requires-in-Sats
item_events-at-requires-in-Sats t c =
    subst (λ source. c.args.number < item_count source) c.in-Sats.is c.requires.number

pub item_events-at-requires-in-Axioms : goal.item_events-at-requires-in-Axioms
item_events-at-requires-in-Axioms t c =
    subst (λ source. c.args.number < item_count source) c.in-Axioms.is c.requires.number

pub item_events-at-requires-in-Branches : goal.item_events-at-requires-in-Branches
item_events-at-requires-in-Branches t c =
    subst (λ source. c.args.number < item_count source) c.in-Branches.is c.requires.number

pub item_events-one_events-requires : goal.item_events-one_events-requires
item_events-one_events-requires t c =
    let vars = length c.args.slots.now.values in
    let n = length c.args.cells.now in
    let number = c.args.number in
    let found = c.in-Sats.found.now in
    let within = subst (λ source. number < item_count source) c.in-Sats.is c.requires.number in
    let fit = subst (SourceBelow vars n) c.in-Sats.is c.requires.source in (
      omega (arith, c.decreases, ap item_work c.in-Sats.is),
      (
        subst (Fits vars n) (sym c.at-in-Sats.ensures)
            (All-get_or (Fits vars n) found number c.at-in-Sats.result.now within fit),
        c.requires.world,
      ),
    )

pub item_events-axiom_events-requires : goal.item_events-axiom_events-requires
item_events-axiom_events-requires t c =
    let vars = length c.args.slots.now.values in
    let below = subst (SourceBelow vars (length c.args.cells.now)) c.in-Axioms.is c.requires.source in
    (omega (arith, c.decreases, ap item_work c.in-Axioms.is), (c.requires.slots, (below, c.requires.world)))

pub item_events-conclusion-requires : goal.item_events-conclusion-requires
item_events-conclusion-requires t c =
    let n = length c.args.cells.now in
    let number = c.args.number in
    let within = subst (λ source. number < item_count source) c.in-Branches.is c.requires.number in
    let below = subst (SourceBelow (length c.args.slots.now.values) n) c.in-Branches.is c.requires.source in
    record {
      slots = c.requires.slots;
      goal = below.0;
      found =
          subst (BindsBelow n) (sym c.at-in-Branches.ensures)
          (All-get_or (BindsBelow n) c.in-Branches.found.now number c.at-in-Branches.result.now within below.1);
    }

pub item_events-returns-in-Parts-clause-finds : goal.item_events-returns-in-Parts-clause-finds
item_events-returns-in-Parts-clause-finds t c =
    let scene = c.args.self.now in
    let axioms = axioms_in scene in
    let old = c.args.cells.now in
    let s = c.args.slots.now in
    let number = c.args.number in
    let within = subst (λ source. number < item_count source) c.in-Parts.is c.requires.number in
    let piece =
    ap heard (piece_is (λ p. sat axioms c.args.level (state_in old scene) (expression_of p) (bindings_of old s))
    c.in-Parts.parts.now number c.at.result.now _ (ap (pieces scene c.args.level old s) c.in-Parts.is) within
    c.at.ensures) in
    IfOk-weaker c.events.result _ _ (λ v h. record { stand = h.0 ∙ piece; fit = h.1 })
    (IfOk-both c.events.result _ _ c.events.ensures.found c.events.ensures.fit)

pub item_events-returns-in-Axioms-clause-finds : goal.item_events-returns-in-Axioms-clause-finds
item_events-returns-in-Axioms-clause-finds t c =
    let scene = c.args.self.now in
    let old = c.args.cells.now in
    let s = c.args.slots.now in
    let number = c.args.number in
    let within = subst (λ source. number < item_count source) c.in-Axioms.is c.requires.number in
    let lower = below_at (axioms_in scene) c.args.level (state_in old scene) in
    let piece =
    ap heard (piece_is
    (λ place. placed_events lower (axiom_at (rules_in scene) place) (goal_of old c.in-Axioms.goal.now)
    (bindings_of old s))
    c.in-Axioms.places.now number c.at-in-Axioms.result.now _
    (ap (pieces scene c.args.level old s) c.in-Axioms.is) within c.at-in-Axioms.ensures) in
    IfOk-weaker c.axiom_events.result _ _
    (λ v h. hears_same c.axiom_events.new.cells (length s.values) v.items _ _ piece h) c.axiom_events.ensures.finds

pub item_events-returns-in-Parts-clause-cells : goal.item_events-returns-in-Parts-clause-cells
item_events-returns-in-Parts-clause-cells t c = c.events.ensures.cells

pub item_events-returns-in-Sats-clause-cells : goal.item_events-returns-in-Sats-clause-cells
item_events-returns-in-Sats-clause-cells t c = c.one_events.ensures.cells

pub item_events-returns-in-Axioms-clause-cells : goal.item_events-returns-in-Axioms-clause-cells
item_events-returns-in-Axioms-clause-cells t c = c.axiom_events.ensures.cells

pub item_events-returns-in-Branches-clause-cells : goal.item_events-returns-in-Branches-clause-cells
item_events-returns-in-Branches-clause-cells t c = c.conclusion.ensures.cells

-- ---- where nothing is called again

pub goal_events-state_events-requires : goal.goal_events-state_events-requires
goal_events-state_events-requires t c = record {
  slots = c.requires.slots;
  goal = c.requires.goal;
  world = c.requires.world;
}

pub axiom_events-returns-in_default-clause-finds : goal.axiom_events-returns-in_default-clause-finds
axiom_events-returns-in_default-clause-finds t c =
    let scene = c.args.self.now in
    let old = c.args.cells.now in
    let vars = length c.args.slots.now.values in
    let items = c.new.result.items in
    let lower = below_at (axioms_in scene) c.args.level (state_in old scene) in
    let placed =
    λ (o : Option Axiom). placed_events lower o (goal_of old c.args.goal.now) (bindings_of old c.args.slots.now) in
    let none = sym c.axiom.ensures ∙ ap (option_map (λ b. axiom_of b.now)) c.in_default.is in
    hears_found old vars items _ (finds_none old vars items _ c.new.ensures.items (ap placed none))

pub branch_events-loop-clause-init : goal.branch_events-loop-clause-init
branch_events-loop-clause-init t c =
    let scene = c.args.self.now in
    let old = c.args.cells.now in
    record {
      grows = grows_self old;
      so_far =
          branches_begin (axioms_in scene) c.args.level (state_in old scene) (axiom_of c.args.rule.now)
          (bindings_of old c.args.slots.now) (omega (arith, c.if-level-eq0.false));
    }

pub branch_events-returns-clause-finds : goal.branch_events-returns-clause-finds
branch_events-returns-clause-finds t c =
    let scene = c.args.self.now in
    let old = c.args.cells.now in
    let new = c.loop-clause.cells in
    let vars = length c.args.slots.now.values in
    let i = c.loop-clause.clause-index in
    let clauses = c.args.rule.now.clauses.items in
    let f : Clause → List Event
    = λ x. sat (axioms_in scene) (c.args.level - 1) (state_in old scene) x.body (bindings_of old c.args.slots.now) in
    let over = subst (λ cs. length cs ≤ i) c.deref-clause-items.ensures.value c.loop-clause-test.false in
    hears_found new vars c.new.result.items _
    (finds_none new vars c.new.result.items _ c.new.ensures.items
    (c.loop-clause.invariant.so_far
    ∙ ap (λ cs. chosen_events (chosen f (map clause_of cs))) (drop_all i clauses over)))

pub branch_events-returns-then-level-eq0-clause-finds : goal.branch_events-returns-then-level-eq0-clause-finds
branch_events-returns-then-level-eq0-clause-finds t c =
    let scene = c.args.self.now in
    let old = c.args.cells.now in
    let vars = length c.args.slots.now.values in
    let e = bindings_of old c.args.slots.now in
    let none =
    ap (λ n. branch_events (below_at (axioms_in scene) n (state_in old scene)) (axiom_of c.args.rule.now) e)
    c.if-level-eq0.true in
    IfOk-weaker c.only.result _ _
    (λ v is.
    hears_found old vars v.items _
    (finds_same old vars v.items _ _ (sym none) (finds_one old vars Cut v.items is tt)))
    c.only.ensures
