use Rattle.std.proofs.Common.{length, map, sym, ◌∙◌, ap, subst, arith}
use Rattle.hp_eval.specs.Events.{event_of, left_after, AreOfFirst}
use Rattle.hp_eval.specs.Slotted.{named, no_bindings, bindings_of}
use Rattle.hp_eval.proofs.Copies.{same_below}
use Rattle.hp_eval.proofs.SlotLemmas.{binds_self}
use Rattle.hp_satisfiers.proofs.ListedLemmas.{blank_below, left_ended, left_sat, left_cut, left_fault, sat_here_fits}
use Rattle.hp_satisfiers.proofs.listed.give.Goals as goal

pub returns-in-Cut-clause-above : goal.returns-in-Cut-clause-above
returns-in-Cut-clause-above c = binds_self c.args.slots.now

pub returns-in-Fault-clause-above : goal.returns-in-Fault-clause-above
returns-in-Fault-clause-above c = binds_self c.args.slots.now

pub returns-then-place-found-clause-above : goal.returns-then-place-found-clause-above
returns-then-place-found-clause-above c = binds_self c.args.slots.now

-- ---- the end

pub returns-then-place-found-clause-event : goal.returns-then-place-found-clause-event
returns-then-place-found-clause-event c = λ terms.
    sym (ap event_of (left_ended c.args.found.now c.args.place.now terms c.if-place-found.true))

pub returns-then-place-found-clause-rest : goal.returns-then-place-found-clause-rest
returns-then-place-found-clause-rest c = λ terms.
    let e = left_ended c.args.found.now c.args.place.now terms c.if-place-found.true in e ∙ sym (ap left_after e)

pub returns-then-place-found-clause-sat : goal.returns-then-place-found-clause-sat
returns-then-place-found-clause-sat c = λ terms.
    subst (λ xs. AreOfFirst xs (bindings_of terms c.args.slots.now))
    (sym (left_ended c.args.found.now c.args.place.now terms c.if-place-found.true)) tt

pub returns-then-place-found-clause-below : goal.returns-then-place-found-clause-below
returns-then-place-found-clause-below c = λ n fit.
    blank_below n (length c.args.slots.now.values) c.args.slots.now c.requires.blank

-- ---- a cut

pub returns-in-Cut-clause-event : goal.returns-in-Cut-clause-event
returns-in-Cut-clause-event c = λ terms.
    sym (ap event_of (left_cut c.args.found.now c.args.place.now c.index-found-place.result c.if-place-found.false
    c.index-found-place.is c.in-Cut.is terms))

pub returns-in-Cut-clause-rest : goal.returns-in-Cut-clause-rest
returns-in-Cut-clause-rest c = λ terms.
    sym (ap left_after (left_cut c.args.found.now c.args.place.now c.index-found-place.result c.if-place-found.false
    c.index-found-place.is c.in-Cut.is terms))

pub returns-in-Cut-clause-sat : goal.returns-in-Cut-clause-sat
returns-in-Cut-clause-sat c = λ terms.
    subst (λ xs. AreOfFirst xs (bindings_of terms c.args.slots.now))
    (sym (left_cut c.args.found.now c.args.place.now c.index-found-place.result c.if-place-found.false
    c.index-found-place.is c.in-Cut.is terms)) tt

pub returns-in-Cut-clause-below : goal.returns-in-Cut-clause-below
returns-in-Cut-clause-below c = λ n fit.
    blank_below n (length c.args.slots.now.values) c.args.slots.now c.requires.blank

-- ---- a fault

pub returns-in-Fault-clause-event : goal.returns-in-Fault-clause-event
returns-in-Fault-clause-event c = λ terms.
    sym (ap event_of (left_fault c.args.found.now c.args.place.now c.index-found-place.result c.if-place-found.false
    c.index-found-place.is c.in-Fault.fault c.in-Fault.is terms))

pub returns-in-Fault-clause-rest : goal.returns-in-Fault-clause-rest
returns-in-Fault-clause-rest c = λ terms.
    let found = c.args.found.now in
    left_ended found (length found) terms (omega arith)
    ∙ sym (ap left_after (left_fault found c.args.place.now c.index-found-place.result c.if-place-found.false
    c.index-found-place.is c.in-Fault.fault c.in-Fault.is terms))

pub returns-in-Fault-clause-sat : goal.returns-in-Fault-clause-sat
returns-in-Fault-clause-sat c = λ terms.
    subst (λ xs. AreOfFirst xs (bindings_of terms c.args.slots.now))
    (sym (left_fault c.args.found.now c.args.place.now c.index-found-place.result c.if-place-found.false
    c.index-found-place.is c.in-Fault.fault c.in-Fault.is terms)) tt

pub returns-in-Fault-clause-below : goal.returns-in-Fault-clause-below
returns-in-Fault-clause-below c = λ n fit.
    blank_below n (length c.args.slots.now.values) c.args.slots.now c.requires.blank

-- ---- a Sat

pub fill-requires : goal.fill-requires
fill-requires c =
    let fits =
    sat_here_fits c.args.found.now c.args.place.now c.index-found-place.result c.if-place-found.false
    c.index-found-place.is c.in-Sat.own c.in-Sat.is (length c.args.slots.now.values) c.requires.fit.0
    c.requires.fit.1 in
    record { blank = c.requires.blank ∙ ap no_bindings (sym fits.0) }

pub returns-in-Sat-clause-event : goal.returns-in-Sat-clause-event
returns-in-Sat-clause-event c = λ terms.
    sym (ap event_of (left_sat c.args.found.now c.args.place.now c.index-found-place.result c.if-place-found.false
    c.index-found-place.is c.in-Sat.own c.in-Sat.is terms))

pub returns-in-Sat-clause-rest : goal.returns-in-Sat-clause-rest
returns-in-Sat-clause-rest c = λ terms.
    sym (ap left_after (left_sat c.args.found.now c.args.place.now c.index-found-place.result c.if-place-found.false
    c.index-found-place.is c.in-Sat.own c.in-Sat.is terms))

pub returns-in-Sat-clause-sat : goal.returns-in-Sat-clause-sat
returns-in-Sat-clause-sat c = λ terms.
    subst (λ xs. AreOfFirst xs (bindings_of terms c.fill.new.slots))
    (sym (left_sat c.args.found.now c.args.place.now c.index-found-place.result c.if-place-found.false
    c.index-found-place.is c.in-Sat.own c.in-Sat.is terms))
    (ap (λ vs. map (named terms) vs) c.fill.ensures.values)

pub returns-in-Sat-clause-below : goal.returns-in-Sat-clause-below
returns-in-Sat-clause-below c = λ n fit.
    let fits =
    sat_here_fits c.args.found.now c.args.place.now c.index-found-place.result c.if-place-found.false
    c.index-found-place.is c.in-Sat.own c.in-Sat.is (length c.args.slots.now.values) n fit in
    same_below n c.fill.new.slots c.in-Sat.own c.fill.ensures.values fits.1

pub returns-in-Sat-clause-above : goal.returns-in-Sat-clause-above
returns-in-Sat-clause-above c = c.fill.ensures.above
