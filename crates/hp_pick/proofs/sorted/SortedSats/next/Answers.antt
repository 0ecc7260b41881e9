use Rattle.std.proofs.Common.{◌≡◌, List, Option, Some, None, refl, subst}
use Rattle.std.specs.Prelude.{IfOk, OnOk}
use Rattle.hp_syntax.specs.Preconditions.{keyed, sorted_events}
use Rattle.hp_syntax.specs.Syntax.{Key}
use Rattle.hp_syntax.specs.Terms.{Term}
use Rattle.hp_syntax.specs.Views.{key_of}
use Rattle.hp_eval.specs.Events.{PlainEvent, event_of, left_after, AreOfFirst}
use Rattle.hp_eval.specs.Slotted.{bindings_of}
use Rattle.hp_eval.proofs.GrowthLemmas.{grows_self}
use Rattle.hp_pick.specs.declared.heard.Heard.{Heard}
use Rattle.hp_pick.specs.Heard.{left_of, rest_in_order}
use Rattle.hp_pick.proofs.sorted.SortedSats.next.Goals as goal

-- what is left before a list was heard is its events in their order
in_order_unheard : (k : Key) (xs : List PlainEvent) (c : List Term) (o : Option Heard)
    → ((h : Heard) → o ≡ Some h → ⊥) → sorted_events k.order (keyed k xs) ≡ rest_in_order k xs c o
in_order_unheard k xs c None h = refl
in_order_unheard k xs c (Some x) h = absurd (h x refl)

pub returns-in-Some-clause-start : goal.returns-in-Some-clause-start
returns-in-Some-clause-start g c = refl

pub returns-in-Some-clause-cells : goal.returns-in-Some-clause-cells
returns-in-Some-clause-cells g c = grows_self c.args.cells.now

pub returns-clause-start : goal.returns-clause-start
returns-clause-start g c = refl

pub returns-clause-cells : goal.returns-clause-cells
returns-clause-cells g c = c.hear_in_order-found.ensures.cells

pub returns-clause-event : goal.returns-clause-event
returns-clause-event g c =
    let s = c.args.self.now in
    let k = key_of s.key in
    let old = c.args.cells.now in
    let new = c.hear_in_order-found.new.cells in
    let rest = g.S.Sats.rest s.inner c.args.base.now old c.args.slots.now in
    let whole = sorted_events k.order (keyed k rest) in
    let unheard = in_order_unheard k rest old s.heard c.in_default.not-Some in
    subst (λ xs. IfOk c.start-heard.result.1 (λ x. x ≡ event_of xs)) unheard
    (c.start-heard.ensures.event new whole c.hear_in_order-found.ensures.heard)

pub returns-clause-rest : goal.returns-clause-rest
returns-clause-rest g c =
    let s = c.args.self.now in
    let k = key_of s.key in
    let old = c.args.cells.now in
    let new = c.hear_in_order-found.new.cells in
    let rest = g.S.Sats.rest s.inner c.args.base.now old c.args.slots.now in
    let whole = sorted_events k.order (keyed k rest) in
    let unheard = in_order_unheard k rest old s.heard c.in_default.not-Some in
    subst (λ xs. OnOk c.start-heard.result.1 (left_of new c.start-heard.result.0 ≡ left_after xs)) unheard
    (c.start-heard.ensures.rest new whole c.hear_in_order-found.ensures.heard)

pub returns-clause-sat : goal.returns-clause-sat
returns-clause-sat g c =
    let s = c.args.self.now in
    let k = key_of s.key in
    let old = c.args.cells.now in
    let new = c.hear_in_order-found.new.cells in
    let rest = g.S.Sats.rest s.inner c.args.base.now old c.args.slots.now in
    let whole = sorted_events k.order (keyed k rest) in
    let unheard = in_order_unheard k rest old s.heard c.in_default.not-Some in
    subst (λ xs. OnOk c.start-heard.result.1 (AreOfFirst xs (bindings_of new c.start-heard.new.slots))) unheard
    (c.start-heard.ensures.sat new whole c.hear_in_order-found.ensures.heard)
