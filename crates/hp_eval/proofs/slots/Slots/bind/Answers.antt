use Rattle.std.proofs.Common.{sym, ap, subst, ◌∙◌, arith}
use Rattle.std.specs.Prelude.{slice_get}
use Rattle.std.proofs.lemmas.List.{length-set}
use Rattle.hp_eval.specs.Slotted.{AreSlots, stored, with_bound}
use Rattle.hp_eval.proofs.SlotLemmas.{places_to_bind, are_slots_bound, stored-bound}
use Rattle.hp_eval.proofs.slots.Slots.bind.Goals as goal

pub index_mut-requires-2 : goal.index_mut-requires-2
index_mut-requires-2 c =
    let unbound = ap (λ s. slice_get s.values c.args.v) c.self.view_is ∙ c.requires.unbound in
    let slots = c.self.inside.slots.items in
    let places = places_to_bind slots c.self.inside.bound c.args.v c.self.invariant.0 c.self.invariant.1 unbound in
    omega arith

pub invariant_of-self : goal.invariant_of-self
invariant_of-self c =
    let slots = c.self.inside.slots.items in
    let bound = c.self.inside.bound in
    let unbound = ap (λ s. slice_get s.values c.args.v) c.self.view_is ∙ c.requires.unbound in
    let places = places_to_bind slots bound c.args.v c.self.invariant.0 c.self.invariant.1 unbound in
    let e =
    stored-bound slots bound c.args.v c.args.cell c.index_mut.result.now c.index_mut-2.result.now places.0 places.1
    c.index_mut.ensures.value c.index_mut-2.ensures.value in
    let a = are_slots_bound (stored slots bound) c.args.v c.args.cell c.self.invariant.0 unbound in
    (subst AreSlots (sym e) a, simp length-set (omega arith), simp length-set (omega arith))

pub returns : goal.returns
returns c =
    let slots = c.self.inside.slots.items in
    let bound = c.self.inside.bound in
    let unbound = ap (λ s. slice_get s.values c.args.v) c.self.view_is ∙ c.requires.unbound in
    let places = places_to_bind slots bound c.args.v c.self.invariant.0 c.self.invariant.1 unbound in
    stored-bound slots bound c.args.v c.args.cell c.index_mut.result.now c.index_mut-2.result.now places.0 places.1
    c.index_mut.ensures.value c.index_mut-2.ensures.value
    ∙ ap (with_bound c.args.v c.args.cell) c.self.view_is
