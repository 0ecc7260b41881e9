use Rattle.std.proofs.Common.{◌≡◌, ◌+◌, ◌-◌, length, sym, ap, ap₂, subst, ◌∙◌, arith}
use Rattle.std.proofs.lemmas.List.{length-set}
use Rattle.hp_eval.specs.Slotted.{AreSlots, stored, undone}
use Rattle.hp_eval.proofs.SlotLemmas.{last_within, stored-undone, length-stored, are_slots_undone}
use Rattle.hp_eval.proofs.slots.Slots.undo_last.Goals as goal

pub index_mut-requires : goal.index_mut-requires
index_mut-requires c =
    let slots = c.self.inside.slots.items in
    let bound = c.self.inside.bound in
    let some = ap (λ s. length s.trail) c.self.view_is in
    let counted = length-stored slots bound c.self.invariant.1 in
    let within =
    last_within slots (bound - 1) bound c.index.result.now (omega arith) c.self.invariant.0 c.self.invariant.1
    c.index.ensures in
    omega arith

pub invariant_of-self : goal.invariant_of-self
invariant_of-self c =
    let slots = c.self.inside.slots.items in
    let bound = c.self.inside.bound in
    let last = c.index.result.now in
    let some = ap (λ s. length s.trail) c.self.view_is in
    let counted = length-stored slots bound c.self.invariant.1 in
    let more : bound - 1 + 1 ≡ bound = omega arith in
    let within = last_within slots (bound - 1) bound last more c.self.invariant.0 c.self.invariant.1 c.index.ensures in
    let e =
    stored-undone slots (bound - 1) bound last c.index_mut.result.now more c.self.invariant.1 within c.index.ensures
    c.index_mut.ensures.value in
    let a = are_slots_undone (bound - 1) (stored slots bound) c.self.invariant.0 in
    (subst AreSlots (sym e) a, rw length-set (omega arith), rw length-set (omega arith))

pub returns : goal.returns
returns c =
    let slots = c.self.inside.slots.items in
    let bound = c.self.inside.bound in
    let last = c.index.result.now in
    let some = ap (λ s. length s.trail) c.self.view_is in
    let counted = length-stored slots bound c.self.invariant.1 in
    let more : bound - 1 + 1 ≡ bound = omega arith in
    let within = last_within slots (bound - 1) bound last more c.self.invariant.0 c.self.invariant.1 c.index.ensures in
    stored-undone slots (bound - 1) bound last c.index_mut.result.now more c.self.invariant.1 within c.index.ensures
    c.index_mut.ensures.value
    ∙ ap₂ undone (ap (λ n. n - 1) (sym counted ∙ some)) c.self.view_is
