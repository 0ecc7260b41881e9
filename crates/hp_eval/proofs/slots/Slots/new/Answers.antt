use Rattle.std.proofs.Common.{None, length, refl, sym, ap, subst, ◌∙◌, arith}
use Rattle.std.proofs.lemmas.List.{length-replicate}
use Rattle.hp_eval.specs.Slotted.{AreSlots, stored}
use Rattle.hp_eval.proofs.SlotLemmas.{are_slots_none, stored-none}
use Rattle.hp_eval.proofs.slots.Slots.new.Goals as goal

pub invariant_of-result : goal.invariant_of-result
invariant_of-result c =
    let items = c.in_ok-slots.ensures.items_if_clones_equal (λ y h. h) in
    let long = ap length items ∙ length-replicate c.args.vars _ in
    let e =
    ap (λ slots. stored slots 0) items
    ∙ stored-none c.args.vars (record { value = None; listed = 0 }) refl in
    (subst AreSlots (sym e) (are_slots_none c.args.vars), omega arith, omega (arith, long, c.requires.few))

pub returns : goal.returns
returns c =
    ap (λ slots. stored slots 0) (c.in_ok-slots.ensures.items_if_clones_equal (λ y h. h))
    ∙ stored-none c.args.vars (record { value = None; listed = 0 }) refl
