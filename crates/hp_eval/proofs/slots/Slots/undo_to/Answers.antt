use Rattle.std.proofs.Common.{◌≡◌, ◌-◌, length, sym, ap, ◌∙◌, arith}
use Rattle.std.proofs.lemmas.List.{length-take-le}
use Rattle.hp_eval.specs.Slotted.{undone}
use Rattle.hp_eval.proofs.SlotLemmas.{undone_twice}
use Rattle.hp_eval.proofs.slots.Slots.undo_to.Goals as goal

pub loop-self-preserved : goal.loop-self-preserved
loop-self-preserved c =
    let initial = c.args.self.now in
    let old = c.loop-self.self in
    let n = length old.trail - 1 in
    let shorter : length c.undo_last.new.self.trail ≡ n
    = ap (λ s. length s.trail) c.undo_last.ensures ∙ length-take-le n old.trail (omega arith) in record {
      above = omega arith;
      within = omega arith;
      so_far =
          c.undo_last.ensures
          ∙ (ap (undone n) c.loop-self.invariant.so_far
          ∙ (undone_twice n (length old.trail) initial (omega arith) c.loop-self.invariant.within
          ∙ ap (λ m. undone m initial) (sym shorter)));
    }
