use Rattle.std.proofs.Common.{◌+◌, ◌<◌, length, sym, ◌∙◌, subst, arith}
use Rattle.hp_eval.proofs.Copies.{IsCopiedTo, copied_free, copied_bound, copied_all}
use Rattle.hp_eval.proofs.slots.Slots.copy.Goals as goal
use Rattle.hp_eval.proofs.slots.Slots.copy.Goals.{in-Some, in_default}

pub loop-v-preserved : goal.loop-v-preserved
loop-v-preserved c =
    let v = c.loop-v.v in
    let copy = c.loop-v.copy in
    let slots = c.args.self.now in
    let there : v < length slots.values = omega arith in
    elim c.match-get.branch [
      | in-Some w ↦ subst (λ s. IsCopiedTo (v + 1) s slots) (sym (w.copy-is ∙ w.bind.ensures))
          (copied_bound v w.in-Some.cell copy slots c.loop-v.invariant there (sym c.get.ensures ∙ w.in-Some.is))
      | in_default w ↦ subst (λ s. IsCopiedTo (v + 1) s slots) (sym w.copy-is)
          (copied_free v copy slots c.loop-v.invariant there (sym c.get.ensures ∙ w.in_default.is))
    ]

pub returns : goal.returns
returns c = copied_all c.loop-v.v c.loop-v.copy c.args.self.now c.loop-v.invariant (omega arith)
