use Rattle.std.proofs.Common.{◌+◌, ◌<◌, length, sym, ◌∙◌, subst, arith}
use Rattle.hp_eval.specs.Slotted.{Binds}
use Rattle.hp_eval.proofs.SlotLemmas.{binds_bound, binds_through}
use Rattle.hp_eval.proofs.Copies.{IsCopiedTo, copied_free, copied_bound, copied_all}
use Rattle.hp_satisfiers.proofs.listed.fill.Goals as goal
use Rattle.hp_satisfiers.proofs.listed.fill.Goals.{in-Some, in_default}

pub loop-v-preserved : goal.loop-v-preserved
loop-v-preserved c =
    let own = c.args.own.now in
    let v = c.loop-v.v in
    let old = c.loop-v.slots in
    let here : v < length own.values = omega arith in
    elim c.match-get.branch [
      | in-Some w ↦
          let after = sym (w.slots-is ∙ w.bind.ensures) in
          let free = c.loop-v.invariant.copied.beyond v (omega arith) here in
          record {
            copied =
                subst (λ s. IsCopiedTo (v + 1) s own) after
                (copied_bound v w.in-Some.cell old own c.loop-v.invariant.copied here
                (sym c.get.ensures ∙ w.in-Some.is));
            above =
                binds_through c.args.slots.now old c.match-get.slots c.loop-v.invariant.above
                (subst (Binds old) after (binds_bound old v w.in-Some.cell free));
          }
      | in_default w ↦ record {
        copied =
            subst (λ s. IsCopiedTo (v + 1) s own) (sym w.slots-is)
            (copied_free v old own c.loop-v.invariant.copied here (sym c.get.ensures ∙ w.in_default.is));
        above = subst (Binds c.args.slots.now) (sym w.slots-is) c.loop-v.invariant.above;
      }
    ]

pub returns-clause-values : goal.returns-clause-values
returns-clause-values c =
    copied_all c.loop-v.v c.loop-v.slots c.args.own.now c.loop-v.invariant.copied (omega arith)
