use Rattle.std.proofs.Common.{cond, ℕ, ap, ◌∙◌, sym, arith}
use Rattle.hp_world.proofs.StageLemmas.{live_more}
use Rattle.hp_world.proofs.places.Places.live.Goals as goal
use Rattle.hp_world.proofs.places.Places.live.Goals.{then-is_some, else-is_some}

pub loop-place-preserved : goal.loop-place-preserved
loop-place-preserved c =
    let e =
    live_more c.deref-place-items.result.now c.loop-place.place-index c.place-item.result c.loop-place-test.true
    c.place-item.is in
    elim c.if-is_some.branch [
      | then-is_some w ↦
          let f = ap {B = ℕ} (λ b. cond b 1 0) (sym c.is_some.ensures ∙ w.if-is_some.true) in
          (omega (arith, e, f), omega arith)
      | else-is_some w ↦
          let f = ap {B = ℕ} (λ b. cond b 1 0) (sym c.is_some.ensures ∙ w.if-is_some.false) in
          (omega (arith, e, f), omega arith)
    ]
