use Rattle.std.proofs.Common.{arith, ◌≡◌, ◌-◌, take, drop, length}
use Rattle.std.proofs.lemmas.Grind.{common_steps}
use Rattle.hp_out.proofs.WriteSteps.{write_step}
use Rattle.hp_out.proofs.writing.write_all.Goals as goal

pub loop-done-preserved : goal.loop-done-preserved
loop-done-preserved g c =
    let t = c.args.text.now in
    let d = c.loop-done.done in
    let e : take (length t - d) (drop d t) ≡ drop d t = grind (arith, common_steps) in
    record {
      within = grind (arith, common_steps, c.in_ok-count.ensures.count);
      wrote =
          write_step c.args.text.now c.loop-done.done c.in_ok-count.count _ _ _ c.loop-done.invariant.wrote
          (rw e at c.in_ok-count.ensures.taken);
      later = grind (arith, common_steps, c.in_ok-count.ensures.later);
    }
