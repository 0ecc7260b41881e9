use Rattle.std.proofs.Common.{arith, ◌≡◌, ◌≤◌, ◌-◌, take, drop, length}
use Rattle.std.proofs.lemmas.Grind.{common_steps}
use Rattle.hp_out.proofs.PagedSteps.{some_more}
use Rattle.hp_out.proofs.paged.write_rest.Goals as goal

pub loop-done-preserved : goal.loop-done-preserved
loop-done-preserved g c =
    let t = c.args.page.now in
    let d = c.loop-done.done in
    let e : take (length t - d) (drop d t) ≡ drop d t = grind (arith, common_steps) in
    record {
      wrote =
          some_more t c.args.done.now d c.in_ok-count.count _ _ _ c.loop-done.invariant.wrote
          (rw e at c.in_ok-count.ensures.count) (rw e at c.in_ok-count.ensures.taken);
      later = grind (arith, common_steps, c.in_ok-count.ensures.later);
    }

-- all stands behind what is written
pub returns-clause-whole : goal.returns-clause-whole
returns-clause-whole g c =
    let within : c.loop-done.done ≤ length c.args.page.now = c.loop-done.invariant.wrote.within in
    let end : length c.args.page.now ≤ c.loop-done.done = c.loop-done-test.false in
    omega arith
