use Rattle.std.proofs.Common.{arith}
use Rattle.hp_out.proofs.GroundSteps.{ground_line, grounds_joined, grounds_text, one_ground}
use Rattle.hp_out.proofs.PageSteps.{put_more, next_not_put, put_all}
use Rattle.hp_out.proofs.grounds.push_ground_lines.Goals as goal

-- the earlier lines were put, and this one couldn't be
pub returns-in_err-push_ground_line-clause-puts : goal.returns-in_err-push_ground_line-clause-puts
returns-in_err-push_ground_line-clause-puts g c =
    next_not_put grounds_text grounds_joined _ _ _ c.args.terms.now c.loop-term.term-index c.term-item.result
    (ground_line c.term-item.result) _ _ _ c.from_residual.ensures.0 c.in_err-push_ground_line.was
    c.loop-term-test.true
    (one_ground c.args.terms.now c.loop-term.term-index c.term-item.result c.term-item.is)
    c.loop-term.invariant.put c.push_ground_line.ensures.puts

pub loop-term-preserved : goal.loop-term-preserved
loop-term-preserved g c = record {
  put =
      put_more grounds_text grounds_joined c.args.terms.now c.loop-term.term-index c.term-item.result
      (ground_line c.term-item.result) _ _ _ c.loop-term-test.true
      (one_ground c.args.terms.now c.loop-term.term-index c.term-item.result c.term-item.is)
      c.loop-term.invariant.put c.in_ok-push_ground_line.ensures.puts;
  later = omega (arith, c.loop-term.invariant.later, c.in_ok-push_ground_line.ensures.later);
}

pub returns-clause-puts : goal.returns-clause-puts
returns-clause-puts g c =
    put_all grounds_text grounds_joined c.args.terms.now c.loop-term.term-index _ _ c.loop-term-test.false
    c.loop-term.invariant.put
