use Rattle.std.proofs.Common.{arith}
use Rattle.std.proofs.lemmas.List.Concat.{flat_map-append}
use Rattle.hp_out.proofs.PageSteps.{piece_not_put, put_all, put_piece}
use Rattle.hp_out.proofs.PathSteps.{next_text, others_text}
use Rattle.hp_out.proofs.paths.push_others.Goals as goal

-- the earlier numbers were put, and this one couldn't be
pub returns-in_err-push_next-clause-puts : goal.returns-in_err-push_next-clause-puts
returns-in_err-push_next-clause-puts g c =
    piece_not_put next_text _ _ _ c.args.numbers.now c.loop-number.number-index 0 _ _ _ c.from_residual.ensures.0
    c.in_err-push_next.was c.loop-number-test.true c.loop-number.invariant.put c.push_next.ensures.puts

pub loop-number-preserved : goal.loop-number-preserved
loop-number-preserved g c = record {
  put =
      put_piece next_text c.args.numbers.now c.loop-number.number-index 0 _ _ _ c.loop-number-test.true
      c.loop-number.invariant.put c.in_ok-push_next.ensures.puts;
  later = omega (arith, c.loop-number.invariant.later, c.in_ok-push_next.ensures.later);
}

pub returns-clause-puts : goal.returns-clause-puts
returns-clause-puts g c =
    put_all others_text (flat_map-append next_text) c.args.numbers.now c.loop-number.number-index _ _
    c.loop-number-test.false c.loop-number.invariant.put
