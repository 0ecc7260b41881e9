use Rattle.std.proofs.Common.{arith}
use Rattle.std.proofs.lemmas.Grind.{common_steps}
use Rattle.hp_out.proofs.PageSteps.{put_piece, piece_not_put}
use Rattle.hp_out.proofs.page.Page.push_all.Goals as goal

-- the earlier texts were put, and this one couldn't be
pub returns-in_err-push-clause-puts : goal.returns-in_err-push-clause-puts
returns-in_err-push-clause-puts g c =
    piece_not_put (λ t. t.now) _ _ _ c.args.texts.now c.loop-text.text-index _ _ _ _ c.from_residual.ensures.0
    c.in_err-push.was c.loop-text-test.true c.loop-text.invariant.put c.push.ensures.puts

pub loop-text-preserved : goal.loop-text-preserved
loop-text-preserved g c = record {
  put =
      put_piece (λ t. t.now) c.args.texts.now c.loop-text.text-index _ _ _ _ c.loop-text-test.true
      c.loop-text.invariant.put c.in_ok-push.ensures.puts;
  later = grind (arith, common_steps, c.in_ok-push.ensures.later);
}
