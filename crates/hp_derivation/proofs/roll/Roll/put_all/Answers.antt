use Rattle.std.proofs.Common.{◌≡◌, arith}
use Rattle.hp_derivation.proofs.RollSteps.{put_done, put_more}
use Rattle.hp_derivation.proofs.roll.Roll.put_all.Goals as goal

pub loop-preserved : goal.loop-preserved
loop-preserved c = λ ts xs h.
    put_more c.args.task c.args.count ts xs c.loop.self c.put.new.self c.loop.behind c.len-number.result c.loop.counter
    c.loop-test.true c.len-number.ensures c.in_ok-put.ensures (c.loop.invariant ts xs h)

pub returns : goal.returns
returns c = λ ts xs h.
    let all : c.loop.counter ≡ c.args.count = omega arith in
    put_done c.args.task c.args.count ts xs c.loop.self c.loop.behind c.loop.counter all (c.loop.invariant ts xs h)
