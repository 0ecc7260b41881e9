use Rattle.std.proofs.Common.{◌≡◌, ◌<◌, ◌+◌, ◌-◌, arith, length}
use Rattle.hp_top.proofs.PairSteps.{pair_alone}
use Rattle.hp_top.proofs.serving.pair_at.Goals as goal

pub returns : goal.returns
returns c =
    let some = c.requires in
    let within = c.if-number-count.false in
    let one : (c.args.number - 1 + 1) - (c.args.number - 1) ≡ 1 = omega arith in
    let there : c.args.number - 1 < length c.args.pairs.now = omega (arith, some, within) in
    rw one (pair_alone c.args.pairs.now (c.args.number - 1) there)
