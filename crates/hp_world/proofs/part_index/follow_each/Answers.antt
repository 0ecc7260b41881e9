use Rattle.std.proofs.Common.{arith}
use Rattle.hp_world.specs.Keyed.{Steps}
use Rattle.hp_world.proofs.ZipLemmas.{changed_more}
use Rattle.hp_world.proofs.part_index.follow_each.Goals as goal

pub loop-number-preserved : goal.loop-number-preserved
loop-number-preserved c =
    changed_more (Steps c.args.step.now) c.args.indexes.now c.loop-number.indexes c.loop-number.number
    c.index-indexes-number.result c.follow.new.self (omega arith) c.follow.ensures
    c.loop-number.invariant
