use Rattle.std.proofs.Common.{◌<◌, ◌-◌, map, ◌∙◌, arith}
use Rattle.hp_syntax.specs.Views.{pair_of}
use Rattle.hp_doctor_tree.proofs.DeedSteps.{item_at}
use Rattle.hp_doctor_tree.proofs.TreeSteps.{pair_known}
use Rattle.hp_doctor_tree.proofs.trees.pair_at.Goals as goal

pub returns : goal.returns
returns c =
    let some : 0 < c.args.number = omega arith in
    item_at pair_of c.args.pairs.now (c.args.number - 1) c.get.result c.get.ensures.lookup
    ∙ pair_known c.args.number (map pair_of c.args.pairs.now) some
