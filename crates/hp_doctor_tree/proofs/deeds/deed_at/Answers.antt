use Rattle.hp_way.specs.Ways.{deed_of}
use Rattle.hp_doctor_tree.proofs.DeedSteps.{item_at}
use Rattle.hp_doctor_tree.proofs.deeds.deed_at.Goals as goal

pub returns : goal.returns
returns c = item_at deed_of c.args.deeds.now c.args.number c.get.result c.get.ensures.lookup
