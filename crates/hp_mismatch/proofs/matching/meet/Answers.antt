use Rattle.std.proofs.Common.{refl, arith}
use Rattle.hp_mismatch.specs.ValueViews.{value_of}
use Rattle.hp_mismatch.proofs.ValueSteps.{meets_new}
use Rattle.hp_mismatch.proofs.matching.meet.Goals as goal

pub returns-in-None : goal.returns-in-None
returns-in-None c =
    meets_new c.args.values.now.items c.args.v (value_of c.args.found) c.index.result.now (omega arith) c.index.ensures
    c.args.found c.in-None.is refl
