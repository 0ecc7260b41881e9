use Rattle.std.proofs.Common.{ap, sym}
use Rattle.hp_effect.specs.Costs.{number_in}
use Rattle.hp_effect.proofs.CostLemmas.{no_number}
use Rattle.hp_effect.proofs.costs.number.Goals as goal

pub returns-in-Nil : goal.returns-in-Nil
returns-in-Nil c = λ t h. sym (ap number_in (c.in-Nil.ensures.shows t h))

pub returns-in-Cons : goal.returns-in-Cons
returns-in-Cons c =
    λ t h. no_number c.args.cells.now c.in-Cons.field-0 c.in-Cons.field-1 t (c.in-Cons.ensures.shows t h)
