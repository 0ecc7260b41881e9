use Rattle.std.proofs.Common.{Some, None}
use Rattle.hp_syntax.specs.Views.{domain_of}
use Rattle.hp_way.specs.Ways.{deed_of}
use Rattle.hp_derivation.proofs.GoingSteps.{number_met, taken_none}
use Rattle.hp_derivation.proofs.going.Going.taken.Goals as goal

pub returns-in-Some-clause-finds : goal.returns-in-Some-clause-finds
returns-in-Some-clause-finds c = λ s p st at.
    let g = c.args.self.now in
    c.numbered.ensures.finds s p st at
    (number_met g s p c.task.result (Some c.in-Some.number) st (c.task.ensures.task g.cells p at) c.in-Some.ensures)

pub returns-in-None-clause-finds : goal.returns-in-None-clause-finds
returns-in-None-clause-finds c = λ s p st at.
    let g = c.args.self.now in
    taken_none (domain_of c.args.domain.now).rules (deed_of c.args.deed.now) s p
    (number_met g s p c.task.result None st (c.task.ensures.task g.cells p at) c.in-None.ensures)
