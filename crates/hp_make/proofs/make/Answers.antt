use Rattle.hp_make.proofs.make.Goals as goal

pub returns-clause-domain : goal.returns-clause-domain
returns-clause-domain c = c.in_ok-domain.ensures.items
