use Rattle.hp_effect.proofs.changes.Changes.put.Goals as goal

pub returns-clause-puts : goal.returns-clause-puts
returns-clause-puts c =
    let gives = c.in_ok-cell.ensures.gives in
    (c.in_ok-cell.cell, gives.0, gives.1, gives.2, c.in_ok-push.ensures)
