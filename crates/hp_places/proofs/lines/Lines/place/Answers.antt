use Rattle.hp_places.proofs.lines.Lines.place.Goals as goal

pub returns-clause-line : goal.returns-clause-line
returns-clause-line c = c.index-index.ensures.line
