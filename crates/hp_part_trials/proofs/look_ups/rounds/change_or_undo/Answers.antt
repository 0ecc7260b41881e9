use Rattle.hp_part_trials.proofs.look_ups.rounds.change_or_undo.Goals as goal

pub returns-then-round-eq3 : goal.returns-then-round-eq3
returns-then-round-eq3 c = c.undo.ensures c.args.cells.now c.requires

pub returns-else-round-eq3 : goal.returns-else-round-eq3
returns-else-round-eq3 c = c.change.ensures
