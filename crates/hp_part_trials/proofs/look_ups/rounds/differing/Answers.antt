use Rattle.hp_part_trials.proofs.look_ups.rounds.differing.Goals as goal

pub agrees-requires : goal.agrees-requires
agrees-requires c = c.change_or_undo.ensures
