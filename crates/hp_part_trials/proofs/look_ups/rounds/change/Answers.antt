use Rattle.hp_part_trials.proofs.look_ups.rounds.change.Goals as goal

pub returns-in_err-apply_in : goal.returns-in_err-apply_in
returns-in_err-apply_in c = c.apply_in.ensures.knows c.requires

pub returns-in_ok-apply_in : goal.returns-in_ok-apply_in
returns-in_ok-apply_in c = c.apply_in.ensures.knows c.requires
