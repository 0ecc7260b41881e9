use Rattle.hp_part_trials.proofs.look_ups.show_differing.Goals as goal

pub differing-differ-requires : goal.differing-differ-requires
differing-differ-requires c = c.in_ok-world.ensures.knows c.args.cells.now
