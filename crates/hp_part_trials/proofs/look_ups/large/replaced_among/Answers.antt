use Rattle.hp_part_trials.proofs.look_ups.large.replaced_among.Goals as goal

pub add_each-requires-clause-knows : goal.add_each-requires-clause-knows
add_each-requires-clause-knows c = c.in_ok-world.ensures.knows c.args.cells.now
