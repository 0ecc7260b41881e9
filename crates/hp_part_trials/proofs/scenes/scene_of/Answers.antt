use Rattle.hp_part_trials.proofs.scenes.scene_of.Goals as goal

pub add_each-requires-clause-knows : goal.add_each-requires-clause-knows
add_each-requires-clause-knows c = c.in_ok-world.ensures.knows c.atoms_of.new.cells
