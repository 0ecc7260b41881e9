use Rattle.hp_part_trials.proofs.SceneLemmas.{ready_within}
use Rattle.hp_part_trials.proofs.look_ups.satisfiers.listed.Goals as goal

pub returns-in-len1-up : goal.returns-in-len1-up
returns-in-len1-up c =
    ready_within c.args.scene.now c.args.cells.now c.events.new.cells c.args.slots.now c.requires.knows c.requires.world
    c.requires.slots c.events.ensures.cells
