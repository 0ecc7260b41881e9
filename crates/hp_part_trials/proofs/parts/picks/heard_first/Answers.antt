use Rattle.std.proofs.Common.{rules}
use Rattle.hp_part_trials.proofs.parts.picks.heard_first.Goals as goal

pub first_five-requires-clause-slots : goal.first_five-requires-clause-slots
first_five-requires-clause-slots c = c.new-sats.ensures.fits c.args.slots.now (search rules)
