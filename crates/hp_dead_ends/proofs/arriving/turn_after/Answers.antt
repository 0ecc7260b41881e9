use Rattle.hp_dead_ends.proofs.ArrivingSteps.{turns_last, turns_on, turns_past}
use Rattle.hp_dead_ends.proofs.arriving.turn_after.Goals as goal

pub returns-then-not-starts_with : goal.returns-then-not-starts_with
returns-then-not-starts_with c = λ q as_told small.
    turns_past c.args.target.now q c.args.path.now as_told small c.starts_with.result c.starts_with.ensures.value
    c.if-not-starts_with.true

pub returns-then-path-target : goal.returns-then-path-target
returns-then-path-target c = λ q as_told small.
    turns_last c.args.target.now q c.args.path.now as_told small c.starts_with.result c.starts_with.ensures.value
    c.if-not-starts_with.false c.if-path-target.true

pub returns-else-path-target : goal.returns-else-path-target
returns-else-path-target c = λ q as_told small.
    turns_on c.args.target.now q c.args.path.now as_told small c.starts_with.result c.starts_with.ensures.value
    c.if-not-starts_with.false c.if-path-target.false
