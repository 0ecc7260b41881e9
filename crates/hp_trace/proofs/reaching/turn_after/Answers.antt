use Rattle.hp_trace.proofs.TraceSteps.{turns_on, turns_past}
use Rattle.hp_trace.proofs.reaching.turn_after.Goals as goal

pub returns-then-starts_with : goal.returns-then-starts_with
returns-then-starts_with c = λ q told_so small apart.
    turns_on c.args.from.now c.args.path.now c.starts_with.result c.starts_with.ensures.value c.if-starts_with.true q
    told_so small apart

pub returns-else-starts_with : goal.returns-else-starts_with
returns-else-starts_with c = λ q told_so small apart.
    turns_past c.args.from.now c.args.path.now c.starts_with.result c.starts_with.ensures.value c.if-starts_with.false q
    told_so small apart
