use Rattle.std.proofs.Common.{ap}
use Rattle.hp_net.specs.Standings.{Tree}
use Rattle.hp_syntax.specs.Walk.{root}
use Rattle.hp_trace.proofs.TraceSteps.{all_small}
use Rattle.hp_trace.proofs.tracing.trace.Goals as goal

pub trace_by-requires-clause-depth : goal.trace_by-requires-clause-depth
unfolding root
trace_by-requires-clause-depth c = ap (λ (t : Tree). t.root.depth) c.in_ok-planner.ensures.tree

pub trace_by-requires-clause-small : goal.trace_by-requires-clause-small
trace_by-requires-clause-small c = all_small c.args.from.now c.requires.small
