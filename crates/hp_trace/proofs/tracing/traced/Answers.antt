use Rattle.std.proofs.Common.{length, ap, arith}
use Rattle.hp_passes.specs.Passing.{sight_of}
use Rattle.hp_search.specs.Planned.{stands_planned, tree_planned}
use Rattle.hp_syntax.specs.Views.{domain_of}
use Rattle.hp_trace.proofs.StuckSteps.{traced_by}
use Rattle.hp_trace.proofs.TraceSteps.{told_long}
use Rattle.hp_trace.proofs.tracing.traced.Goals as goal

pub returns-clause-traces : goal.returns-clause-traces
returns-clause-traces c = λ v ws h.
    let q = (stands_planned c.args.planner.now).path in
    let long = told_long q in
    let told = ap length c.path.ensures in
    traced_by (domain_of c.args.domain.now).rules (tree_planned c.args.planner.now) c.args.from.now v ws
    (sight_of c.args.sight) (stands_planned c.args.planner.now) _ _ _ c.args.depth h c.requires.depth
    (omega (arith, told, long)) c.in_ok-seen.ensures (c.in_ok-stuck.ensures.goes v ws h)
