use Rattle.std.proofs.Common.{suc}
use Rattle.hp_out.specs.Writing.{sink_run}
use Rattle.hp_search.specs.Planned.{stands_planned, tree_planned}
use Rattle.hp_shallow.specs.LeastDepth.{expansions_below}
use Rattle.hp_syntax.specs.Report.{Answer}
use Rattle.hp_telling.specs.Telling.{IsTold}
use Rattle.hp_top.proofs.ShallowSteps.{plan_told}
use Rattle.hp_top.proofs.deepening.tell_found.Goals as goal

pub returns-in-Plan-clause-told : goal.returns-in-Plan-clause-told
returns-in-Plan-clause-told g c = λ at limit is stands.
    let l = c.args.least.now in
    plan_told c.args.states (expansions_below at (suc l.depth)) l.expansions (at l.depth) (tree_planned l.walk)
    (stands_planned l.walk)
    (λ (a : Answer). IsTold a c.tell_first.result
    (sink_run (g.K.Sink.faults c.args.out.now) (g.K.Sink.faults c.tell_first.new.out) (g.K.Sink.bytes c.args.out.now)
    (g.K.Sink.bytes c.tell_first.new.out)))
    is.expansions (stands c.in-Plan.is) c.tell_first.ensures.told
