use Rattle.std.proofs.Common.{false}
use Rattle.hp_net.specs.Standings.{node_reached}
use Rattle.hp_out.specs.Writing.{sink_run}
use Rattle.hp_syntax.specs.declared.status.Status.TheVariants as status
use Rattle.hp_syntax.specs.Report.{Answer, Stopped, ending_text, shown, told_plan}
use Rattle.hp_telling.proofs.TellingLemmas.{told_behind, told_by_parts}
use Rattle.hp_top.proofs.ShallowSteps.{reached_weaker}
use Rattle.hp_top.proofs.deepening.tell_first.Goals as goal

-- the ending line is told behind the plan
pub returns-in-Ok-clause-told : goal.returns-in-Ok-clause-told
returns-in-Ok-clause-told g c =
    let at = g.W.Walk.stands c.args.walk.now in
    let run =
    sink_run (g.K.Sink.faults c.write_plan.new.out) (g.K.Sink.faults c.close.new.out)
    (g.K.Sink.bytes c.write_plan.new.out) (g.K.Sink.bytes c.close.new.out) in
    let ending : Answer = (ending_text Stopped 1 c.args.expansions, status.Done) in
    reached_weaker (node_reached (g.W.Walk.tree c.args.walk.now) at) _ _ c.in-Ok.ensures.written
    (λ n w. told_behind (told_plan (shown c.args.states false) 1 at.path n) ending c.close.result
    (g.K.Sink.faults c.args.out.now) (g.K.Sink.faults c.write_plan.new.out) (g.K.Sink.faults c.close.new.out)
    (g.K.Sink.bytes c.args.out.now) (g.K.Sink.bytes c.write_plan.new.out) (g.K.Sink.bytes c.close.new.out)
    c.write_plan.ensures.later w
    (told_by_parts ending c.close.result run c.close.ensures.written c.close.ensures.status c.close.ensures.err))
