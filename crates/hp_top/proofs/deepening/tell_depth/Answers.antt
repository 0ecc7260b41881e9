use Rattle.std.proofs.Common.{suc}
use Rattle.hp_out.specs.Lines.{depth_text}
use Rattle.hp_out.specs.Writing.{sink_run}
use Rattle.hp_shallow.specs.LeastDepth.{expansions_below}
use Rattle.hp_top.specs.ShallowReports.{first_report}
use Rattle.hp_telling.proofs.TellingLemmas.{halts_longer, told_behind}
use Rattle.hp_top.proofs.deepening.tell_depth.Goals as goal

-- what was found is told behind the depth that decides
pub returns-in-Ok-clause-told : goal.returns-in-Ok-clause-told
returns-in-Ok-clause-told g c = λ at limit is stands.
    let l = c.args.least.now in
    told_behind (depth_text l.depth) (first_report c.args.states (expansions_below at (suc l.depth)) (at l.depth))
    c.tell_found.result (g.K.Sink.faults c.args.out.now) (g.K.Sink.faults c.write_depth.new.out)
    (g.K.Sink.faults c.tell_found.new.out) (g.K.Sink.bytes c.args.out.now) (g.K.Sink.bytes c.write_depth.new.out)
    (g.K.Sink.bytes c.tell_found.new.out) c.write_depth.ensures.later c.in-Ok.ensures.written
    (c.tell_found.ensures.told at limit is stands)

-- a stop of the depth is one of all
pub returns-in-Err-clause-told : goal.returns-in-Err-clause-told
returns-in-Err-clause-told g c = λ at limit is stands.
    let l = c.args.least.now in
    halts_longer c.in-Err.halt (depth_text l.depth)
    (first_report c.args.states (expansions_below at (suc l.depth)) (at l.depth)).0
    (sink_run (g.K.Sink.faults c.args.out.now) (g.K.Sink.faults c.write_depth.new.out) (g.K.Sink.bytes c.args.out.now)
    (g.K.Sink.bytes c.write_depth.new.out))
    c.in-Err.ensures.err
