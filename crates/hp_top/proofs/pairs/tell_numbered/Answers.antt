use Rattle.hp_out.specs.Writing.{sink_run}
use Rattle.hp_syntax.specs.Report.{pair_header}
use Rattle.hp_telling.proofs.TellingLemmas.{halts_longer, told_behind}
use Rattle.hp_top.proofs.pairs.tell_numbered.Goals as goal

-- what is told of the pair is told behind its line
pub returns-in-Ok-clause-told : goal.returns-in-Ok-clause-told
returns-in-Ok-clause-told g c = λ rules by.
    told_behind (pair_header c.args.number c.args.count) _ c.tell_pair.result (g.K.Sink.faults c.args.out.now)
    (g.K.Sink.faults c.write_header.new.out) (g.K.Sink.faults c.tell_pair.new.out) (g.K.Sink.bytes c.args.out.now)
    (g.K.Sink.bytes c.write_header.new.out) (g.K.Sink.bytes c.tell_pair.new.out) c.write_header.ensures.later
    c.in-Ok.ensures.written (c.tell_pair.ensures.told rules by)

-- a stop of the line is one of all that is told of the pair
pub returns-in-Err-clause-told : goal.returns-in-Err-clause-told
returns-in-Err-clause-told g c = λ rules by.
    halts_longer c.in-Err.halt (pair_header c.args.number c.args.count) _
    (sink_run (g.K.Sink.faults c.args.out.now) (g.K.Sink.faults c.write_header.new.out)
    (g.K.Sink.bytes c.args.out.now) (g.K.Sink.bytes c.write_header.new.out))
    c.in-Err.ensures.err
