use Rattle.std.proofs.Common.{subst}
use Rattle.hp_out.specs.Endings.{ending_of}
use Rattle.hp_out.specs.Writing.{sink_run}
use Rattle.hp_shallow.specs.LeastDepth.{first_end}
use Rattle.hp_syntax.specs.Report.{Answer, ending_text, status_of}
use Rattle.hp_telling.specs.Telling.{IsTold}
use Rattle.hp_telling.proofs.TellingLemmas.{told_by_parts}
use Rattle.hp_top.proofs.ShallowSteps.{ending_is, no_stop, none_told}
use Rattle.hp_top.proofs.deepening.tell_none.Goals as goal

pub returns-clause-told : goal.returns-clause-told
returns-clause-told g c = λ states n vs counted is.
    let x = ending_of c.ending_of.result in
    let run =
    sink_run (g.K.Sink.faults c.args.out.now) (g.K.Sink.faults c.close.new.out) (g.K.Sink.bytes c.args.out.now)
    (g.K.Sink.bytes c.close.new.out) in
    subst (λ (a : Answer). IsTold a c.close.result run)
    (none_told states n c.args.expansions vs x counted
    (ending_is x (first_end vs).ending c.args.end c.ending_of.ensures is)
    (no_stop x c.args.end c.ending_of.ensures c.requires))
    (told_by_parts (ending_text x 0 c.args.expansions, status_of x 0) c.close.result run c.close.ensures.written
    c.close.ensures.status c.close.ensures.err)
