use Rattle.std.proofs.Common.{◌++◌, codes}
use Rattle.hp_out.specs.Writing.{sink_run}
use Rattle.hp_syntax.specs.Notes.{notes}
use Rattle.hp_syntax.specs.Views.{domain_of, problem_of}
use Rattle.hp_top.specs.CheckTexts.{count_lines, notes_text}
use Rattle.hp_telling.proofs.TellingLemmas.{err_after, halts_longer}
use Rattle.hp_top.proofs.checking.tell_accepted.Goals as goal

-- a stop of the notes is one behind the lines of counts
pub returns-in-Ok-write-clause-err : goal.returns-in-Ok-write-clause-err
returns-in-Ok-write-clause-err g c =
    let d = domain_of c.args.domain.now in
    let p = problem_of c.args.problem.now in
    err_after c.tell_notes.result (count_lines d p) (notes_text (notes d p) ++ codes "accepted\n")
    (g.K.Sink.faults c.args.out.now) (g.K.Sink.faults c.write.new.out) (g.K.Sink.faults c.tell_notes.new.out)
    (g.K.Sink.bytes c.args.out.now) (g.K.Sink.bytes c.write.new.out) (g.K.Sink.bytes c.tell_notes.new.out)
    (rw (c.as_slice.ensures.value, c.in-Ok.ensures) at c.in-Ok-write.ensures.ok) c.write.ensures.later
    (rw c.requires at c.tell_notes.ensures.err)

-- a stop of the lines of counts is one of the text
pub returns-clause-err : goal.returns-clause-err
returns-clause-err g c =
    let d = domain_of c.args.domain.now in
    let p = problem_of c.args.problem.now in
    halts_longer c.in-Err.halt (count_lines d p) (notes_text (notes d p) ++ codes "accepted\n")
    (sink_run (g.K.Sink.faults c.args.out.now) (g.K.Sink.faults c.write.new.out) (g.K.Sink.bytes c.args.out.now)
    (g.K.Sink.bytes c.write.new.out))
    (rw (c.as_slice.ensures.value, c.in-Ok.ensures) at c.in-Err.ensures.err)
