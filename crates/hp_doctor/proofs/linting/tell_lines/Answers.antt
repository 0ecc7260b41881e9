use Rattle.std.proofs.Common.{[]}
use Rattle.hp_doctor.specs.Explained.{left, told}
use Rattle.hp_doctor.specs.Texts.{texts_of}
use Rattle.hp_doctor.proofs.RemarkSteps.{err_behind}
use Rattle.hp_doctor.proofs.linting.tell_lines.Goals as goal

-- a stop of what stands behind the lines is one behind them
pub returns-in-Ok-clause-err : goal.returns-in-Ok-clause-err
returns-in-Ok-clause-err g c =
    let files = texts_of c.args.files.now in
    let text = c.args.text.now in
    err_behind c.write.result (told files [] text) (left [] text) (g.K.Sink.faults c.args.out.now)
    (g.K.Sink.faults c.tell_piece.new.out) (g.K.Sink.faults c.write.new.out) (g.K.Sink.bytes c.args.out.now)
    (g.K.Sink.bytes c.tell_piece.new.out) (g.K.Sink.bytes c.write.new.out)
    (rw c.requires at c.in-Ok.ensures.ok) c.tell_piece.ensures.later
    (rw (c.as_slice.ensures.value, c.in-Ok.ensures.line, c.requires) at c.write.ensures.err)
