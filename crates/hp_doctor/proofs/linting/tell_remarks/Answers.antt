use Rattle.std.proofs.Common.{length, map}
use Rattle.std.specs.List.{flat_map}
use Rattle.hp_doctor.specs.Linted.{count_line, remark_text}
use Rattle.hp_doctor.specs.Texts.{texts_of}
use Rattle.hp_lint.specs.LintViews.{remark_of}
use Rattle.hp_doctor.proofs.RemarkSteps.{err_behind, ok_behind}
use Rattle.hp_doctor.proofs.linting.tell_remarks.Goals as goal

-- a stop of the last line is one behind the remarks
pub returns-in-Ok-clause-err : goal.returns-in-Ok-clause-err
returns-in-Ok-clause-err g c =
    let remarks = map remark_of c.args.remarks.now in
    err_behind c.tell_count.result (flat_map (remark_text (texts_of c.args.files.now)) remarks)
    (count_line (length remarks)) (g.K.Sink.faults c.args.out.now) (g.K.Sink.faults c.tell_each.new.out)
    (g.K.Sink.faults c.tell_count.new.out) (g.K.Sink.bytes c.args.out.now) (g.K.Sink.bytes c.tell_each.new.out)
    (g.K.Sink.bytes c.tell_count.new.out) c.in-Ok.ensures.ok c.tell_each.ensures.later c.tell_count.ensures.err

-- behind the remarks the last line is written
pub returns-in-Ok-clause-ok : goal.returns-in-Ok-clause-ok
returns-in-Ok-clause-ok g c =
    let remarks = map remark_of c.args.remarks.now in
    ok_behind c.tell_count.result (flat_map (remark_text (texts_of c.args.files.now)) remarks)
    (count_line (length remarks)) (g.K.Sink.faults c.args.out.now) (g.K.Sink.faults c.tell_each.new.out)
    (g.K.Sink.faults c.tell_count.new.out) (g.K.Sink.bytes c.args.out.now) (g.K.Sink.bytes c.tell_each.new.out)
    (g.K.Sink.bytes c.tell_count.new.out) c.in-Ok.ensures.ok c.tell_count.ensures.ok
