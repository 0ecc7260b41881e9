use Rattle.std.proofs.Common.{◌≤◌, take, map}
use Rattle.std.specs.List.{flat_map}
use Rattle.hp_doctor.specs.Linted.{remark_text}
use Rattle.hp_doctor.specs.Texts.{texts_of}
use Rattle.hp_lint.specs.LintViews.{remark_of}
use Rattle.hp_out.specs.Writing.{Wrote}
use Rattle.hp_doctor.proofs.linting.tell_each.Given as goal

abbrev pub invariant-loop-remark : goal.invariant-loop-remark
invariant-loop-remark g l = record {
  wrote :
      Wrote (flat_map (remark_text (texts_of l.fn.files)) (map remark_of (take l.remark-index l.remarks)))
      (g.K.Sink.bytes l.fn.out) (g.K.Sink.bytes l.out);
  later : g.K.Sink.faults l.fn.out ≤ g.K.Sink.faults l.out;
}
