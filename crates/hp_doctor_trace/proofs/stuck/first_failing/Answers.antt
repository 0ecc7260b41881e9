use Rattle.std.proofs.Common.{map, ap, sym, ◌∙◌}
use Rattle.std.proofs.lemmas.List.{take_all, take-map}
use Rattle.hp_doctor_trace.specs.Failing.{failing_of}
use Rattle.hp_doctor_trace.proofs.stuck.first_failing.Goals as goal

pub returns-then-failing-le-LINES_SHOWN : goal.returns-then-failing-le-LINES_SHOWN
returns-then-failing-le-LINES_SHOWN c =
    ap (map failing_of) (sym (take_all 5 c.args.failing.now c.if-failing-le-LINES_SHOWN.true))
    ∙ sym (take-map failing_of 5 c.args.failing.now)

pub returns : goal.returns
returns c = sym (take-map failing_of 5 c.args.failing.now)
