use Rattle.std.proofs.Common.{map, ap, sym, ◌∙◌}
use Rattle.std.proofs.lemmas.List.{take_all, take-map}
use Rattle.hp_syntax.specs.GroundViews.{ground_of}
use Rattle.hp_doctor_why.proofs.cuts.first_tasks.Goals as goal

pub returns-then-tasks-le-TASKS_SHOWN : goal.returns-then-tasks-le-TASKS_SHOWN
returns-then-tasks-le-TASKS_SHOWN c =
    ap (map ground_of) (sym (take_all 5 c.args.tasks.now c.if-tasks-le-TASKS_SHOWN.true))
    ∙ sym (take-map ground_of 5 c.args.tasks.now)

pub returns : goal.returns
returns c = sym (take-map ground_of 5 c.args.tasks.now)
