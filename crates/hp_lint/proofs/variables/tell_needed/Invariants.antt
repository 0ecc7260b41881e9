use Rattle.std.proofs.Common.{◌≡◌, ◌++◌, drop, map}
use Rattle.std.specs.List.{flat_map}
use Rattle.hp_lint.specs.Variables.{on_needed}
use Rattle.hp_lint.specs.LintViews.{either_seen, remark_of}
use Rattle.hp_lint.proofs.variables.tell_needed.Given as goal

abbrev pub invariant-loop-part : goal.invariant-loop-part
invariant-loop-part l =
    map remark_of l.report.list.items ++ flat_map (on_needed l.bound.names.now (either_seen l.bound.around.now l.bound.own.now)) (drop l.part-index l.needed)
    ≡ map remark_of l.fn.report.list.items ++ flat_map (on_needed l.bound.names.now (either_seen l.bound.around.now l.bound.own.now)) l.needed
