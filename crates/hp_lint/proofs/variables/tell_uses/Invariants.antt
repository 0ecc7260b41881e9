use Rattle.std.proofs.Common.{◌≡◌, ◌++◌, drop, map}
use Rattle.std.specs.List.{flat_map}
use Rattle.hp_lint.specs.Variables.{on_use}
use Rattle.hp_lint.specs.LintViews.{is_seen_once, remark_of}
use Rattle.hp_lint.proofs.variables.tell_uses.Given as goal

abbrev pub invariant-loop-part : goal.invariant-loop-part
invariant-loop-part l =
    map remark_of l.report.list.items ++ flat_map (on_use l.names (is_seen_once l.counts)) (drop l.part-index l.found)
    ≡ map remark_of l.fn.report.list.items ++ flat_map (on_use l.names (is_seen_once l.counts)) l.found
