use Rattle.std.proofs.Common.{◌≡◌, ◌++◌, drop, map}
use Rattle.std.specs.List.{flat_map}
use Rattle.hp_syntax.specs.Views.{rule_of}
use Rattle.hp_lint.specs.Serving.{on_operator}
use Rattle.hp_lint.specs.LintViews.{accepts_atom, remark_of}
use Rattle.hp_lint.proofs.serving.tell_operators.Given as goal

abbrev pub invariant-loop-rule : goal.invariant-loop-rule
invariant-loop-rule l =
    map remark_of l.report.list.items ++ flat_map (on_operator (accepts_atom l.tasks)) (map rule_of (drop l.rule-index l.rules))
    ≡ map remark_of l.fn.report.list.items ++ flat_map (on_operator (accepts_atom l.tasks)) (map rule_of l.rules)
