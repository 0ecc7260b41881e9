use Rattle.std.proofs.Common.{◌≡◌, ◌++◌, drop, map}
use Rattle.hp_syntax.specs.Views.{rule_of}
use Rattle.hp_syntax.specs.Written as written
use Rattle.hp_syntax.specs.Written.{lines}
use Rattle.hp_print.proofs.files.push_rules.Given as goal

abbrev pub invariant-loop-rule : goal.invariant-loop-rule
invariant-loop-rule l =
    l.text.items ++ lines (written.rules (map rule_of (drop l.rule-index l.rules)))
    ≡ l.fn.text.items ++ lines (written.rules (map rule_of l.rules))
