use Rattle.std.proofs.Common.{◌≡◌, take, map}
use Rattle.std.specs.List.{count_by}
use Rattle.hp_syntax.specs.Views.{rule_of}
use Rattle.hp_top.specs.CheckTexts.{is_operator, is_method, is_axiom}
use Rattle.hp_top.proofs.checking.count_rules.Given as goal

abbrev pub invariant-loop-rule : goal.invariant-loop-rule
invariant-loop-rule l = record {
  operators : l.counts.operators ≡ count_by is_operator (map rule_of (take l.rule-index l.rules));
  methods : l.counts.methods ≡ count_by is_method (map rule_of (take l.rule-index l.rules));
  axioms : l.counts.axioms ≡ count_by is_axiom (map rule_of (take l.rule-index l.rules));
}
