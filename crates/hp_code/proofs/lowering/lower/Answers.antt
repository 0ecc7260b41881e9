use Rattle.std.proofs.Common.{map}
use Rattle.std.proofs.lemmas.Result.{IfOk-weaker}
use Rattle.hp_syntax.specs.Checks.{domain_faults}
use Rattle.hp_syntax.specs.Views.{rule_of}
use Rattle.hp_code.proofs.LoweringSteps.{next_held, whole_held}
use Rattle.hp_code.proofs.lowering.lower.Goals as goal

pub loop-rule-preserved : goal.loop-rule-preserved
loop-rule-preserved c =
    let same = c.deref-rule-items.ensures.value in
    next_held c.args.domain.now.rules.items c.loop-rule.rule-index c.rule-item.result c.loop-rule.lowering
    c.rule.new.self (rw same at c.loop-rule-test.true) (rw same at c.rule-item.is) c.in_ok-rule.ensures
    c.loop-rule.invariant

pub code-requires : goal.code-requires
unfolding domain_faults
code-requires c = record {
  rules = map rule_of c.args.domain.now.rules.items;
  holds =
      whole_held c.args.domain.now.rules.items c.loop-rule.rule-index c.loop-rule.lowering
      (rw c.deref-rule-items.ensures.value at c.loop-rule-test.false) c.loop-rule.invariant;
  numbered = c.requires.numbered;
  checked = c.requires.checked;
}

pub returns : goal.returns
returns c =
    let rules = c.args.domain.now.rules.items in
    let held = whole_held rules c.loop-rule.rule-index c.loop-rule.lowering
    (rw c.deref-rule-items.ensures.value at c.loop-rule-test.false) c.loop-rule.invariant in
    IfOk-weaker c.code.result _ _ (λ code is. is (map rule_of rules) held) c.code.ensures
