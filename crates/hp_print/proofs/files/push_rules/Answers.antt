use Rattle.std.proofs.Common.{◌++◌, codes, map, refl, ap, ◌∙◌, append_assoc}
use Rattle.hp_syntax.specs.Views.{rule_of}
use Rattle.hp_syntax.specs.Written as written
use Rattle.hp_syntax.specs.Written.{lines, node_text}
use Rattle.hp_syntax.proofs.ListLemmas.{made_on}
use Rattle.hp_print.proofs.files.push_rules.Goals as goal

pub loop-rule-preserved : goal.loop-rule-preserved
loop-rule-preserved c =
    let line = node_text (written.rule (rule_of c.rule-item.result)) in
    made_on (λ rs. lines (written.rules (map rule_of rs))) (λ r. node_text (written.rule (rule_of r)) ++ codes "\n")
    c.args.rules.now c.loop-rule.rule-index c.rule-item.result c.loop-rule.text.items _ _ (λ r rs. refl)
    c.loop-rule-test.true c.rule-item.is c.loop-rule.invariant
    (c.in_ok-push.ensures.items
    ∙ (ap (λ t. t ++ codes "\n") c.in_ok-push_rule.ensures ∙ append_assoc c.loop-rule.text.items line (codes "\n")))
