use Rattle.hp_syntax.specs.Notes.{served_by}
use Rattle.hp_syntax.specs.Views.{rule_of}
use Rattle.hp_check.proofs.NameLemmas.{names_more, names_all}
use Rattle.hp_check.proofs.survey.served.Goals as goal

pub loop-rule-preserved : goal.loop-rule-preserved
loop-rule-preserved c =
    names_more served_by rule_of c.args.rules.now c.loop-rule.rule-index c.loop-rule.names.keys c.loop-rule.invariant
    c.rule-item.result c.add_served.new.names.keys c.loop-rule-test.true c.rule-item.is c.in_ok-add_served.ensures

pub returns : goal.returns
returns c =
    names_all served_by rule_of c.args.rules.now c.loop-rule.rule-index c.loop-rule.names.keys c.loop-rule.invariant
    c.loop-rule-test.false
