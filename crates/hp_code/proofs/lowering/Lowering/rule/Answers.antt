use Rattle.std.proofs.Common.{◌∙◌}
use Rattle.hp_syntax.specs.Views.{rule_of}
use Rattle.hp_code.proofs.LoweringSteps.{put_behind}
use Rattle.hp_code.proofs.lowering.Lowering.rule.Goals as goal

pub returns : goal.returns
returns c =
    let next = c.len-node.ensures ∙ c.args.self.now.nodes.ok.0 in
    put_behind (rule_of c.args.rule.now) c.args.self.now c.begin.new.self c.len-node.result c.names_of.result.now
    c.lay_rule.new.nodes c.add_rule.new.self c.add_rule-2.new.self next c.names_of.ensures
    c.in_ok-begin.ensures c.in_ok-add_rule.ensures c.in_ok-add_rule-2.ensures c.lay_rule.result c.lay_rule.ensures
