use Rattle.std.proofs.Common.{length, ap, ◌∙◌}
use Rattle.hp_code.proofs.CodeLemmas.{length-rule_nodes}
use Rattle.hp_code.proofs.lowering.Lowering.len.Goals as goal

pub returns : goal.returns
returns c = λ rules h. c.len.ensures ∙ c.args.self.now.rules.ok.0 ∙ ap length h.places ∙ length-rule_nodes 0 rules
