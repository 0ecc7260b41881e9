use Rattle.std.proofs.Common.{◌∙◌}
use Rattle.hp_derivation.proofs.chain.Chain.len.Goals as goal

pub returns : goal.returns
returns c = c.len.ensures ∙ c.args.self.now.links.ok.0
