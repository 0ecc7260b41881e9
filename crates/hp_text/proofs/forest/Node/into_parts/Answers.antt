use Rattle.hp_text.proofs.forest.Node.into_parts.Goals as goal

pub returns : goal.returns
returns c = c.into_parts.ensures c.args.self.span
