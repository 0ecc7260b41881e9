use Rattle.std.proofs.Common.{Some, ap, ◌∙◌}
use Rattle.hp_derivation.proofs.ChainLemmas.{first_reads}
use Rattle.hp_derivation.proofs.chain.Chain.put_first.Goals as goal

pub returns-clause-reads : goal.returns-clause-reads
returns-clause-reads c = λ xs h.
    first_reads c.args.self.now _ xs c.in_ok-push.ensures.items
    (ap Some (c.len-number.ensures ∙ c.args.self.now.links.ok.0)) h
