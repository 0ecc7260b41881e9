use Rattle.std.proofs.Common.{refl}
use Rattle.hp_derivation.proofs.ChainLemmas.{apart_reads}
use Rattle.hp_derivation.proofs.chain.Chain.put_apart.Goals as goal

pub returns-clause-reads : goal.returns-clause-reads
returns-clause-reads c = λ xs h. apart_reads c.args.self.now _ xs c.in_ok-push.ensures.items refl h
