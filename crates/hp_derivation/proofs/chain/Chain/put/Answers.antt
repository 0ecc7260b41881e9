use Rattle.std.proofs.Common.{length, sym, subst, arith}
use Rattle.std.proofs.lemmas.Result.{on_ok_weaker}
use Rattle.hp_derivation.specs.Chains.{Reads}
use Rattle.hp_derivation.specs.Orders.{put_in}
use Rattle.hp_derivation.proofs.ChainLemmas.{apart_in}
use Rattle.hp_derivation.proofs.chain.Chain.put.Goals as goal

pub returns-else-other-len-clause-reads : goal.returns-else-other-len-clause-reads
returns-else-other-len-clause-reads c =
    let n = length c.args.self.now.links.items in
    let beyond = c.if-other-len.false in
    on_ok_weaker c.put_apart.result
    (λ f xs h.
    subst (λ b. Reads c.put_apart.new.self (put_in b n xs)) (sym c.in-Some.is)
    (apart_in c.args.self.now c.put_apart.new.self c.in-Some.other xs
    (omega (arith, beyond, c.len.ensures, c.args.self.now.links.ok.0)) h (f xs h)))
    c.put_apart.ensures.reads
