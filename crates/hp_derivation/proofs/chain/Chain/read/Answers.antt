use Rattle.std.proofs.Common.{subst}
use Rattle.hp_derivation.specs.Chains.{IsMidway}
use Rattle.hp_derivation.proofs.ChainLemmas.{midway_end, midway_more}
use Rattle.hp_derivation.proofs.chain.Chain.read.Goals as goal

pub returns-in-None : goal.returns-in-None
returns-in-None c = λ i xs left m.
    let listed = c.args.order.now.items in
    midway_end c.args.self.now i xs listed left
    (subst (λ a. IsMidway c.args.self.now i listed a xs) c.in-None.is m)

pub returns-in_ok-push-in-Some : goal.returns-in_ok-push-in-Some
returns-in_ok-push-in-Some c = λ i xs left m.
    let listed = c.args.order.now.items in
    midway_more c.args.self.now i xs listed left c.in-Some.number c.next_of.result _
    c.in_ok-push-in-Some.ensures.items c.next_of.ensures
    (subst (λ a. IsMidway c.args.self.now i listed a xs) c.in-Some.is m)
