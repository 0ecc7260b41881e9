use Rattle.hp_best.specs.Bounded.{is_priced}
use Rattle.hp_syntax.specs.Walk.{root}
use Rattle.hp_top.specs.Outcome.{pair_visits}
use Rattle.hp_telling.proofs.CheapestLemmas.{tells_the_cheapest}
use Rattle.hp_top.proofs.laws.cheapest_plans_are_told.Goals as goal

pub returns : goal.returns
returns c = λ rules nest depth pair faultless.
    let vs = pair_visits rules nest depth pair in
    tells_the_cheapest (is_priced rules) vs
    (c.bounded_walks_choose_the_cheapest.ensures.same (is_priced rules) vs
    (λ priced. c.priced_costs_never_fall.ensures.visits rules nest (root pair depth) priced) faultless)
    (c.bounded_walks_choose_the_cheapest.ensures.cheapest vs) faultless
