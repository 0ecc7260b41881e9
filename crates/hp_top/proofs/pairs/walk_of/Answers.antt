use Rattle.std.proofs.Common.{ap}
use Rattle.hp_plain.specs.Walked.{stands_walked, tree_walked}
use Rattle.hp_syntax.specs.Views.{domain_of, pair_of}
use Rattle.hp_syntax.specs.Walk.{root}
use Rattle.hp_top.proofs.PlanEnds.{new_walk, ok_both, ok_weaker}
use Rattle.hp_top.proofs.pairs.walk_of.Goals as goal

pub returns-clause-new : goal.returns-clause-new
returns-clause-new c =
    ok_both _ _ _ c.new.result c.new.ensures.tree c.new.ensures.stands
    (λ w t s. new_walk (domain_of c.args.domain.now).rules c.args.levels
    (root (pair_of c.args.pair.now) c.args.depth) (tree_walked w) (stands_walked w) t s)

pub returns-clause-visits : goal.returns-clause-visits
returns-clause-visits c =
    ok_weaker _ _ c.new.result c.new.ensures.stands (λ w s. ap (λ z. z.rest) s)
