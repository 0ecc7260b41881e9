use Rattle.std.proofs.Common.{[]}
use Rattle.hp_code.specs.CodeViews.{rules_in}
use Rattle.hp_code.specs.Codes.{code_of}
use Rattle.hp_code.specs.Lowered.{lowered_rules}
use Rattle.hp_search.specs.Planned.{stands_planned, tree_planned}
use Rattle.hp_syntax.specs.Views.{pair_of}
use Rattle.hp_syntax.specs.Walk.{root}
use Rattle.hp_top.proofs.PlanEnds.{new_walk, ok_both, ok_weaker, planned_left}
use Rattle.hp_top.proofs.pairs.planner_of.Goals as goal

pub returns-clause-new : goal.returns-clause-new
returns-clause-new c =
    ok_both _ _ _ c.new.result c.new.ensures.tree c.new.ensures.stands
    (λ p t s. new_walk (rules_in (code_of c.args.code.now)) c.args.levels
    (root (pair_of c.args.pair.now) c.args.depth) (tree_planned p) (stands_planned p) t s)

pub returns-clause-visits : goal.returns-clause-visits
returns-clause-visits c =
    ok_weaker _ _ c.new.result c.new.ensures.stands
    (λ p s rules is.
    planned_left rules (lowered_rules rules) c.args.levels c.args.depth (pair_of c.args.pair.now)
    (code_of c.args.code.now) (stands_planned p)
    (c.compiled_rules_are_a_code.ensures.reads rules (code_of c.args.code.now) is)
    (c.lowered_rules_have_the_tree.ensures.visits rules c.args.levels
    (root (pair_of c.args.pair.now) c.args.depth) [])
    s)
