use Rattle.std.proofs.Common.{ap, sym, subst, ◌∙◌}
use Rattle.hp_net.specs.Standings.{Standing, Tree, tree_visits}
use Rattle.hp_search.specs.Planned.{tree_planned}
use Rattle.hp_way.proofs.PlanSteps.{numbered_path}
use Rattle.hp_way.specs.Ways.{IsPathOfPlan}
use Rattle.hp_way.proofs.plans.numbered_way.Goals as goal

pub way_by_number-requires-clause-new : goal.way_by_number-requires-clause-new
way_by_number-requires-clause-new c =
    ap (λ (s : Standing). s.rest) c.in_ok-planner.ensures.stands ∙ sym (ap tree_visits c.in_ok-planner.ensures.tree)

pub returns-clause-path : goal.returns-clause-path
returns-clause-path c =
    subst (λ (t : Tree). IsPathOfPlan t.rules t.nest t.root c.args.number c.in_ok-way.way c.in_ok-path.path.items)
    c.in_ok-planner.ensures.tree
    (numbered_path (tree_planned c.in_ok-planner.planner) c.args.number c.in_ok-way.way _ c.in_ok-path.path.items
    c.in_ok-way.ensures.stands (c.in_ok-path.ensures.items ∙ c.path.ensures))
