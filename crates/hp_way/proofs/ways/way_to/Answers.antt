use Rattle.std.proofs.Common.{ap, sym, subst, ◌∙◌}
use Rattle.std.specs.Prelude.{IfOk}
use Rattle.hp_net.specs.Standings.{Standing, Tree, tree_visits}
use Rattle.hp_way.specs.Ways.{IsWay}
use Rattle.hp_way.proofs.ways.way_to.Goals as goal

pub way_by-requires-clause-new : goal.way_by-requires-clause-new
way_by-requires-clause-new c =
    ap (λ (s : Standing). s.rest) c.in_ok-planner.ensures.stands ∙ sym (ap tree_visits c.in_ok-planner.ensures.tree)

pub returns : goal.returns
returns c =
    subst (λ (t : Tree). IfOk c.way_by.result (λ w. IsWay t.rules t.nest t.root c.args.path.now w))
    c.in_ok-planner.ensures.tree c.way_by.ensures.way
