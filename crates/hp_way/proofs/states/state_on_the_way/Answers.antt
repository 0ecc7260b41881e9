use Rattle.std.proofs.Common.{inr, ap, map, sym, subst, ◌∙◌, arith}
use Rattle.std.specs.Prelude.{IfOk, MatchOption}
use Rattle.hp_net.specs.Standings.{Standing, Tree, tree_visits}
use Rattle.hp_syntax.specs.GroundViews.{ground_of}
use Rattle.hp_way.specs.Ways.{HasNoStateOnTheWay, IsStateOnTheWay}
use Rattle.hp_way.proofs.states.state_on_the_way.Goals as goal

pub returns-then-path-count : goal.returns-then-path-count
returns-then-path-count c = inr (omega arith)

pub state_in-requires-clause-new : goal.state_in-requires-clause-new
state_in-requires-clause-new c =
    ap (λ (s : Standing). s.rest) c.in_ok-planner.ensures.stands ∙ sym (ap tree_visits c.in_ok-planner.ensures.tree)

pub returns : goal.returns
returns c =
    subst
    (λ (t : Tree). IfOk c.state_in.result (λ s. MatchOption s
    (HasNoStateOnTheWay t.rules t.nest t.root c.args.path.now c.args.count)
    (λ v. IsStateOnTheWay t.rules t.nest t.root c.args.path.now c.args.count (map ground_of v.items))))
    c.in_ok-planner.ensures.tree c.state_in.ensures
