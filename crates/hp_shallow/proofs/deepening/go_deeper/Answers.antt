use Rattle.std.proofs.Common.{◌∙◌, ◌+◌, ap, subst}
use Rattle.hp_net.specs.Standings.{Standing, tree_visits}
use Rattle.hp_search.specs.Planned.{stands_planned, tree_planned, with_depth}
use Rattle.hp_syntax.specs.Walk.{count_told}
use Rattle.hp_shallow.proofs.Deepened.{at_root, counted_with}
use Rattle.hp_shallow.specs.LeastDepth.{StandsAtPlan, first_end, shallow_end}
use Rattle.hp_shallow.proofs.deepening.go_deeper.Goals as goal

pub first_end-requires-clause-at : goal.first_end-requires-clause-at
first_end-requires-clause-at c =
    let t = with_depth (c.args.least.now.depth + 1) (tree_planned c.args.least.now.walk) in
    at_root t.rules t.nest t.root _ _ (c.visits_are_in_the_tree.ensures t.rules t.nest t.root)
    c.in_ok-begin_again.ensures.tree c.in_ok-begin_again.ensures.stands

pub returns-clause-walked : goal.returns-clause-walked
returns-clause-walked c =
    let l = c.args.least.now in
    let t = with_depth (l.depth + 1) (tree_planned l.walk) in
    let stands = c.in_ok-begin_again.ensures.stands in
    let w = c.first_end.new.walk in
    record {
      tree = c.first_end.ensures.tree ∙ c.in_ok-begin_again.ensures.tree;
      answer =
          c.in_ok-walked.ensures.answer
          ∙ ap (λ (s : Standing). shallow_end (first_end s.rest).ending) stands;
      expansions =
          counted_with _ l.expansions c.in_ok-walked.walked.expansions _ c.saturating_add-least.ensures
          (c.in_ok-walked.ensures.expansions
          ∙ ap (λ (s : Standing). count_told (first_end s.rest).tally.expansions) stands);
      plan = λ e.
          subst (λ (s : Standing). StandsAtPlan (tree_planned w) (stands_planned w) s.rest) stands
          (c.in_ok-walked.ensures.plan e);
      root = c.in_ok-walked.ensures.root;
      live = c.in_ok-walked.ensures.live;
    }
