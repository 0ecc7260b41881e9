use Rattle.std.proofs.Common.{◌∙◌, ap, subst}
use Rattle.hp_code.specs.CodeViews.{rules_in}
use Rattle.hp_code.specs.Codes.{code_of}
use Rattle.hp_net.specs.Standings.{Standing}
use Rattle.hp_search.specs.Planned.{stands_planned, tree_planned}
use Rattle.hp_syntax.specs.Views.{pair_of}
use Rattle.hp_syntax.specs.Walk.{count_told, root}
use Rattle.hp_shallow.proofs.Deepened.{at_root, counted_with}
use Rattle.hp_shallow.specs.LeastDepth.{StandsAtPlan, first_end, shallow_end}
use Rattle.hp_shallow.proofs.deepening.walk_at.Goals as goal

pub first_end-requires-clause-at : goal.first_end-requires-clause-at
first_end-requires-clause-at c =
    let rules = rules_in (code_of c.args.code.now) in
    let node = root (pair_of c.args.pair.now) c.args.depth in
    at_root rules c.args.nest node _ _ (c.visits_are_in_the_tree.ensures rules c.args.nest node)
    c.in_ok-walk.ensures.tree c.in_ok-walk.ensures.stands

pub returns-in-Ok-clause-answer : goal.returns-in-Ok-clause-answer
returns-in-Ok-clause-answer c =
    c.in-Ok.ensures.answer
    ∙ ap (λ (s : Standing). shallow_end (first_end s.rest).ending) c.in_ok-walk.ensures.stands

pub returns-in-Ok-clause-expansions : goal.returns-in-Ok-clause-expansions
returns-in-Ok-clause-expansions c =
    counted_with _ c.args.before c.in-Ok.walked.expansions _ c.saturating_add.ensures
    (c.in-Ok.ensures.expansions
    ∙ ap (λ (s : Standing). count_told (first_end s.rest).tally.expansions) c.in_ok-walk.ensures.stands)

pub returns-in-Ok-clause-plan : goal.returns-in-Ok-clause-plan
returns-in-Ok-clause-plan c = λ e.
    let w = c.first_end.new.walk in
    subst (λ (s : Standing). StandsAtPlan (tree_planned w) (stands_planned w) s.rest) c.in_ok-walk.ensures.stands
    (c.in-Ok.ensures.plan e)

pub returns-in-Ok-clause-tree : goal.returns-in-Ok-clause-tree
returns-in-Ok-clause-tree c = c.first_end.ensures.tree ∙ c.in_ok-walk.ensures.tree
