use Rattle.std.proofs.Common.{◌≡◌, ap, map, subst, ◌∙◌}
use Rattle.std.specs.Prelude.{option_map}
use Rattle.hp_choice.specs.FirstSatisfier.{values_of}
use Rattle.hp_obstacles.specs.Facts.{kept}
use Rattle.hp_obstacles.specs.Obstacles.{axioms_unmet, unconcluded_of}
use Rattle.hp_obstacles.specs.Questions.{rules_asked, task_asked}
use Rattle.hp_unmet.specs.States.{InStateOf}
use Rattle.hp_obstacles.proofs.ObstacleSteps.{obstacle_is}
use Rattle.hp_obstacles.proofs.obstacles.Question.obstacle_by.Goals as goal

pub returns-clause-is : goal.returns-clause-is
returns-clause-is c = λ n at.
    let walk = c.args.walk.now in
    let axioms =
    subst (λ w. InStateOf w (λ nest s. map unconcluded_of c.in_ok-axioms.axioms.items
    ≡ axioms_unmet (rules_asked c.args.self.now) nest s (task_asked c.args.self.now) c.args.spot.rule c.args.spot.branch
    c.args.answer.unmet)) c.in_ok-against.ensures.same c.in_ok-axioms.ensures.are in
    obstacle_is (rules_asked c.args.self.now) walk.nest n.state (task_asked c.args.self.now) c.args.spot.rule
    c.args.spot.branch c.args.answer.unmet (values_of c.into_values.result)
    (option_map values_of c.in_ok-against.against) (option_map kept c.in_ok-facts.facts)
    (map unconcluded_of c.in_ok-axioms.axioms.items) (c.requires.unmet n at)
    (ap values_of c.into_values.ensures ∙ c.requires.values n at) (c.in_ok-against.ensures.are n at)
    (c.in_ok-facts.ensures n at)
    (axioms n at)
