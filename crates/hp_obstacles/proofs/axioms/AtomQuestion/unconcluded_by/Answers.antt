use Rattle.std.proofs.Common.{ap, ◌∙◌}
use Rattle.std.specs.Prelude.{option_map}
use Rattle.hp_choice.specs.FirstSatisfier.{values_of}
use Rattle.hp_obstacles.specs.Facts.{kept}
use Rattle.hp_obstacles.specs.Questions.{atom_wanted, rules_wanted, task_wanted}
use Rattle.hp_obstacles.proofs.ObstacleSteps.{unconcluded_is}
use Rattle.hp_obstacles.proofs.axioms.AtomQuestion.unconcluded_by.Goals as goal

pub returns : goal.returns
returns c = λ n at.
    let q = c.args.self.now in
    unconcluded_is (rules_wanted q) c.args.walk.now.nest n.state (task_wanted q) (atom_wanted q) c.args.spot.rule
    c.args.spot.branch c.args.answer.unmet (values_of c.into_values.result) (option_map kept c.in_ok-facts.facts)
    (c.requires.unmet n at) (ap values_of c.into_values.ensures ∙ c.requires.values n at) (c.in_ok-facts.ensures n at)
