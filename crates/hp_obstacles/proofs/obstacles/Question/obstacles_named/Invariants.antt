use Rattle.std.proofs.Common.{◌≡◌, map, take}
use Rattle.hp_syntax.specs.Views.{rule_of}
use Rattle.hp_unmet.specs.States.{InStateOf}
use Rattle.hp_obstacles.specs.Obstacles.{at_rules, obstacle_of}
use Rattle.hp_obstacles.specs.Questions.{rules_asked, task_asked}
use Rattle.hp_obstacles.proofs.obstacles.Question.obstacles_named.Given as goal

abbrev pub invariant-loop-place : goal.invariant-loop-place
invariant-loop-place l = record {
  so_far :
      InStateOf l.fn.walk (λ nest s. map obstacle_of l.obstacles.items
      ≡ at_rules (rules_asked l.self) nest s (task_asked l.self) l.name 0
      (map rule_of (take l.place l.self.domain.now.rules.items)));
  same : l.walk ≡ l.fn.walk;
}
