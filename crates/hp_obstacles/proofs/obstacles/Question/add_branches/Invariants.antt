use Rattle.std.proofs.Common.{◌≡◌, ◌+◌, ◌++◌, map}
use Rattle.hp_choice.specs.Asking.{past}
use Rattle.hp_code.specs.Codes.{code_of}
use Rattle.hp_unmet.specs.States.{InStateOf}
use Rattle.hp_obstacles.specs.Obstacles.{at_branches, obstacle_of}
use Rattle.hp_obstacles.specs.Questions.{rules_asked, task_asked}
use Rattle.hp_obstacles.proofs.obstacles.Question.add_branches.Given as goal

abbrev pub invariant-loop-branch : goal.invariant-loop-branch
invariant-loop-branch l = record {
  added :
      InStateOf l.fn.walk (λ nest s. map obstacle_of l.obstacles.items
      ≡ map obstacle_of l.fn.obstacles.items
      ++ at_branches (rules_asked l.self) nest s (task_asked l.self) l.rule 0 l.branch);
  same : l.walk ≡ l.fn.walk;
  at : l.branch_node ≡ past (code_of l.self.code.now).nodes (l.node + 1) l.branch;
}
