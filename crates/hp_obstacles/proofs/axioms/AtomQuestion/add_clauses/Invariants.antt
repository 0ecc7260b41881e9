-- What is added, and what is left from the branch on, is what keeps all branches.
use Rattle.std.proofs.Common.{◌≡◌, ◌+◌, ◌-◌, ◌≤◌, ◌++◌, map}
use Rattle.hp_choice.specs.Asking.{past}
use Rattle.hp_code.specs.Codes.{code_of}
use Rattle.hp_unmet.specs.States.{InStateOf}
use Rattle.hp_obstacles.specs.Obstacles.{at_clauses, unconcluded_of}
use Rattle.hp_obstacles.specs.Questions.{atom_wanted, rules_wanted, task_wanted}
use Rattle.hp_obstacles.proofs.ObstacleSteps.{clauses_left}
use Rattle.hp_obstacles.proofs.axioms.AtomQuestion.add_clauses.Given as goal

abbrev pub invariant-loop-more : goal.invariant-loop-more
invariant-loop-more l = record {
  added :
      InStateOf l.fn.walk (λ nest s. map unconcluded_of l.axioms.items
      ++ clauses_left (rules_wanted l.self) nest s (task_wanted l.self) (atom_wanted l.self) l.rule l.count l.more l.branch
      ≡ map unconcluded_of l.fn.axioms.items
      ++ at_clauses (rules_wanted l.self) nest s (task_wanted l.self) (atom_wanted l.self) l.rule 0 l.count);
  within : l.branch ≤ l.count;
  same : l.walk ≡ l.fn.walk;
  at : l.branch_node ≡ past (code_of l.self.code.now).nodes (l.node + 1) l.branch;
}

abbrev pub decreases-loop-more : goal.decreases-loop-more
decreases-loop-more l = l.count - l.branch
