use Rattle.std.proofs.Common.{◌≡◌, map, take}
use Rattle.hp_syntax.specs.Views.{rule_of}
use Rattle.hp_unmet.specs.States.{InStateOf}
use Rattle.hp_obstacles.specs.Obstacles.{at_clauses, clauses_for, of_rules, unconcluded_of}
use Rattle.hp_obstacles.specs.Questions.{atom_wanted, rules_wanted, task_wanted}
use Rattle.hp_obstacles.proofs.axioms.AtomQuestion.axioms_named.Given as goal

abbrev pub invariant-loop-place : goal.invariant-loop-place
invariant-loop-place l = record {
  so_far :
      InStateOf l.fn.walk (λ nest s. map unconcluded_of l.axioms.items
      ≡ of_rules
      (λ k r. at_clauses (rules_wanted l.self) nest s (task_wanted l.self) (atom_wanted l.self) k 0 (clauses_for l.name r))
      0 (map rule_of (take l.place l.self.domain.now.rules.items)));
  same : l.walk ≡ l.fn.walk;
}
