use Rattle.std.proofs.Common.{◌≡◌, None}
use Rattle.hp_unmet.specs.States.{InStateOf}
use Rattle.hp_blame.specs.Blames.{culprit_of}
use Rattle.hp_blame.specs.Firsts.{first_below}
use Rattle.hp_blame.specs.Questions.{rules_asked, task_asked}
use Rattle.hp_blame.proofs.blames.Question.culprit_named.Given as goal

abbrev pub invariant-loop-rule : goal.invariant-loop-rule
invariant-loop-rule l = record {
  none :
      InStateOf l.fn.walk (λ nest s. first_below
      (culprit_of (rules_asked l.self) l.self.fault nest s (task_asked l.self) l.name) l.rule ≡ None);
  same : l.walk ≡ l.fn.walk;
}
