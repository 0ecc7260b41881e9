use Rattle.std.proofs.Common.{◌≡◌, ◌+◌, None}
use Rattle.hp_choice.specs.Asking.{past}
use Rattle.hp_code.specs.Codes.{code_of}
use Rattle.hp_unmet.specs.States.{InStateOf}
use Rattle.hp_blame.specs.Blames.{culprit_at}
use Rattle.hp_blame.specs.Firsts.{first_below}
use Rattle.hp_blame.specs.Questions.{rules_asked, task_asked}
use Rattle.hp_blame.proofs.blames.Question.culprit_below.Given as goal

abbrev pub invariant-loop-branch : goal.invariant-loop-branch
invariant-loop-branch l = record {
  none :
      InStateOf l.fn.walk (λ nest s. first_below
      (culprit_at (rules_asked l.self) l.self.fault nest s (task_asked l.self) l.rule) l.branch ≡ None);
  same : l.walk ≡ l.fn.walk;
  at : l.branch_node ≡ past (code_of l.self.code.now).nodes (l.node + 1) l.branch;
}
