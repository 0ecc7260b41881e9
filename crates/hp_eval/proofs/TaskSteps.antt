-- The networks of task lists, list by list.
use Rattle.std.proofs.Common.{◌≡◌, List, [], ◌∷◌, Ok, refl, ap, ◌∙◌, Vec}
use Rattle.std.specs.Global.{Global}
use Rattle.hp_syntax.specs.declared.tasks.NetPat.{NetPat}
use Rattle.hp_syntax.specs.declared.tasks.NetPat.TheVariants as nets
use Rattle.hp_syntax.specs.declared.tasks.TaskPat.{TaskPat}
use Rattle.hp_syntax.specs.Networks.{Network, NoNetwork, And, Task, Ordered, Unordered, tasks_value, task_list_value}
use Rattle.hp_syntax.specs.Values.{Bindings, on_ok, atom_value}
use Rattle.hp_syntax.specs.Views.{atom_of, tasks_of, task_list_of}
use Rattle.hp_syntax.specs.ViewLaws.{tasks_of-task, tasks_of-ordered, tasks_of-unordered}
use Rattle.hp_eval.specs.GoalViews.{as_networks}
use Rattle.hp_eval.specs.Steps.{in_front}

-- the networks of task lists are that of the first and those of the others
pub tasks_step : (e : Bindings) (t : NetPat) (ts : List NetPat)
    → task_list_value (task_list_of (t ∷ ts)) e
    ≡ on_ok (tasks_value (tasks_of t) e) (λ n. on_ok (task_list_value (task_list_of ts) e) (λ ns. Ok (And n ns)))
unfolding tasks_value task_list_value
tasks_step e t ts = refl

-- no task list makes no network
pub tasks_none : (e : Bindings) → task_list_value (task_list_of []) e ≡ Ok NoNetwork
unfolding tasks_value task_list_value
tasks_none e = refl

-- networks in front of none are the list of them
pub networks_in_front : (ns : List Network) → in_front And ns NoNetwork ≡ as_networks ns
networks_in_front [] = refl
networks_in_front (n ∷ ns) = ap (And n) (networks_in_front ns)

module _ (tasks : NetPat) (e : Bindings) where
  -- a task's network is the task that its atom's value is
  pub value_of-task : (t : TaskPat) → tasks ≡ nets.Task t
      → tasks_value (tasks_of tasks) e ≡ on_ok (atom_value (atom_of t.atom) e) (λ x. Ok (Task x t.immediate))
  unfolding tasks_value task_list_value
  value_of-task t h = ap (λ n. tasks_value n e) (ap tasks_of h ∙ tasks_of-task t)

  -- that of an ordered list is the ordered list of its parts' networks
  pub value_of-ordered : (parts : Vec NetPat Global) → tasks ≡ nets.Ordered parts
      → tasks_value (tasks_of tasks) e ≡ on_ok (task_list_value (task_list_of parts.items) e) (λ ns. Ok (Ordered ns))
  unfolding tasks_value task_list_value
  value_of-ordered parts h = ap (λ n. tasks_value n e) (ap tasks_of h ∙ tasks_of-ordered parts)

  -- that of an unordered list is the unordered list of its parts' networks
  pub value_of-unordered : (parts : Vec NetPat Global) → tasks ≡ nets.Unordered parts
      → tasks_value (tasks_of tasks) e ≡ on_ok (task_list_value (task_list_of parts.items) e) (λ ns. Ok (Unordered ns))
  unfolding tasks_value task_list_value
  value_of-unordered parts h = ap (λ n. tasks_value n e) (ap tasks_of h ∙ tasks_of-unordered parts)
