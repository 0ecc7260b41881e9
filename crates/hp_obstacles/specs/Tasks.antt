-- The tasks that may be done next.
use Rattle.std.specs.Prelude.{List, [], ◌∷◌, Option, Some, None}
use Rattle.std.specs.List.{flat_map}
use Rattle.hp_syntax.specs.Networks.{Network, Empty, Task, Ordered, Unordered, Place, candidates, part_at}
use Rattle.hp_syntax.specs.Terms.{Term}
use Rattle.hp_syntax.specs.Walk.{Node}

-- the task of a part of a network, where it is one
abbrev pub task_in : Option Network → List Term
task_in None = []
task_in (Some Empty) = []
task_in (Some (Task t immediate)) = t ∷ []
task_in (Some (Ordered parts)) = []
task_in (Some (Unordered parts)) = []

-- the tasks at the candidates of a network with its focus, in order
abbrev pub tasks_next : Network × Option Place → List Term
tasks_next net = flat_map (λ p. task_in (part_at net.0 p)) (candidates net.0 net.1)

abbrev pub next_tasks : Node → List Term
next_tasks n = tasks_next (n.network, n.focus)
