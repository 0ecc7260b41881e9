-- Task lists with numbers in place of their tasks, in reading order.
use Rattle.std.specs.Prelude.{ℕ, ◌+◌, pos, unsigned_abs, Option, Some, None}
use Rattle.hp_syntax.specs.Networks.{Network, Networks, Empty, Task, Ordered, Unordered, NoNetwork, And}
use Rattle.hp_syntax.specs.Syntax as syntax
use Rattle.hp_syntax.specs.Syntax.{Tasks, TaskList, NoTasks, Then}
use Rattle.hp_syntax.specs.Terms.{Term, Symbol, Number, Listed}

-- how many tasks a task list has
unfoldable mutual
  pub task_count : Tasks → ℕ
  task_count (syntax.Task a i) = 1
  task_count (syntax.Ordered ts) = list_count ts
  task_count (syntax.Unordered ts) = list_count ts

  pub list_count : TaskList → ℕ
  list_count NoTasks = 0
  list_count (Then t ts) = task_count t + list_count ts

-- its network, where the numbers from one on stand in place of its tasks
unfoldable mutual
  pub numbered : ℕ → Tasks → Network
  numbered n (syntax.Task a i) = Task (Number (pos n)) i
  numbered n (syntax.Ordered ts) = Ordered (list_numbered n ts)
  numbered n (syntax.Unordered ts) = Unordered (list_numbered n ts)

  pub list_numbered : ℕ → TaskList → Networks
  list_numbered n NoTasks = NoNetwork
  list_numbered n (Then t ts) = And (numbered n t) (list_numbered (n + task_count t) ts)

-- the number that a term is
abbrev pub number_of : Term → Option ℕ
number_of (Symbol name) = None
number_of (Number z) = Some (unsigned_abs z)
number_of (Listed ts) = None

-- the number that stands as a task in a part of such a network
abbrev pub number_in : Option Network → Option ℕ
number_in None = None
number_in (Some Empty) = None
number_in (Some (Task t i)) = number_of t
number_in (Some (Ordered ns)) = None
number_in (Some (Unordered ns)) = None
