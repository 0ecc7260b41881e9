-- How a plan came about: the network of its problem is gone through once more, with numbers in place of its tasks.
use Rattle.std.specs.Prelude.{ℕ, suc, List, [], ◌∷◌, ◌++◌, length, replicate, Option, Some, None, option_map, slice_get, slice_set}
use Rattle.std.specs.Option.{option_and_then}
use Rattle.hp_syntax.specs.Networks.{Network, Place, normal, part_at, candidates, finish, expand}
use Rattle.hp_syntax.specs.Syntax.{Branch, Method, Pair, Rule, Does, Refines, Concludes, Tasks}
use Rattle.hp_way.specs.Ways.{Deed}
use Rattle.hp_derivation.specs.declared.roll.Stood.{Stood}
use Rattle.hp_derivation.specs.Numbering.{number_in, numbered, task_count}
use Rattle.hp_derivation.specs.Orders.{put_all}

-- ---- deeds

-- what becomes of a task: an operator does it, or a branch of a method puts tasks in its place
pub data Fate : Type 0 where
  Done : Fate
  Into : (tasks : Tasks) → Fate

abbrev pub by_branch : Option Branch → Option Fate
by_branch None = None
by_branch (Some b) = Some (Into b.tasks)

-- by a rule and the branch of a number
abbrev pub by_rule : ℕ → Option Rule → Option Fate
by_rule branch None = None
by_rule branch (Some (Does o)) = Some Done
by_rule branch (Some (Refines m)) = by_branch (slice_get m.branches branch)
by_rule branch (Some (Concludes a)) = None

-- ---- tasks

-- a task that came from another one, or from the problem, and isn't done
abbrev pub come_from : Option ℕ → ℕ → Stood
come_from parent level = record { parent = parent; level = level; deed = None }

-- a task, done by the deed of a number
abbrev pub done_by : ℕ → Stood → Stood
done_by k s = record { parent = s.parent; level = s.level; deed = Some k }

-- ---- the way

-- on the way to a plan: the network that is left, with its focus, all tasks so far by their numbers, and the order in
-- which they are read
pub record Stage : Type 0 where
  pub network : Network
  pub focus : Option Place
  pub tasks : List Stood
  pub order : List ℕ

-- the tasks of the problem come from none
unfoldable pub first_stage : Tasks → Stage
first_stage ts = record {
  network = normal (numbered 0 ts);
  focus = None;
  tasks = replicate (task_count ts) (come_from None 0);
  order = put_all None 0 (task_count ts) [];
}

-- a task that a deed takes: its place, its number, what it was so far, and what becomes of it
pub record Taken : Type 0 where
  pub place : Place
  pub number : ℕ
  pub task : Stood
  pub fate : Fate

-- the task at a place that a deed takes
abbrev pub taken_at : List Rule → Deed → Stage → Place → Option Taken
taken_at rules d s p =
    option_and_then
    (λ n. option_and_then
    (λ t. option_map (λ f. record { place = p; number = n; task = t; fate = f })
    (by_rule d.branch (slice_get rules d.rule)))
    (slice_get s.tasks n))
    (number_in (part_at s.network p))

-- that at the candidate of its number
unfoldable pub taken : List Rule → Deed → Stage → Option Taken
taken rules d s = option_and_then (taken_at rules d s) (slice_get (candidates s.network s.focus) d.candidate)

-- the task of a number is done by the deed of a number
abbrev pub finished : ℕ → Taken → Stage → Stage
finished k t s = record {
  network = (finish s.network t.place).0;
  focus = (finish s.network t.place).1;
  tasks = slice_set s.tasks t.number (done_by k t.task);
  order = s.order;
}

-- tasks with the next numbers stand in its place. They come from it, and are read right behind it
abbrev pub expanded : ℕ → Taken → Tasks → Stage → Stage
expanded k t ts s =
    let sub : Network = normal (numbered (length s.tasks) ts) in record {
      network = (expand s.network t.place sub).0;
      focus = (expand s.network t.place sub).1;
      tasks = slice_set s.tasks t.number (done_by k t.task)
          ++ replicate (task_count ts) (come_from (Some t.number) (suc t.task.level));
      order = put_all (Some t.number) (length s.tasks) (task_count ts) s.order;
    }

abbrev pub fared : ℕ → Taken → Fate → Stage → Stage
fared k t Done s = finished k t s
fared k t (Into ts) s = expanded k t ts s

-- deeds are done one after the other, of which the first has this number
abbrev pub after : List Rule → ℕ → List Deed → Stage → Option Stage
after rules k [] s = Some s
after rules k (d ∷ ds) s =
    option_and_then (λ t. after rules (suc k) ds (fared k t t.fate s)) (taken rules d s)

-- what is told of a stage: its tasks, and the order in which they are read
abbrev pub told : Stage → List Stood × List ℕ
told s = (s.tasks, s.order)

-- all tasks that ever stood in the network on the way of some deeds, and in which order they are read; none where a
-- deed takes no task that stands there, or there is no such rule or branch for it
unfoldable pub derived : List Rule → Pair → List Deed → Option (List Stood × List ℕ)
derived rules pair ds = option_map told (after rules 0 ds (first_stage pair.tasks))
