-- The children of a node: by the tasks that may be done next, by the rules relevant to each, and by the events of a
-- rule's precondition.
use Rattle.std.specs.Prelude.{◌≡◌, ℕ, List, [], ◌∷◌, ◌++◌, drop, Option, Some, None, flat_map, slice_get}
use Rattle.hp_syntax.specs.Changes.{effects}
use Rattle.hp_syntax.specs.Events.{axioms_of}
use Rattle.hp_syntax.specs.Networks.{Network, Empty, Task, Ordered, Unordered, Place, part_at, tasks_value}
use Rattle.hp_syntax.specs.Syntax.{Rule, Does, Refines, Concludes, Branch}
use Rattle.hp_syntax.specs.Terms.{Term}
use Rattle.hp_syntax.specs.Values.{Bindings}
use Rattle.hp_syntax.specs.Walk.{Node, Child, after_effects, decomposed, rule_children}
use Rattle.hp_links.specs.Linked.{Linked, place_of, NamesTask}
use Rattle.hp_laws.specs.RulesByName.{relevant_to}

-- ---- candidates

-- a place, or that of the whole network where there is none
abbrev pub place_or_whole : Option Place → Place
place_or_whole None = []
place_or_whole (Some p) = p

-- the place of a part of a network, or that of the whole network where it has none
abbrev pub place_in : Linked → ℕ → Place
place_in net id = place_or_whole (place_of net id)

-- an id names a task that stands at a place of the network
pub record IsCandidate (net : Linked) (id : ℕ) : Type 0 where
  pub names : NamesTask net id
  pub stands : place_of net id ≡ Some (place_in net id)

-- ---- events

-- the children that a satisfier gives by a branch of a method, if there is one
abbrev pub branch_done : Node → Place → Option Branch → Bindings → List Child
branch_done n p None b = []
branch_done n p (Some c) b = decomposed n p (tasks_value c.tasks b)

module _ (rules : List Rule) (nest : ℕ) where
  -- the children that a satisfier gives by a rule, if there is one, and the branch of a number
  abbrev pub done_by : Node → Place → Term → Option Rule → ℕ → Bindings → List Child
  done_by n p t None k b = []
  done_by n p t (Some (Does o)) k b = after_effects n p t (effects (axioms_of rules) nest n.state o b)
  done_by n p t (Some (Refines m)) k b = branch_done n p (slice_get m.branches k) b
  done_by n p t (Some (Concludes x)) k b = []

  -- ---- rules

  -- the children by a rule, if there is one
  abbrev pub children_by : Node → Place → Term → Option Rule → List Child
  children_by n p t None = []
  children_by n p t (Some r) = rule_children rules nest n p t r

  -- the children by some rules, where a part of a network is a task
  abbrev pub task_by : Node → Place → Option Network → List Rule → List Child
  task_by n p None rs = []
  task_by n p (Some Empty) rs = []
  task_by n p (Some (Task t i)) rs = flat_map (rule_children rules nest n p t) rs
  task_by n p (Some (Ordered ns)) rs = []
  task_by n p (Some (Unordered ns)) rs = []

  -- the same by one rule, if there is one
  abbrev pub one_by : Node → Place → Option Network → Option Rule → List Child
  one_by n p None r = []
  one_by n p (Some Empty) r = []
  one_by n p (Some (Task t i)) r = children_by n p t r
  one_by n p (Some (Ordered ns)) r = []
  one_by n p (Some (Unordered ns)) r = []

  -- the children by a part of a network and the rules relevant to it, without those by the first so many
  abbrev pub relevant_by : Node → Place → Option Network → ℕ → List Child
  relevant_by n p part k = task_by n p part (drop k (relevant_to part rules))

  -- the children by candidates, without those by the first candidate and the first so many rules relevant to it
  abbrev pub by_candidates : Node → Linked → List ℕ → ℕ → List Child
  by_candidates n net [] k = []
  by_candidates n net (c ∷ cs) k =
      relevant_by n (place_in net c) (part_at n.network (place_in net c)) k ++ by_candidates n net cs 0
