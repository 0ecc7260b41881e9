-- Derivations: the tasks of a problem done, said of states and networks and not of the tree.
use Rattle.std.specs.Prelude.{◌≡◌, ◌⊎◌, ◌<◌, ◌-◌, ℕ, ℤ, pos, ◌+ℤ◌, Bool, List, [], ◌∷◌, ◌++◌, length, slice_get, Option, Some, Ok, Contains}
use Rattle.hp_syntax.specs.Syntax.{Operator, Branch, Method, Rule, Does, Refines, Pair}
use Rattle.hp_syntax.specs.Terms.{Term}
use Rattle.hp_syntax.specs.Values.{Bindings, unbound}
use Rattle.hp_syntax.specs.Matching.{match_atom}
use Rattle.hp_syntax.specs.Events.{Event, Sat, State, axioms_of}
use Rattle.hp_syntax.specs.Preconditions.{precondition_events}
use Rattle.hp_syntax.specs.Networks.{Network, Task, Place, tasks_value, normal, part_at, candidates, finish, expand}
use Rattle.hp_syntax.specs.Changes.{Changes, Went, apply, effects}
use Rattle.hp_syntax.specs.Applying.{Now}
use Rattle.hp_syntax.specs.Walk.{Node, root, chosen_branch}

-- a state and its protections, the network that is left to do, and the place of the newest subtasks
pub record Situation : Type 0 where
  pub state : State
  pub guards : List Term
  pub network : Network
  pub focus : Option Place

abbrev pub situation : State → List Term → Network × Option Place → Situation
situation s g net = record { state = s; guards = g; network = net.0; focus = net.1 }

-- the situation at a node
abbrev pub situation_at : Node → Situation
situation_at n = record { state = n.state; guards = n.guards; network = n.network; focus = n.focus }

-- the situation in which a problem's pair begins
abbrev pub first_situation : Pair → Situation
first_situation pair = situation_at (root pair 0)

-- a choice by numbers: which candidate, which rule of the domain, and which event of its precondition
pub record Choosing : Type 0 where
  pub candidate : ℕ
  pub rule : ℕ
  pub event : ℕ

-- a task stands at a candidate of a situation
pub record IsNext (s : Situation) (number : ℕ) (place : Place) (task : Term) : Type 0 where
  pub immediate : Bool
  pub first : slice_get (candidates s.network s.focus) number ≡ Some place
  pub there : part_at s.network place ≡ Some (Task task immediate)

-- an operator does a task that may be done next: its head matches the task, its precondition has this satisfier, and
-- its changes, which delete nothing that is protected, lead from what holds and is protected before to what does after
pub record Performs (rules : List Rule) (nest : ℕ) (c : Choosing) (before : Situation) (task : Term) (cost : ℤ)
    (after : Situation) : Type 0 where
  pub operator : Operator
  pub place : Place
  pub matched : Bindings
  pub satisfier : Bindings
  pub changes : Changes
  pub state : State
  pub guards : List Term
  pub next : IsNext before c.candidate place task
  pub known : slice_get rules c.rule ≡ Some (Does operator)
  pub head : match_atom operator.head task (unbound (length operator.vars)) ≡ Some matched
  pub met : slice_get (precondition_events (axioms_of rules) nest before.state operator.pre matched) c.event
      ≡ Some (Sat satisfier)
  pub does : effects (axioms_of rules) nest before.state operator satisfier ≡ Went (changes, cost)
  pub changed : apply before.state before.guards changes ≡ Now state guards
  pub then' : after ≡ situation state guards (finish before.network place)

-- a method decomposes a task that may be done next, by a satisfier of the first of its branches whose precondition
-- has any event: its subtasks stand in the task's place
pub record Decomposes (rules : List Rule) (nest : ℕ) (c : Choosing) (before after : Situation) : Type 0 where
  pub method : Method
  pub place : Place
  pub task : Term
  pub matched : Bindings
  pub branch : Branch × List Event
  pub satisfier : Bindings
  pub subtasks : Network
  pub next : IsNext before c.candidate place task
  pub known : slice_get rules c.rule ≡ Some (Refines method)
  pub head : match_atom method.head task (unbound (length method.vars)) ≡ Some matched
  pub chosen : chosen_branch rules nest before.state method.branches matched ≡ Some branch
  pub met : slice_get branch.1 c.event ≡ Some (Sat satisfier)
  pub gives : tasks_value branch.0.tasks satisfier ≡ Ok subtasks
  pub then' : after ≡ situation before.state before.guards (expand before.network place (normal subtasks))

-- choices lead from one situation to another, one after another, by these steps, whose costs add up to the cost
pub data Derives (rules : List Rule) (nest : ℕ) : List Choosing → Situation → List Term → ℤ → Situation → Type 0 where
  Nothing : (s : Situation) → Derives rules nest [] s [] (pos 0) s
  ByOperator : (c : Choosing) (cs : List Choosing) (before between after : Situation) (t : Term) (ts : List Term)
      (cost rest : ℤ) → Performs rules nest c before t cost between → Derives rules nest cs between ts rest after
      → Derives rules nest (c ∷ cs) before (t ∷ ts) (cost +ℤ rest) after
  ByMethod : (c : Choosing) (cs : List Choosing) (before between after : Situation) (ts : List Term) (rest : ℤ)
      → Decomposes rules nest c before between → Derives rules nest cs between ts rest after
      → Derives rules nest (c ∷ cs) before ts rest after

-- the node of a situation, with the steps so far, their cost and the depth that is left
abbrev pub node_in : Situation → List Term → ℤ → ℕ → Node
node_in s steps cost depth = record {
  state = s.state;
  guards = s.guards;
  network = s.network;
  focus = s.focus;
  steps = steps;
  cost = cost;
  depth = depth;
}

-- a choice leads from a node to another
pub data Leads (rules : List Rule) (nest : ℕ) (c : Choosing) (n m : Node) : Type 0 where
  ByStep : (s : Situation) (t : Term) (cost : ℤ) → Performs rules nest c (situation_at n) t cost s
      → m ≡ node_in s (n.steps ++ t ∷ []) (n.cost +ℤ cost) (n.depth - 1) → Leads rules nest c n m
  BySubtasks : (s : Situation) → Decomposes rules nest c (situation_at n) s
      → m ≡ node_in s n.steps n.cost (n.depth - 1) → Leads rules nest c n m

-- a choice comes earlier: by its candidate, then by its rule, then by its event
abbrev pub IsEarlier : Choosing → Choosing → Type 0
IsEarlier c d =
    (c.candidate < d.candidate)
    ⊎ ((c.candidate ≡ d.candidate) × ((c.rule < d.rule) ⊎ ((c.rule ≡ d.rule) × (c.event < d.event))))

-- ---- steps alone

-- an operator leads from what holds and is protected to what does after
pub record PlanStep (rules : List Rule) (nest : ℕ) (before : State × List Term) (task : Term) (cost : ℤ)
    (after : State × List Term) : Type 0 where
  pub operator : Operator
  pub matched : Bindings
  pub satisfier : Bindings
  pub changes : Changes
  pub known : Contains rules (Does operator)
  pub head : match_atom operator.head task (unbound (length operator.vars)) ≡ Some matched
  pub met : Contains (precondition_events (axioms_of rules) nest before.0 operator.pre matched) (Sat satisfier)
  pub does : effects (axioms_of rules) nest before.0 operator satisfier ≡ Went (changes, cost)
  pub changed : apply before.0 before.1 changes ≡ Now after.0 after.1

-- the steps lead from one state with its protections to another, one by one, and their costs add up to the cost
abbrev pub Executes : List Rule → ℕ → State × List Term → List Term → ℤ → State × List Term → Type 0
Executes rules nest before [] cost after = (before ≡ after) × (cost ≡ pos 0)
Executes rules nest before (t ∷ ts) cost after =
    (first : ℤ) × (rest : ℤ) × (between : State × List Term) × PlanStep rules nest before t first between
    × Executes rules nest between ts rest after × (cost ≡ first +ℤ rest)
