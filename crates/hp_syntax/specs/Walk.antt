-- The tree of ordered task decomposition, and its visits, depth first.
use Rattle.std.specs.Prelude.{ℕ, zero, suc, ◌-◌, ◌^◌, min, Bool, true, false, ◌&&◌, ◌==◌, cond, ℤ, pos, ◌+ℤ◌, List, [], ◌∷◌, ◌++◌, length, map, Option, Some, None, Result, Ok, Err, flat_map}
use Rattle.std.specs.Option.{option_and_then}
use Rattle.hp_syntax.specs.declared.fault.RunFault.{RunFault}
use Rattle.hp_syntax.specs.Syntax.{Operator, Branch, Method, Rule, Does, Refines, Concludes, Pair}
use Rattle.hp_syntax.specs.Terms.{Term}
use Rattle.hp_syntax.specs.Values.{Bindings, unbound}
use Rattle.hp_syntax.specs.Matching.{match_atom}
use Rattle.hp_syntax.specs.Events.{Event, Sat, Cut, Fault, State, chosen, axioms_of}
use Rattle.hp_syntax.specs.Lists.{up_to}
use Rattle.hp_syntax.specs.Preconditions.{precondition_events}
use Rattle.hp_syntax.specs.Networks.{Network, Empty, Task, Ordered, Unordered, Place, tasks_value, is_empty, normal, part_at, candidates, finish, expand}
use Rattle.hp_syntax.specs.Changes.{Changes, Applied, Going, Went, CutShort, Failed, added, apply, effects}
use Rattle.hp_syntax.specs.Applying.{Now, Guarded}
use Rattle.hp_syntax.specs.GroundPatterns.{atoms_said, network_said}

-- a node of the tree: what holds and is protected, what is left to do, the steps so far with their
-- cost, and how many decompositions may follow
pub record Node : Type 0 where
  pub state : State
  pub guards : List Term
  pub network : Network
  pub focus : Option Place
  pub steps : List Term
  pub cost : ℤ
  pub depth : ℕ

-- ---- children

-- an entry of a node's list of children
pub data Child : Type 0 where
  DidChild : (node : Node) → Child
  CutChild : Child
  FaultChild : (f : RunFault) → Child

-- an event as a child, where a Sat becomes these
abbrev pub child_of : (Bindings → List Child) → Event → List Child
child_of f (Sat e) = f e
child_of f Cut = CutChild ∷ []
child_of f (Fault x) = FaultChild x ∷ []

-- after an operator: its changes are applied, its task is done, the step and its cost are added
abbrev pub operated : Node → Place → Term → ℤ → Applied → List Child
operated n p t c (Guarded d) = []
operated n p t c (Now s g) =
    DidChild (record {
      state = s;
      guards = g;
      network = (finish n.network p).0;
      focus = (finish n.network p).1;
      steps = n.steps ++ t ∷ [];
      cost = n.cost +ℤ c;
      depth = n.depth - 1;
    }) ∷ []

abbrev pub after_effects : Node → Place → Term → Going (Changes × ℤ) → List Child
after_effects n p t CutShort = CutChild ∷ []
after_effects n p t (Failed f) = FaultChild f ∷ []
after_effects n p t (Went r) = operated n p t r.1 (apply n.state n.guards r.0)

-- after a method: its subtasks stand in the place of its task
abbrev pub decomposed : Node → Place → Result Network RunFault → List Child
decomposed n p (Err f) = FaultChild f ∷ []
decomposed n p (Ok sub) =
    DidChild (record {
      state = n.state;
      guards = n.guards;
      network = (expand n.network p (normal sub)).0;
      focus = (expand n.network p (normal sub)).1;
      steps = n.steps;
      cost = n.cost;
      depth = n.depth - 1;
    }) ∷ []

-- by the branch that is chosen, for each satisfier of its precondition
abbrev pub branch_children : Node → Place → Option (Branch × List Event) → List Child
branch_children n p None = []
branch_children n p (Some c) = flat_map (child_of (λ b. decomposed n p (tasks_value c.0.tasks b))) c.1

-- the rules of the domain, and how deep axioms may call one another, are fixed
module _ (rules : List Rule) (nest : ℕ) where
  -- by an operator, for each satisfier of its precondition
  abbrev pub operator_children : Node → Place → Term → Operator → Option Bindings → List Child
  operator_children n p t o None = []
  operator_children n p t o (Some e) =
      flat_map (child_of (λ b. after_effects n p t (effects (axioms_of rules) nest n.state o b)))
      (precondition_events (axioms_of rules) nest n.state o.pre e)

  -- the first branch whose precondition has any events
  abbrev pub chosen_branch : State → List Branch → Bindings → Option (Branch × List Event)
  chosen_branch s bs e = chosen (λ b. precondition_events (axioms_of rules) nest s b.pre e) bs

  abbrev pub method_children : Node → Place → Method → Option Bindings → List Child
  method_children n p m None = []
  method_children n p m (Some e) = branch_children n p (chosen_branch n.state m.branches e)

  -- by a rule, where its head matches the task
  abbrev pub rule_children : Node → Place → Term → Rule → List Child
  rule_children n p t (Does o) = operator_children n p t o (match_atom o.head t (unbound (length o.vars)))
  rule_children n p t (Refines m) = method_children n p m (match_atom m.head t (unbound (length m.vars)))
  rule_children n p t (Concludes x) = []

  -- by each rule, in the order of the domain
  abbrev pub task_children : Node → Place → Option Network → List Child
  task_children n p None = []
  task_children n p (Some Empty) = []
  task_children n p (Some (Task t i)) = flat_map (rule_children n p t) rules
  task_children n p (Some (Ordered ns)) = []
  task_children n p (Some (Unordered ns)) = []

  -- the children of a node: by each candidate, by each rule, by each satisfier
  unfoldable pub children : Node → List Child
  children n = flat_map (λ p. task_children n p (part_at n.network p)) (candidates n.network n.focus)

-- ---- visits

-- the sight at a visit
pub data Sight : Type 0 where
  Did : Sight
  Plan : Sight
  CutHere : Sight
  FaultHere : (f : RunFault) → Sight

abbrev pub is_did : Sight → Bool
is_did Did = true
is_did Plan = false
is_did CutHere = false
is_did (FaultHere f) = false

abbrev pub is_plan : Sight → Bool
is_plan Did = false
is_plan Plan = true
is_plan CutHere = false
is_plan (FaultHere f) = false

abbrev pub is_fault_here : Sight → Bool
is_fault_here Did = false
is_fault_here Plan = false
is_fault_here CutHere = false
is_fault_here (FaultHere f) = true

-- a visit: the path from the root as numbers of Dids, the node that it reaches, and what is seen
pub record Visit : Type 0 where
  pub path : List ℕ
  pub node : Node
  pub sight : Sight

abbrev pub visit : List ℕ → Node → Sight → Visit
visit p n x = record { path = p; node = n; sight = x }

-- the next Did has the next number; another child has that of the next Did
abbrev pub number_after : ℕ → Child → ℕ
number_after i (DidChild m) = suc i
number_after i CutChild = i
number_after i (FaultChild f) = i

-- the children with the numbers of the Dids, of which the first has this one
abbrev pub numbered_children : ℕ → List Child → List (ℕ × Child)
numbered_children i [] = []
numbered_children i (c ∷ cs) = (i, c) ∷ numbered_children (number_after i c) cs

-- the visits at a child of a node and below it
abbrev pub child_visits : (Node → List ℕ → List Visit) → Node → List ℕ → ℕ × Child → List Visit
child_visits below n p (i, DidChild m) = visit (p ++ i ∷ []) m Did ∷ below m (p ++ i ∷ [])
child_visits below n p (i, CutChild) = visit p n CutHere ∷ []
child_visits below n p (i, FaultChild f) = visit p n (FaultHere f) ∷ []

-- the visits at and below a node at a path: a Plan where nothing is left to do, else a Cut where no
-- decomposition is left, else those of its children
unfoldable pub visits_within : List Rule → ℕ → ℕ → Node → List ℕ → List Visit
visits_within rules nest zero n p = visit p n (cond (is_empty n.network) Plan CutHere) ∷ []
visits_within rules nest (suc d) n p =
    cond (is_empty n.network) (visit p n Plan ∷ [])
    (flat_map (child_visits (visits_within rules nest d) n p) (numbered_children 0 (children rules nest n)))

unfoldable pub visits : List Rule → ℕ → Node → List ℕ → List Visit
visits rules nest n p = visits_within rules nest n.depth n p

-- a list of visits is heard up to and including its first fault
abbrev pub heard_visits : List Visit → List Visit
heard_visits vs = up_to (λ v. is_fault_here v.sight) vs

-- the root of a pair at a depth
unfoldable pub root : Pair → ℕ → Node
root pair d = record {
  state = added [] (atoms_said pair.state);
  guards = [];
  network = normal (network_said pair.tasks);
  focus = None;
  steps = [];
  cost = pos 0;
  depth = d;
}

-- the walk of a pair at a depth: all visits of its tree, depth first, up to the first fault
unfoldable pub walk : List Rule → ℕ → Pair → ℕ → List Visit
walk rules nest pair d = heard_visits (visits rules nest (root pair d) [])

-- ---- paths

-- the node of the i-th Did among children
abbrev pub did_at : List Child → ℕ → Option Node
did_at [] i = None
did_at (DidChild m ∷ cs) zero = Some m
did_at (DidChild m ∷ cs) (suc i) = did_at cs i
did_at (CutChild ∷ cs) i = did_at cs i
did_at (FaultChild f ∷ cs) i = did_at cs i

-- the node that a path reaches from a node; nothing is below a node without tasks or without depth
unfoldable pub node_at : List Rule → ℕ → Node → List ℕ → Option Node
node_at rules nest n [] = Some n
node_at rules nest n (i ∷ p) =
    cond (is_empty n.network) None
    (cond (n.depth == 0) None
    (option_and_then (λ m. node_at rules nest m p) (did_at (children rules nest n) i)))

-- a path begins another
abbrev pub begins : List ℕ → List ℕ → Bool
begins [] q = true
begins (i ∷ p) [] = false
begins (i ∷ p) (j ∷ q) = (i == j) && begins p q

-- a list of visits without the leading ones that lie at or below a path
abbrev pub skip : List ℕ → List Visit → List Visit
skip p [] = []
skip p (v ∷ vs) = cond (begins p v.path) (skip p vs) (v ∷ vs)

-- ---- what is told in 64 bits

-- a count stays at its end
abbrev pub count_told : ℕ → ℕ
count_told n = min n (2 ^ 64 - 1)

-- the numbers of a path, each as it is told
abbrev pub told : List ℕ → List ℕ
told p = map (λ i. min i (2 ^ 64 - 1)) p
