-- Task networks: which tasks come first, and what is left once one is done or decomposed.
use Rattle.std.specs.Prelude.{ℕ, zero, suc, Bool, true, false, cond, List, [], ◌∷◌, ◌++◌, map, filter, Option, Some, None, Result, Ok}
use Rattle.std.specs.List.{list_any}
use Rattle.hp_syntax.specs.declared.fault.RunFault.{RunFault}
use Rattle.hp_syntax.specs.Syntax.{Tasks, TaskList, NoTasks, Then}
use Rattle.hp_syntax.specs.Syntax as syntax
use Rattle.hp_syntax.specs.Terms.{Term}
use Rattle.hp_syntax.specs.Values.{Bindings, on_ok, atom_value}

-- a network is empty, a task, or a list of networks, which are done in order or in any order
mutual
  pub data Network : Type 0 where
    Empty : Network
    Task : (task : Term) → (immediate : Bool) → Network
    Ordered : (parts : Networks) → Network
    Unordered : (parts : Networks) → Network

  pub data Networks : Type 0 where
    NoNetwork : Networks
    And : (first : Network) → (rest : Networks) → Networks

-- the network that a task list stands for, or the first fault from the left
unfoldable mutual
  pub tasks_value : Tasks → Bindings → Result Network RunFault
  tasks_value (syntax.Task a i) e = on_ok (atom_value a e) (λ t. Ok (Task t i))
  tasks_value (syntax.Ordered ts) e = on_ok (task_list_value ts e) (λ ns. Ok (Ordered ns))
  tasks_value (syntax.Unordered ts) e = on_ok (task_list_value ts e) (λ ns. Ok (Unordered ns))

  pub task_list_value : TaskList → Bindings → Result Networks RunFault
  task_list_value NoTasks e = Ok NoNetwork
  task_list_value (Then t ts) e =
      on_ok (tasks_value t e) (λ n. on_ok (task_list_value ts e) (λ ns. Ok (And n ns)))

abbrev pub is_empty : Network → Bool
is_empty Empty = true
is_empty (Task t i) = false
is_empty (Ordered ns) = false
is_empty (Unordered ns) = false

-- ---- normal form

abbrev pub unless_empty : Network → Networks → Networks
unless_empty n ns = cond (is_empty n) ns (And n ns)

-- no part is no network, and one part is that part
abbrev pub as_list : (Networks → Network) → Networks → Network
as_list f NoNetwork = Empty
as_list f (And n NoNetwork) = n
as_list f (And n (And m ms)) = f (And n (And m ms))

-- the network without empty parts and without lists of one part
unfoldable mutual
  pub normal : Network → Network
  normal Empty = Empty
  normal (Task t i) = Task t i
  normal (Ordered ns) = as_list Ordered (normal_parts ns)
  normal (Unordered ns) = as_list Unordered (normal_parts ns)

  pub normal_parts : Networks → Networks
  normal_parts NoNetwork = NoNetwork
  normal_parts (And n ns) = unless_empty (normal n) (normal_parts ns)

-- ---- places

-- a place is a path of part numbers, from the whole network down
abbrev pub Place : Type 0
Place = List ℕ

-- the places of the tasks that may be done first: of a list that is done in order those of its first part
unfoldable mutual
  pub firsts : Network → List Place
  firsts Empty = []
  firsts (Task t i) = [] ∷ []
  firsts (Ordered ns) = firsts_of_first ns
  firsts (Unordered ns) = firsts_from 0 ns

  pub firsts_of_first : Networks → List Place
  firsts_of_first NoNetwork = []
  firsts_of_first (And n ns) = map (λ p. 0 ∷ p) (firsts n)

  -- those of all parts, of which the first has this number
  pub firsts_from : ℕ → Networks → List Place
  firsts_from i NoNetwork = []
  firsts_from i (And n ns) = map (λ p. i ∷ p) (firsts n) ++ firsts_from (suc i) ns

-- the part of a network at a place
unfoldable mutual
  pub part_at : Network → Place → Option Network
  part_at n [] = Some n
  part_at Empty (i ∷ p) = None
  part_at (Task t m) (i ∷ p) = None
  part_at (Ordered ns) (i ∷ p) = nth_part_at ns i p
  part_at (Unordered ns) (i ∷ p) = nth_part_at ns i p

  pub nth_part_at : Networks → ℕ → Place → Option Network
  nth_part_at NoNetwork i p = None
  nth_part_at (And n ns) zero p = part_at n p
  nth_part_at (And n ns) (suc i) p = nth_part_at ns i p

-- the network with another part at a place
unfoldable mutual
  pub with_part : Network → Place → Network → Network
  with_part n [] x = x
  with_part Empty (i ∷ p) x = Empty
  with_part (Task t m) (i ∷ p) x = Task t m
  with_part (Ordered ns) (i ∷ p) x = Ordered (with_nth_part ns i p x)
  with_part (Unordered ns) (i ∷ p) x = Unordered (with_nth_part ns i p x)

  pub with_nth_part : Networks → ℕ → Place → Network → Networks
  with_nth_part NoNetwork i p x = NoNetwork
  with_nth_part (And n ns) zero p x = And (with_part n p x) ns
  with_nth_part (And n ns) (suc i) p x = And n (with_nth_part ns i p x)

-- ---- what may be done next, and what is left then

abbrev pub is_immediate : Option Network → Bool
is_immediate None = false
is_immediate (Some Empty) = false
is_immediate (Some (Task t i)) = i
is_immediate (Some (Ordered ns)) = false
is_immediate (Some (Unordered ns)) = false

-- where one of the places has an immediate task, only those that have one
abbrev pub immediate_first : Network → List Place → List Place
immediate_first net ps =
    cond (list_any (λ p. is_immediate (part_at net p)) ps)
    (filter (λ p. is_immediate (part_at net p)) ps) ps

abbrev pub firsts_below : Place → Option Network → List Place
firsts_below p None = []
firsts_below p (Some n) = map (λ q. p ++ q) (firsts n)

-- the places of the tasks that may be done next: the firsts below the focus, which is on the newest subtasks,
-- or those of the whole network where there is no focus
unfoldable pub candidates : Network → Option Place → List Place
candidates net None = immediate_first net (firsts net)
candidates net (Some p) = immediate_first net (firsts_below p (part_at net p))

-- the task at a place is done: it goes, and so does the focus
unfoldable pub finish : Network → Place → Network × Option Place
finish net p = (normal (with_part net p Empty), None)

-- the task at a place is decomposed: its subtasks stand there, and have the focus; without subtasks it is done
unfoldable pub expand : Network → Place → Network → Network × Option Place
expand net p sub = cond (is_empty sub) (finish net p) (with_part net p sub, Some p)
