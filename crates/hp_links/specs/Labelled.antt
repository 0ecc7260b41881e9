-- Networks whose parts have numbers, and what becomes of them where a task is done or decomposed.
use Rattle.std.specs.Prelude.{ℕ, suc, ◌≤◌, ◌==◌, Bool, cond, List, [], ◌∷◌, ◌++◌, Option, Some, None, option_map, Contains}
use Rattle.hp_syntax.specs.Terms.{Term}
use Rattle.hp_syntax.specs.Networks as plain
use Rattle.hp_syntax.specs.Networks.{Network, Networks, Place}
use Rattle.hp_eval.specs.GoalViews.{term_at}
use Rattle.hp_links.specs.declared.entry.Order.{Order}
use Rattle.hp_links.specs.declared.entry.Order.TheVariants.{Ordered, Unordered}

-- nothing, a task, or a list of parts
mutual
  pub data Tree : Type 0 where
    Gone : Tree
    Leaf : (number : ℕ) → (cell : ℕ) → (immediate : Bool) → Tree
    Branch : (number : ℕ) → (order : Order) → (parts : Trees) → Tree

  pub data Trees : Type 0 where
    NoTree : Trees
    With : (first : Tree) → (rest : Trees) → Trees

-- ---- the network

-- the list of networks, in order or not
abbrev pub listed : Order → Networks → Network
listed Ordered ns = plain.Ordered ns
listed Unordered ns = plain.Unordered ns

-- the network without the numbers, where cells name these terms
abbrev mutual
  pub network : List Term → Tree → Network
  network terms Gone = plain.Empty
  network terms (Leaf k cell immediate) = plain.Task (term_at terms cell) immediate
  network terms (Branch k order ts) = listed order (networks terms ts)

  pub networks : List Term → Trees → Networks
  networks terms NoTree = plain.NoNetwork
  networks terms (With t ts) = plain.And (network terms t) (networks terms ts)

-- ---- numbers

-- the number of the whole, if there is something
abbrev pub number_of : Tree → Option ℕ
number_of Gone = None
number_of (Leaf k cell immediate) = Some k
number_of (Branch k order ts) = Some k

-- the numbers of all parts, in reading order
abbrev mutual
  pub numbers : Tree → List ℕ
  numbers Gone = []
  numbers (Leaf k cell immediate) = k ∷ []
  numbers (Branch k order ts) = k ∷ numbers_of_all ts

  pub numbers_of_all : Trees → List ℕ
  numbers_of_all NoTree = []
  numbers_of_all (With t ts) = numbers t ++ numbers_of_all ts

-- no two are the same
abbrev pub AreApart : List ℕ → Type 0
AreApart [] = Unit {0}
AreApart (k ∷ ks) = (Contains ks k → ⊥) × AreApart ks

-- ---- places

-- the first, if there is one, else the second
abbrev pub or_else : {A : Type 0} → Option A → Option A → Option A
or_else None o = o
or_else (Some x) o = Some x

-- the place of the part of a number
abbrev mutual
  pub place_in : ℕ → Tree → Option Place
  place_in x Gone = None
  place_in x (Leaf k cell immediate) = cond (k == x) (Some []) None
  place_in x (Branch k order ts) = cond (k == x) (Some []) (place_among x 0 ts)

  -- among parts, of which the first has this number in their list
  pub place_among : ℕ → ℕ → Trees → Option Place
  place_among x i NoTree = None
  place_among x i (With t ts) = or_else (option_map (λ p. i ∷ p) (place_in x t)) (place_among x (suc i) ts)

-- the part of a number
abbrev mutual
  pub part_in : ℕ → Tree → Option Tree
  part_in x Gone = None
  part_in x (Leaf k cell immediate) = cond (k == x) (Some (Leaf k cell immediate)) None
  part_in x (Branch k order ts) = cond (k == x) (Some (Branch k order ts)) (part_among x ts)

  pub part_among : ℕ → Trees → Option Tree
  part_among x NoTree = None
  part_among x (With t ts) = or_else (part_in x t) (part_among x ts)

-- ---- normal form

-- how many trees these are
abbrev pub count : Trees → ℕ
count NoTree = 0
count (With t ts) = suc (count ts)

-- each list has two parts or more, and no part is nothing
abbrev mutual
  pub IsFull : Tree → Type 0
  IsFull Gone = ⊥
  IsFull (Leaf k cell immediate) = Unit {0}
  IsFull (Branch k order ts) = (2 ≤ count ts) × AreFull ts

  pub AreFull : Trees → Type 0
  AreFull NoTree = Unit {0}
  AreFull (With t ts) = IsFull t × AreFull ts

-- nothing, or in normal form
abbrev pub IsNormal : Tree → Type 0
IsNormal Gone = Unit {0}
IsNormal (Leaf k cell immediate) = Unit {0}
IsNormal (Branch k order ts) = IsFull (Branch k order ts)

-- ---- which tasks come first

-- the numbers of the tasks that may be done first, from left to right
abbrev mutual
  pub leads : Tree → List ℕ
  leads Gone = []
  leads (Leaf k cell immediate) = k ∷ []
  leads (Branch k Ordered ts) = leads_of_first ts
  leads (Branch k Unordered ts) = leads_of_all ts

  pub leads_of_first : Trees → List ℕ
  leads_of_first NoTree = []
  leads_of_first (With t ts) = leads t

  pub leads_of_all : Trees → List ℕ
  leads_of_all NoTree = []
  leads_of_all (With t ts) = leads t ++ leads_of_all ts

-- the number of the part below which all first tasks stand: the ordered lists above it have it as their first part
abbrev mutual
  pub front_of : Tree → Option ℕ
  front_of Gone = None
  front_of (Leaf k cell immediate) = Some k
  front_of (Branch k Ordered ts) = front_of_first ts
  front_of (Branch k Unordered ts) = Some k

  pub front_of_first : Trees → Option ℕ
  front_of_first NoTree = None
  front_of_first (With t ts) = front_of t

-- ---- changes

-- with another tree in the place of the part of a number
abbrev mutual
  pub replaced : ℕ → Tree → Tree → Tree
  replaced x s Gone = Gone
  replaced x s (Leaf k cell immediate) = cond (k == x) s (Leaf k cell immediate)
  replaced x s (Branch k order ts) = cond (k == x) s (Branch k order (replaced_among x s ts))

  pub replaced_among : ℕ → Tree → Trees → Trees
  replaced_among x s NoTree = NoTree
  replaced_among x s (With t ts) = With (replaced x s t) (replaced_among x s ts)

-- before other trees, unless it is nothing
abbrev pub unless_gone : Tree → Trees → Trees
unless_gone Gone ts = ts
unless_gone (Leaf k cell immediate) ts = With (Leaf k cell immediate) ts
unless_gone (Branch k order us) ts = With (Branch k order us) ts

-- no part is nothing, and one part is that part
abbrev pub as_branch : ℕ → Order → Trees → Tree
as_branch k order NoTree = Gone
as_branch k order (With t NoTree) = t
as_branch k order (With t (With u ts)) = Branch k order (With t (With u ts))

-- without the part of a number, in normal form
abbrev mutual
  pub without : ℕ → Tree → Tree
  without x Gone = Gone
  without x (Leaf k cell immediate) = cond (k == x) Gone (Leaf k cell immediate)
  without x (Branch k order ts) = cond (k == x) Gone (as_branch k order (without_among x ts))

  pub without_among : ℕ → Trees → Trees
  without_among x NoTree = NoTree
  without_among x (With t ts) = unless_gone (without x t) (without_among x ts)
