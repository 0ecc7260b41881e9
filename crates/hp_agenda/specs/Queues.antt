-- The candidates that are left, the rules that are left for the first of them, and the children by these.
use Rattle.std.specs.Prelude.{◌≡◌, ℕ, ◌+◌, ◌*◌, ◌<◌, ◌≤◌, Bool, true, cond, List, [], ◌∷◌, ◌++◌, length, drop, Option, Some, None, is_some, flat_map, Box}
use Rattle.std.specs.Global.{Global}
use Rattle.std.specs.List.{All}
use Rattle.hp_syntax.specs.Networks.{Network, Empty, Task, Ordered, Unordered, Place, part_at}
use Rattle.hp_syntax.specs.Syntax.{Rule}
use Rattle.hp_syntax.specs.Terms.{Term}
use Rattle.hp_syntax.specs.Walk.{Child, Node}
use Rattle.hp_code.specs.CodeViews.{CodeView, beside, rule_nodes, rules_in}
use Rattle.hp_links.specs.Linked.{Linked}
use Rattle.hp_links.specs.Placed.{candidates_in}
use Rattle.hp_precondition.specs.Picks.{picked_kept}
use Rattle.hp_suspended.specs.declared.scene.Scene.{Scene}
use Rattle.hp_tree.specs.Children.{IsCandidate, by_candidates, children_by, place_in}
use Rattle.hp_tree.specs.SearchNodes.{HeldNode}
use Rattle.hp_choice.specs.declared.choice.Choice.{Choice}
use Rattle.hp_choice.specs.Choices.{IsChoice, held_children}
use Rattle.hp_agenda.specs.declared.queue.Queue.{Queue}

-- ---- candidates

-- the candidates of a network that aren't listed: where there may be some, those behind as many as are listed
abbrev pub unlisted : Bool → ℕ → Linked → List ℕ
unlisted more listed net = cond more (drop listed (candidates_in net)) []

-- the candidates that are left of a queue: those listed from its place on, and those that aren't listed
abbrev pub candidates_left : Linked → Queue → List ℕ
candidates_left net q =
    drop q.at q.candidates.items ++ unlisted q.more (length q.candidates.items) net

-- ---- children

-- the rule of a node, if it is one's
abbrev pub rule_of : CodeView → ℕ → Option Rule
rule_of c i = beside i (rule_nodes c) (rules_in c)

-- the children by the rules of some nodes, where a part of a network is a task
abbrev pub by_rules : CodeView → ℕ → Node → Place → Option Network → List ℕ → List Child
by_rules c nest n p None is = []
by_rules c nest n p (Some Empty) is = []
by_rules c nest n p (Some (Task t m)) is = flat_map (λ i. children_by (rules_in c) nest n p t (rule_of c i)) is
by_rules c nest n p (Some (Ordered ns)) is = []
by_rules c nest n p (Some (Unordered ns)) is = []

-- the children by candidates, of which the first has these rules left
abbrev pub by_queue : CodeView → ℕ → Node → Linked → List ℕ → List ℕ → List Child
by_queue c nest n net rules [] = []
by_queue c nest n net rules (k ∷ ks) =
    by_rules c nest n (place_in net k) (part_at n.network (place_in net k)) rules
    ++ by_candidates (rules_in c) nest n net ks 0

-- the children that are left of a queue
abbrev pub queue_children : CodeView → ℕ → Node → Linked → Queue → List Child
queue_children c nest n net q = by_queue c nest n net q.rules.now (candidates_left net q)

-- those of a choice, if one is open
abbrev pub if_open : Scene → ℕ → List Term → HeldNode → Option (Box Choice Global) → List Child
if_open s nest terms h None = []
if_open s nest terms h (Some c) = held_children s nest terms h c.value

-- ---- invariants

-- a node is a rule's
abbrev pub IsRuleIn : CodeView → ℕ → Type 0
IsRuleIn c i = is_some (rule_of c i) ≡ true

-- a queue is of candidates and of rules, of which there are no more than the code has; where a candidate is left a
-- decomposition may follow; and where there may be others one of those that are listed is left
pub record IsQueue (c : CodeView) (h : HeldNode) (q : Queue) : Type 0 where
  pub candidates : All (IsCandidate h.network) q.candidates.items
  pub rules : All (IsRuleIn c) q.rules.now
  pub few : length q.rules.now ≤ length (rules_in c)
  pub deep : q.at < length q.candidates.items → 0 < h.depth
  pub more : q.more ≡ true → q.at < length q.candidates.items

-- the largest number of rules that are left to be tried, with one more for each candidate
abbrev pub work_left : CodeView → Linked → Queue → ℕ
work_left c net q = length (candidates_left net q) * (length (rules_in c) + 1) + length q.rules.now

-- a choice is of a candidate, its cells are below a count and its satisfiers keep at least so many, and a decomposition
-- may follow
pub record IsOpen (s : Scene) (terms : List Term) (base n : ℕ) (h : HeldNode) (c : Choice) : Type 0 where
  pub choice : IsChoice s terms n h.stage c
  pub candidate : IsCandidate h.network c.id
  pub kept : base ≤ picked_kept c.sats
  pub deep : 0 < h.depth

abbrev pub MaybeOpen : Scene → List Term → ℕ → ℕ → HeldNode → Option (Box Choice Global) → Type 0
MaybeOpen s terms base n h None = Unit {0}
MaybeOpen s terms base n h (Some c) = IsOpen s terms base n h c.value
