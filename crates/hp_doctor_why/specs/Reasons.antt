-- When what is known of why a pair has no plan is right.
use Rattle.std.specs.Prelude.{◌≡◌, ℕ, false, cond, List, map, Option, Some, None, option_map}
use Rattle.std.specs.List.{All}
use Rattle.hp_code.specs.Lowered.{lowered_rules}
use Rattle.hp_dead_ends.specs.Arriving.{is_small}
use Rattle.hp_dead_ends.specs.declared.searching.SearchEnd.{SearchEnd}
use Rattle.hp_dead_ends.specs.declared.searching.SearchEnd.TheVariants as ends
use Rattle.hp_dead_ends.specs.Finding.{HasMet, IsFoundIn, IsFurthest, items_of}
use Rattle.hp_blame.specs.Blames.{Blame, blame_kept, blame_of}
use Rattle.hp_net.specs.Standings.{Standing, Tree}
use Rattle.hp_syntax.specs.Syntax.{Pair, Rule}
use Rattle.hp_syntax.specs.Terms.{Term}
use Rattle.hp_syntax.specs.Walk.{Node, node_at, root}
use Rattle.hp_obstacles.specs.Tasks.{next_tasks}
use Rattle.hp_way.specs.Ways.{Deed, LeadAlong}
use Rattle.hp_doctor_why.specs.declared.reasons.Why.{Why}
use Rattle.hp_doctor_why.specs.Whys.{Cut, Reason, cut_of, kept, reason_at}

-- the tree of a pair
abbrev pub tree_of : List Rule → Pair → ℕ → ℕ → Tree
tree_of rules pair depth nest = record { rules = rules; nest = nest; root = root pair depth }

-- the same tree, by the lowered rules
abbrev pub lowered_tree : Tree → Tree
lowered_tree t = record t { rules = lowered_rules t.rules }

-- the reasons at the node of a path; of a path with a number that may stand for a greater one none are known
abbrev pub reason_of : Tree → List ℕ → Option Reason
reason_of t path = cond (is_small path) (option_map (reason_at t.rules t.nest) (node_at t.rules t.nest t.root path)) None

-- the tasks of the decompositions that lead to the node of a path
pub record AreTasksTo (rules : List Rule) (nest : ℕ) (root : Node) (path : List ℕ) (ts : List Term) : Type 0 where
  pub node : Node
  pub deeds : List Deed
  pub lead : LeadAlong rules nest deeds path root node
  pub are : ts ≡ map (λ d. d.task) deeds

-- what is known of the node of a path: the tasks that lead there, and those that may be done next
pub record IsCutAt (t : Tree) (path : List ℕ) (c : Cut) : Type 0 where
  pub node : Node
  pub there : node_at t.rules t.nest t.root path ≡ Some node
  pub way : AreTasksTo t.rules t.nest t.root path c.way
  pub left : c.left ≡ next_tasks node

-- what is known of the first node that the depth cut, if there is one: of a path with a number that may stand for a
-- greater one nothing is
abbrev pub IsCutAtIf : Tree → Option (List ℕ) → Option Cut → Type 0
IsCutAtIf t None c = c ≡ None
IsCutAtIf t (Some p) None = is_small p ≡ false
IsCutAtIf t (Some p) (Some c) = IsCutAt t p c

-- where a fault ended the search, what is known is what was at fault at the node that has it
abbrev pub IsBlamed : Tree → Tree → SearchEnd → Option Blame → Type 0
IsBlamed t lowered ends.Plan b = b ≡ None
IsBlamed t lowered ends.Whole b = b ≡ None
IsBlamed t lowered ends.Cut b = b ≡ None
IsBlamed t lowered (ends.Fault f) b =
    (s : Standing) × (met : HasMet lowered s f) × (b ≡ blame_of t.rules f t.nest met.visit.node)

-- what was found in a tree is what is to be told of its dead ends, at most so many of the furthest; each of these is
-- one than which none has more steps, and beside each stand the reasons at its path; and after a fault what was at
-- fault is known
pub record IsWhy (t : Tree) (most : ℕ) (w : Why) : Type 0 where
  pub found : IsFoundIn t most w.found
  pub dead : All (IsFurthest t) w.found.furthest.items
  pub blame : IsBlamed t (lowered_tree t) w.found.end (option_map blame_kept w.blame)
  pub cut : IsCutAtIf (lowered_tree t) (items_of w.found.depth_cut) (option_map cut_of w.cut)
  pub reasons : map (option_map kept) w.reasons.items ≡ map (λ e. reason_of t e.path.items) w.found.furthest.items
