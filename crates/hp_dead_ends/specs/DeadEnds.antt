-- Dead ends, where a search came to a node at which nothing can be done; the furthest of them; and what stopped it.
use Rattle.std.specs.Prelude.{◌≡◌, ◌≢◌, ℕ, nat_lt, Bool, true, false, not, ◌&&◌, ◌||◌, ◌==◌, cond, List, [], ◌∷◌, length, filter}
use Rattle.std.specs.List.{list_all}
use Rattle.hp_syntax.specs.Lists.{up_to}
use Rattle.hp_syntax.specs.Networks.{is_empty}
use Rattle.hp_syntax.specs.Syntax.{Rule}
use Rattle.hp_syntax.specs.Walk.{Node, Sight, Visit, Did, Plan, CutHere, FaultHere, children, is_did, is_plan, is_fault_here, begins, visit}
use Rattle.hp_dead_ends.specs.declared.searching.SearchEnd.{SearchEnd}
use Rattle.hp_dead_ends.specs.declared.searching.SearchEnd.TheVariants as ends

-- ---- dead ends

-- a node that isn't a plan and has depth left, but no children of any kind
pub record IsDeadEnd (rules : List Rule) (nest : ℕ) (n : Node) : Type 0 where
  pub tasks : is_empty n.network ≡ false
  pub depth : n.depth ≢ 0
  pub none : children rules nest n ≡ []

-- visits up to and including the first plan or fault
abbrev pub until_plan : List Visit → List Visit
until_plan vs = up_to (λ v. is_plan v.sight || is_fault_here v.sight) vs

-- no visit is next, or the next one doesn't lie at or below a path
abbrev pub ends_at : List ℕ → List Visit → Bool
ends_at p [] = true
ends_at p (v ∷ vs) = not (begins p v.path)

-- the decompositions of visits at or below which no visit comes next, in their order
abbrev pub dead_ends : List Visit → List Visit
dead_ends [] = []
dead_ends (v ∷ vs) = cond (is_did v.sight && ends_at v.path vs) (v ∷ dead_ends vs) (dead_ends vs)

-- the root counts as a decomposition
abbrev pub with_root : Node → List Visit → List Visit
with_root root vs = visit [] root Did ∷ vs

-- ---- the furthest ones

-- how far a visit came: how many steps there are, and how many decompositions
pub record Rank : Type 0 where
  pub steps : ℕ
  pub decompositions : ℕ

abbrev pub rank : ℕ → ℕ → Rank
rank s d = record { steps = s; decompositions = d }

abbrev pub rank_of : Visit → Rank
rank_of v = rank (length v.node.steps) (length v.path)

-- more steps are further; and of as many steps more decompositions
abbrev pub is_further : Rank → Rank → Bool
is_further a b =
    nat_lt b.steps a.steps || ((a.steps == b.steps) && nat_lt b.decompositions a.decompositions)

abbrev pub comes_further : Visit → Visit → Bool
comes_further v w = is_further (rank_of v) (rank_of w)

-- those than which none comes further
abbrev pub furthest : List Visit → List Visit
furthest ds = filter (λ v. list_all (λ w. not (comes_further w v)) ds) ds

-- ---- what stopped a search

abbrev pub is_cut_here : Sight → Bool
is_cut_here Did = false
is_cut_here Plan = false
is_cut_here CutHere = true
is_cut_here (FaultHere f) = false

-- a cut at a node without depth
abbrev pub is_depth_cut : Visit → Bool
is_depth_cut v = is_cut_here v.sight && (v.node.depth == 0)

-- a cut at a node with depth, where axioms call one another too deep
abbrev pub is_level_cut : Visit → Bool
is_level_cut v = is_cut_here v.sight && not (v.node.depth == 0)

-- how visits end, where this is known already: at a plan or a fault, else with a cut where one was seen
abbrev pub ending : SearchEnd → List Visit → SearchEnd
ending e [] = e
ending e (v ∷ vs) =
    elim v.sight [
      | Did ↦ ending e vs
      | Plan ↦ ends.Plan
      | CutHere ↦ ending ends.Cut vs
      | FaultHere f ↦ ends.Fault f
    ]

-- a search ended at a plan or a fault, before its walk was over
abbrev pub is_stopped : SearchEnd → Bool
is_stopped ends.Plan = true
is_stopped ends.Whole = false
is_stopped ends.Cut = false
is_stopped (ends.Fault f) = true

-- how many decompositions were visited
abbrev pub decompositions_of : List Visit → ℕ
decompositions_of vs = length (filter (λ v. is_did v.sight) vs)
