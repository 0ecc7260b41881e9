-- The place of a walk, told by the successors that are left at each node on its way.
use Rattle.std.specs.Prelude.{◌≡◌, ℕ, ◌-◌, ◌<◌, Bool, true, false, cond, List, [], ◌∷◌, ◌++◌, Some}
use Rattle.hp_syntax.specs.Syntax.{Rule}
use Rattle.hp_syntax.specs.Walk.{Node, DidChild, CutChild, FaultChild, Visit, node_at}
use Rattle.hp_net.specs.Standings.{Tree, Standing, standing}
use Rattle.hp_net.specs.declared.walk.Step.{Step}
use Rattle.hp_net.specs.declared.walk.Step.TheVariants as steps
use Rattle.hp_tree.specs.Successors.{Successor, ThePlan, TheChild, successors, visits_of, dids_in}

-- ---- levels

-- a node on the way, and the successors that are left there
pub record Level : Type 0 where
  pub node : Node
  pub left : List Successor

module _ (rules : List Rule) (nest : ℕ) where
  -- the number of Dids that were given at a level
  unfoldable pub given_at : Level → ℕ
  given_at l = dids_in (successors rules nest l.node) - dids_in l.left

  -- the visits that are left at a level at a path
  abbrev pub ahead : List ℕ → Level → List Visit
  ahead p l = visits_of rules nest l.node p (given_at l) l.left

  -- the path to the node below some levels, the nearest first: at each the last Did given was taken
  abbrev pub path_to : List Level → List ℕ
  path_to [] = []
  path_to (l ∷ ls) = path_to ls ++ (given_at l - 1) ∷ []

  -- the visits that are left at levels, the nearest first
  abbrev pub rest_after : List Level → List Visit
  rest_after [] = []
  rest_after (l ∷ ls) = ahead (path_to ls) l ++ rest_after ls

  -- some successors of a level's node were given, and the rest is left
  pub record IsLevel (l : Level) : Type 0 where
    pub given : List Successor
    pub split : successors rules nest l.node ≡ given ++ l.left

  -- the node of a level is reached by the path to it, from the root
  pub record IsReached (root : Node) (ls : List Level) (l : Level) : Type 0 where
    pub level : IsLevel l
    pub there : node_at rules nest root (path_to ls) ≡ Some l.node

  -- so are those of levels, at each of which a Did was given
  abbrev pub AreReached : Node → List Level → Type 0
  AreReached root [] = Unit {0}
  AreReached root (l ∷ ls) = IsReached root ls l × (0 < given_at l) × AreReached root ls

-- the node of the last of some levels
abbrev pub root_of : Level → List Level → Node
root_of l [] = l.node
root_of l (k ∷ ls) = root_of k ls

-- ---- the place of a walk

-- the level reached, those above it, the nearest first, whether the last call answered a Did, and whether it or one
-- before answered a fault
pub record Stack : Type 0 where
  pub top : Level
  pub above : List Level
  pub at_did : Bool
  pub over : Bool

module _ (rules : List Rule) (nest : ℕ) where
  abbrev pub tree_of : Stack → Tree
  tree_of s = record { rules = rules; nest = nest; root = root_of s.top s.above }

  -- after a fault nothing is left
  abbrev pub rest_of : Stack → List Visit
  rest_of s = cond s.over [] (ahead rules nest (path_to rules nest s.above) s.top ++ rest_after rules nest s.above)

  abbrev pub standing_of : Stack → Standing
  standing_of s = standing (path_to rules nest s.above) (rest_of s) s.at_did

  -- the levels are reached, and where the last call answered a Did, nothing was given at the one reached
  pub record IsStack (s : Stack) : Type 0 where
    pub top : IsReached rules nest (root_of s.top s.above) s.above s.top
    pub above : AreReached rules nest (root_of s.top s.above) s.above
    pub fresh : s.at_did ≡ true → (s.top.left ≡ successors rules nest s.top.node) × (s.over ≡ false)

-- ---- a successor that is taken

-- the step that tells of a successor
abbrev pub told_of : Successor → Step
told_of ThePlan = steps.Plan
told_of (TheChild (DidChild m)) = steps.Did
told_of (TheChild CutChild) = steps.Cut
told_of (TheChild (FaultChild f)) = steps.Fault f

abbrev pub with_left : Level → List Successor → Level
with_left l cs = record { node = l.node; left = cs }

-- where a walk stands once the next successor is taken, and these are left
abbrev pub taken : List Rule → ℕ → Stack → Successor → List Successor → Stack
taken rules nest s ThePlan cs =
    record { top = with_left s.top cs; above = s.above; at_did = false; over = s.over }
taken rules nest s (TheChild (DidChild m)) cs = record {
  top = record { node = m; left = successors rules nest m };
  above = with_left s.top cs ∷ s.above;
  at_did = true;
  over = s.over;
}
taken rules nest s (TheChild CutChild) cs =
    record { top = with_left s.top cs; above = s.above; at_did = false; over = s.over }
taken rules nest s (TheChild (FaultChild f)) cs =
    record { top = with_left s.top cs; above = s.above; at_did = false; over = true }

-- where a walk stands once nothing is taken
abbrev pub rested : Stack → Stack
rested s = record { top = s.top; above = s.above; at_did = false; over = s.over }
