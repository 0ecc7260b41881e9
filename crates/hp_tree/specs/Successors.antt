-- The successors of a node: its plan, or its children; and the visits of them.
use Rattle.std.specs.Prelude.{ℕ, suc, ◌==◌, cond, List, [], ◌∷◌, ◌++◌, map}
use Rattle.hp_syntax.specs.Syntax.{Rule}
use Rattle.hp_syntax.specs.Networks.{is_empty}
use Rattle.hp_syntax.specs.Walk.{Node, Child, DidChild, CutChild, FaultChild, children, Did, Plan, CutHere, FaultHere, Visit, visit, visits}

-- a successor is the node's own plan, or a child
pub data Successor : Type 0 where
  ThePlan : Successor
  TheChild : (c : Child) → Successor

module _ (rules : List Rule) (nest : ℕ) where
  -- the successors of a node: its plan where nothing is left to do, else a Cut where no decomposition may follow, else
  -- its children
  unfoldable pub successors : Node → List Successor
  successors n =
      cond (is_empty n.network) (ThePlan ∷ [])
      (cond (n.depth == 0) (TheChild CutChild ∷ []) (map TheChild (children rules nest n)))

  -- the visits of successors of a node at a path, and below it, where the next Did has this number
  unfoldable pub visits_of : Node → List ℕ → ℕ → List Successor → List Visit
  visits_of n p i [] = []
  visits_of n p i (ThePlan ∷ cs) = visit p n Plan ∷ visits_of n p i cs
  visits_of n p i (TheChild (DidChild m) ∷ cs) =
      visit (p ++ i ∷ []) m Did ∷ (visits rules nest m (p ++ i ∷ []) ++ visits_of n p (suc i) cs)
  visits_of n p i (TheChild CutChild ∷ cs) = visit p n CutHere ∷ visits_of n p i cs
  visits_of n p i (TheChild (FaultChild f) ∷ cs) = visit p n (FaultHere f) ∷ visits_of n p i cs

-- the number of Dids among successors
abbrev pub dids_in : List Successor → ℕ
dids_in [] = 0
dids_in (ThePlan ∷ cs) = dids_in cs
dids_in (TheChild (DidChild m) ∷ cs) = suc (dids_in cs)
dids_in (TheChild CutChild ∷ cs) = dids_in cs
dids_in (TheChild (FaultChild f) ∷ cs) = dids_in cs
