-- The nodes on the way to the one that is reached, each with the successors that are left there.
use Rattle.std.specs.Prelude.{◌≡◌, ℕ, ◌-◌, ◌^◌, ◌<◌, min, List, [], ◌∷◌, ◌++◌, map, length, Option, Some, None}
use Rattle.hp_syntax.specs.Syntax.{Rule}
use Rattle.hp_syntax.specs.Terms.{Term}
use Rattle.hp_syntax.specs.Walk.{CutChild}
use Rattle.hp_tree.specs.Successors.{Successor, ThePlan, TheChild, successors, dids_in}
use Rattle.hp_tree.specs.Stacks.{Level, given_at}
use Rattle.hp_plain.specs.declared.frame.End.{End}
use Rattle.hp_plain.specs.declared.frame.End.TheVariants as ends
use Rattle.hp_plain.specs.declared.frame.Frame.{Frame}
use Rattle.hp_plain.specs.declared.frame.Successor as made
use Rattle.hp_plain.specs.declared.frame.Successor.TheVariants.{Plan, Child}
use Rattle.hp_plain.specs.declared.search_node.SearchNode.{SearchNode}
use Rattle.hp_plain.specs.Agendas.{agenda_children, IsAgenda}
use Rattle.hp_plain.specs.Children.{child_in, ChildFits}
use Rattle.hp_plain.specs.SearchNodes.{node_in, IsSearchNode}

-- the successors of a node without children
abbrev pub end_successors : Option End → List Successor
end_successors None = []
end_successors (Some ends.Plan) = ThePlan ∷ []
end_successors (Some ends.Cut) = TheChild CutChild ∷ []

module _ (rules : List Rule) (nest : ℕ) where
  -- the successors that are left at a frame's node
  abbrev pub left_of : List Term → Frame → List Successor
  left_of terms f = end_successors f.end ++ map TheChild (agenda_children rules nest terms f.node f.agenda)

  abbrev pub level_of : List Term → Frame → Level
  level_of terms f = record { node = node_in terms f.node; left = left_of terms f }

  -- each cell of a frame is below the number of terms; where a Did is left, the number of those that were given is
  -- told as far as it goes
  pub record IsFrame (terms : List Term) (f : Frame) : Type 0 where
    pub node : IsSearchNode (length terms) f.node
    pub agenda : IsAgenda rules (length terms) f.node f.agenda
    pub dids : 0 < dids_in (left_of terms f) → f.dids ≡ min (given_at rules nest (level_of terms f)) (2 ^ 64 - 1)

  -- a frame is of this node, and all its successors are left
  pub record Opens (terms : List Term) (s : SearchNode) (f : Frame) : Type 0 where
    pub node : f.node ≡ s
    pub dids : f.dids ≡ 0
    pub agenda : IsAgenda rules (length terms) s f.agenda
    pub left : left_of terms f ≡ successors rules nest (node_in terms s)

-- ---- the next successor

-- one successor or none, where cells name these terms
abbrev pub successor_list : List Term → Option made.Successor → List Successor
successor_list terms None = []
successor_list terms (Some Plan) = ThePlan ∷ []
successor_list terms (Some (Child c)) = TheChild (child_in terms c) ∷ []

abbrev pub SuccessorFits : ℕ → Option made.Successor → Type 0
SuccessorFits n None = Unit {0}
SuccessorFits n (Some Plan) = Unit {0}
SuccessorFits n (Some (Child c)) = ChildFits n c

-- a successor is the next of those that were left, and the others are left; where there is none, none was left
pub record TakesSuccessor (terms : List Term) (next : Option made.Successor) (before left : List Successor)
    : Type 0 where
  pub first : before ≡ successor_list terms next ++ left
  pub fits : SuccessorFits (length terms) next
  pub all : next ≡ None → left ≡ []
