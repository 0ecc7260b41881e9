-- The children that this engine makes of a node.
use Rattle.std.specs.Prelude.{◌≡◌, ℕ, List, [], ◌∷◌, length, Option, Some, None, flat_map, slice_get}
use Rattle.std.specs.List.{All}
use Rattle.hp_syntax.specs.Terms.{Term}
use Rattle.hp_syntax.specs.Syntax.{Branch}
use Rattle.hp_syntax.specs.Events.{Event}
use Rattle.hp_syntax.specs.Networks.{Place}
use Rattle.hp_syntax.specs.Walk.{Node, Child, DidChild, CutChild, FaultChild, child_of}
use Rattle.hp_answers.specs.declared.answer.Answer.{Answer}
use Rattle.hp_answers.specs.AnswerViews.{answer_events, BindsBelow}
use Rattle.hp_tree.specs.Children.{branch_done}
use Rattle.hp_plain.specs.declared.candidate.Candidate.{Candidate}
use Rattle.hp_plain.specs.declared.candidate.Child as made
use Rattle.hp_plain.specs.declared.candidate.Child.TheVariants.{Cut, Fault, Did}
use Rattle.hp_plain.specs.declared.candidate.Choice.{Choice}
use Rattle.hp_plain.specs.Candidates.{done_at}
use Rattle.hp_plain.specs.SearchNodes.{node_in, IsSearchNode}

-- a child that is made, where cells name these terms
abbrev pub child_in : List Term → made.Child → Child
child_in terms Cut = CutChild
child_in terms (Fault f) = FaultChild f
child_in terms (Did s) = DidChild (node_in terms s)

-- one child or none
abbrev pub children_in : List Term → Option made.Child → List Child
children_in terms None = []
children_in terms (Some c) = child_in terms c ∷ []

-- each cell of a child's node, if it has one, is below a count
abbrev pub ChildFits : ℕ → made.Child → Type 0
ChildFits n Cut = Unit {0}
ChildFits n (Fault f) = Unit {0}
ChildFits n (Did s) = IsSearchNode n s

abbrev pub MaybeFits : ℕ → Option made.Child → Type 0
MaybeFits n None = Unit {0}
MaybeFits n (Some c) = ChildFits n c

-- these children are made, and fit
pub record Makes (terms : List Term) (child : Option made.Child) (children : List Child) : Type 0 where
  pub are : children_in terms child ≡ children
  pub fits : MaybeFits (length terms) child

-- ---- events that are found

-- the answers stand for these events, and each Sat binds to cells below the number of terms
pub record FindsBelow (terms : List Term) (found : List Answer) (events : List Event) : Type 0 where
  pub stand : answer_events terms found ≡ events
  pub below : All (BindsBelow (length terms)) found

-- the events of a choice among these branches give these children
pub record ChoosesBranch (terms : List Term) (n : Node) (p : Place) (branches : List Branch) (c : Choice)
    (children : List Child) : Type 0 where
  pub stand : flat_map (child_of (branch_done n p (slice_get branches c.branch))) (answer_events terms c.found.items)
      ≡ children
  pub below : All (BindsBelow (length terms)) c.found.items

-- the events of a choice for the rule of a number give these children
pub record Chooses (terms : List Term) (s : Candidate) (rule : ℕ) (c : Choice) (children : List Child) : Type 0 where
  pub stand : flat_map (child_of (done_at terms s rule c.branch)) (answer_events terms c.found.items) ≡ children
  pub below : All (BindsBelow (length terms)) c.found.items
