-- The nodes on the way to the one that is reached, each with the successors that are left there.
use Rattle.std.specs.Prelude.{◌≡◌, ℕ, ◌-◌, ◌^◌, ◌<◌, ◌≤◌, min, List, [], ◌∷◌, ◌++◌, map, length, Option, Some, None}
use Rattle.hp_syntax.specs.Syntax.{Rule}
use Rattle.hp_syntax.specs.Terms.{Term}
use Rattle.hp_syntax.specs.Walk.{CutChild, DidChild}
use Rattle.hp_code.specs.CodeViews.{rules_in}
use Rattle.hp_world.specs.Recorded.{history_in}
use Rattle.hp_suspended.specs.declared.scene.Scene.{Scene}
use Rattle.hp_suspended.specs.SceneViews.{code_in}
use Rattle.hp_tree.specs.SearchNodes.{HeldNode, IsHeldNode, node_of}
use Rattle.hp_tree.specs.Successors.{Successor, ThePlan, TheChild, successors, dids_in}
use Rattle.hp_tree.specs.Stacks.{Level, given_at}
use Rattle.hp_choice.specs.declared.choice.Given.{Given}
use Rattle.hp_choice.specs.Choices.{IsFloor, StaysUnless, floor_of, given_children}
use Rattle.hp_site.specs.declared.mark.Mark.{Mark}
use Rattle.hp_site.specs.declared.site.Site.{Site}
use Rattle.hp_site.specs.Sites.{AtomsWithin, IsMark, IsWithin, held_at, held_now, mark_now}
use Rattle.hp_agenda.specs.declared.frame.End.{End}
use Rattle.hp_agenda.specs.declared.frame.End.TheVariants as ends
use Rattle.hp_agenda.specs.declared.frame.Frame.{Frame}
use Rattle.hp_agenda.specs.declared.frame.Successor as made
use Rattle.hp_agenda.specs.declared.frame.Successor.TheVariants.{Plan, Child}
use Rattle.hp_agenda.specs.Agendas.{IsAgenda, agenda_children}
use Rattle.hp_agenda.specs.Begun.{HasLast}

-- ---- levels

-- the successors of a node without children
abbrev pub end_successors : Option End → List Successor
end_successors None = []
end_successors (Some ends.Plan) = ThePlan ∷ []
end_successors (Some ends.Cut) = TheChild CutChild ∷ []

-- the successors that are left at a frame, whose node is this one
abbrev pub left_of : Scene → ℕ → List Term → HeldNode → Frame → List Successor
left_of s nest terms h f = end_successors f.end ++ map TheChild (agenda_children s nest terms h f.agenda)

-- the level of a frame: the node of its moment, and the successors that are left there
abbrev pub level_of : Site → ℕ → List Term → Frame → Level
level_of site nest terms f = record {
  node = node_of terms (held_at site f.mark);
  left = left_of site.scene nest terms (held_at site f.mark) f;
}

abbrev pub rules_at : Site → List Rule
rules_at site = rules_in (code_in site.scene)

-- ---- invariants

-- a frame is of a moment of the site, whose cells are below its base; all that it still needs is below a count; and where
-- a Did is left, the number of those that were given is told as far as it goes
pub record IsFrame (site : Site) (nest : ℕ) (terms : List Term) (n : ℕ) (f : Frame) : Type 0 where
  pub mark : IsMark site f.mark
  pub node : IsHeldNode f.base (held_at site f.mark)
  pub atoms : AtomsWithin f.base f.mark.world (history_in site.scene.world)
  pub base : f.base ≤ n
  pub agenda : IsAgenda site.scene terms f.base n (held_at site f.mark) f.agenda
  pub dids : 0 < dids_in (level_of site nest terms f).left
      → f.dids ≡ min (given_at (rules_at site) nest (level_of site nest terms f)) (2 ^ 64 - 1)

-- frames, the nearest first, lead to a moment at which so many cells stood
abbrev pub LeadTo : Site → ℕ → List Term → Mark → ℕ → List Frame → Type 0
LeadTo site nest terms m base [] = Unit {0}
LeadTo site nest terms m base (f ∷ fs) =
    IsFrame site nest terms f.floor f × IsWithin f.mark m × (f.floor ≤ base) × LeadTo site nest terms f.mark f.base fs

-- frames, the nearest first, came to a moment: at each the last child that was given is the node of the moment below it
abbrev pub CameTo : Site → ℕ → List Term → Mark → List Frame → Type 0
CameTo site nest terms m [] = Unit {0}
CameTo site nest terms m (f ∷ fs) =
    HasLast site.scene nest terms (held_at site f.mark) f.agenda (DidChild (node_of terms (held_at site m)) ∷ [])
    × CameTo site nest terms f.mark fs

-- a frame is of the node that is reached, and all its successors are left
pub record Opens (site : Site) (nest : ℕ) (terms : List Term) (f : Frame) : Type 0 where
  pub mark : f.mark ≡ mark_now site
  pub base : f.base ≡ length terms
  pub dids : f.dids ≡ 0
  pub agenda : IsAgenda site.scene terms f.base (length terms) (held_now site) f.agenda
  pub left : left_of site.scene nest terms (held_now site) f
      ≡ successors (rules_at site) nest (node_of terms (held_now site))
  pub last : HasLast site.scene nest terms (held_now site) f.agenda []

-- ---- the next successor

-- one successor or none, where a decomposition leads to this search node
abbrev pub successor_list : List Term → HeldNode → Option made.Successor → List Successor
successor_list terms h None = []
successor_list terms h (Some Plan) = ThePlan ∷ []
successor_list terms h (Some (Child given)) = map TheChild (given_children terms h (Some given))

-- a successor is the next of those that were left, and the others are left; where there is none, none was left
pub record TakesSuccessor (terms : List Term) (next : Option made.Successor) (child : HeldNode)
    (before left : List Successor) : Type 0 where
  pub first : before ≡ successor_list terms child next ++ left
  pub all : next ≡ None → left ≡ []

-- the child of a successor, if it is one
abbrev pub given_in : Option made.Successor → Option Given
given_in None = None
given_in (Some Plan) = None
given_in (Some (Child given)) = Some given

-- the number of cells below which all stand that a frame still needs
abbrev pub bound_of : Option made.Successor → ℕ → ℕ
bound_of next n = floor_of (given_in next) n

abbrev pub FloorStands : Option made.Successor → ℕ → ℕ → Type 0
FloorStands next old new = IsFloor (given_in next) old new

-- without a decomposition the search node stays
abbrev pub StaysAt : Option made.Successor → Site → Site → Type 0
StaysAt next old new = StaysUnless (given_in next) old new
