-- The view of a planner.
use Rattle.std.specs.Prelude.{◌≡◌, ℕ, ◌≤◌, Bool, true, List, [], ◌∷◌, ◌++◌, length, map, take, slice_get, Option, Some}
use Rattle.std.specs.Prelude.{None}
use Rattle.hp_syntax.specs.Terms.{Term}
use Rattle.hp_syntax.specs.Walk.{node_at}
use Rattle.hp_eval.specs.Growth.{Grows}
use Rattle.hp_net.specs.declared.walk.Step.{Step}
use Rattle.hp_net.specs.declared.walk.Step.TheVariants as steps
use Rattle.hp_net.specs.Standings.{Tree, Standing}
use Rattle.hp_tree.specs.Stacks.{Stack, tree_of, standing_of}
use Rattle.hp_tree.specs.SearchNodes.{node_of}
use Rattle.hp_site.specs.declared.mark.Mark.{Mark}
use Rattle.hp_site.specs.declared.site.Site.{Site}
use Rattle.hp_site.specs.Sites.{IsWithin, held_at, mark_now}
use Rattle.hp_agenda.specs.declared.frame.Frame.{Frame}
use Rattle.hp_agenda.specs.Frames.{level_of, rules_at}
use Rattle.hp_search.specs.declared.search.Search.{Search}
use Rattle.hp_search.specs.Searches.{levels_of, IsSearch}

-- the number of axiom levels; the search node that is reached, in place; the terms that cells name; the frames of the
-- nodes above it, and its own; whether the last call answered a Did, whether one answered a fault, and whether none has
-- failed
pub record Planned : Type 0 where
  pub nest : ℕ
  pub site : Site
  pub terms : List Term
  pub above : List Frame
  pub top : Frame
  pub at_did : Bool
  pub over : Bool
  pub live : Bool

abbrev pub planned : Search → Bool → Planned
planned s live = record {
  nest = s.nest;
  site = s.site;
  terms = s.cells;
  above = s.above.items;
  top = s.top;
  at_did = s.at_did;
  over = s.over;
  live = live;
}

-- where a planner stands, told by the successors that are left at each level
abbrev pub stack_planned : Planned → Stack
stack_planned p = record {
  top = level_of p.site p.nest p.terms p.top;
  above = levels_of p.site p.nest p.terms p.above;
  at_did = p.at_did;
  over = p.over;
}

abbrev pub tree_planned : Planned → Tree
tree_planned p = tree_of (rules_at p.site) p.nest (stack_planned p)

abbrev pub stands_planned : Planned → Standing
stands_planned p = standing_of (rules_at p.site) p.nest (stack_planned p)

-- the tree of the same root, where so many decompositions may follow from it
abbrev pub with_depth : ℕ → Tree → Tree
with_depth depth t = record t { root = record t.root { depth = depth } }

-- until a call fails, the search is one
abbrev pub IsPlanned : Search → Bool → Type 0
IsPlanned s live = live ≡ true → IsSearch s

-- ---- the moments of the path

-- the moments of the nodes on the path, the root's first
abbrev pub marks_of : Planned → List Mark
marks_of p = map (λ (f : Frame). f.mark) (p.above ++ p.top ∷ [])

-- the pasts at each moment are those of the node that so much of the path reaches, no moment is behind a later one, and
-- the last is this one
pub record HasMarks (p : Planned) : Type 0 where
  pub nodes : (k : ℕ) (m : Mark) → slice_get (marks_of p) k ≡ Some m
      → node_at (tree_planned p).rules p.nest (tree_planned p).root (take k (stands_planned p).path)
      ≡ Some (node_of p.terms (held_at p.site m))
  pub rising : (j k : ℕ) (m n : Mark) → j ≤ k → slice_get (marks_of p) j ≡ Some m → slice_get (marks_of p) k ≡ Some n
      → IsWithin m n
  pub last : p.top.mark ≡ mark_now p.site

-- ---- the cells of the path

-- the numbers of cells at which the nodes on the path were reached, the root's first
abbrev pub bases_of : Planned → List ℕ
bases_of p = map (λ (f : Frame). f.base) (p.above ++ p.top ∷ [])

-- the floors: of each Did on the path, the number of cells that the nodes above it still need
abbrev pub floors_of : Planned → List ℕ
floors_of p = map (λ (f : Frame). f.floor) p.above

-- nothing more comes at the node reached: the cells are cut to those at which it was reached
pub record GivesBase (old new : Planned) : Type 0 where
  pub bases : bases_of new ≡ bases_of old
  pub floors : floors_of new ≡ floors_of old
  pub cells : new.terms ≡ take old.top.base old.terms

-- a Did has a floor between the cells before and after it, and a node that is reached at the cells after it
pub record AddsFloor (old new : Planned) : Type 0 where
  pub floor : ℕ
  pub low : length old.terms ≤ floor
  pub high : floor ≤ length new.terms
  pub floors : floors_of new ≡ floors_of old ++ floor ∷ []
  pub bases : bases_of new ≡ bases_of old ++ length new.terms ∷ []
  pub cells : Grows old.terms new.terms

-- another visit only adds cells
pub record AddsCells (old new : Planned) : Type 0 where
  pub bases : bases_of new ≡ bases_of old
  pub floors : floors_of new ≡ floors_of old
  pub cells : Grows old.terms new.terms

-- what a step makes of the cells
abbrev pub StepCells : Planned → Option Step → Planned → Type 0
StepCells old None new = GivesBase old new
StepCells old (Some steps.Did) new = AddsFloor old new
StepCells old (Some steps.Plan) new = AddsCells old new
StepCells old (Some steps.Cut) new = AddsCells old new
StepCells old (Some (steps.Fault f)) new = AddsCells old new
StepCells old (Some steps.End) new = ⊥

-- going back drops the last floor, and the cells are cut to it
pub record DropsFloor (old new : Planned) : Type 0 where
  pub floor : ℕ
  pub floors : floors_of old ≡ floors_of new ++ floor ∷ []
  pub bases : bases_of old ≡ bases_of new ++ old.top.base ∷ []
  pub cells : new.terms ≡ take floor old.terms
