-- The place of a search, and its invariant.
use Rattle.std.specs.Prelude.{◌≡◌, ℕ, ◌+◌, ◌-◌, ◌^◌, ◌<◌, ◌≤◌, min, true, false, List, [], ◌∷◌, ◌++◌, length, map}
use Rattle.std.specs.Prelude.{reverse, take, Option, Some, None, option_map}
use Rattle.std.specs.List.{All}
use Rattle.hp_syntax.specs.Syntax.{Rule}
use Rattle.hp_syntax.specs.Terms.{Term}
use Rattle.hp_syntax.specs.Walk.{Node, visits, told}
use Rattle.hp_net.specs.declared.walk.Step.{Step}
use Rattle.hp_net.specs.declared.walk.Step.TheVariants as steps
use Rattle.hp_net.specs.Standings.{Tree, Standing, standing, next_below, step_of, stepped}
use Rattle.hp_tree.specs.Stacks.{Level, Stack, path_to, tree_of, standing_of, IsStack}
use Rattle.hp_choice.specs.declared.choice.Given.TheVariants as given
use Rattle.hp_site.specs.declared.site.Site.{Site}
use Rattle.hp_world.specs.Histories.{undone_to}
use Rattle.hp_world.specs.Recorded.{IndexesStood, Knows, history_in}
use Rattle.hp_site.specs.Sites.{IsSite, Keeps, held_at, held_now, mark_now}
use Rattle.hp_agenda.specs.declared.frame.Frame.{Frame}
use Rattle.hp_agenda.specs.declared.frame.Successor as made
use Rattle.hp_agenda.specs.declared.frame.Successor.TheVariants as nexts
use Rattle.hp_agenda.specs.Begun.{HasLast}
use Rattle.hp_agenda.specs.Frames.{CameTo, IsFrame, LeadTo, Opens, level_of, rules_at}
use Rattle.hp_search.specs.declared.search.Search.{Search}

abbrev pub rules_in_search : Search → List Rule
rules_in_search s = rules_at s.site

-- the levels of frames, of which the last is the nearest
abbrev pub levels_of : Site → ℕ → List Term → List Frame → List Level
levels_of site nest terms fs = map (level_of site nest terms) (reverse fs)

-- where a search stands, told by the successors that are left at each level
abbrev pub stack_of : Search → Stack
stack_of s = record {
  top = level_of s.site s.nest s.cells s.top;
  above = levels_of s.site s.nest s.cells s.above.items;
  at_did = s.at_did;
  over = s.over;
}

abbrev pub tree_in : Search → Tree
tree_in s = tree_of (rules_in_search s) s.nest (stack_of s)

abbrev pub stands_in : Search → Standing
stands_in s = standing_of (rules_in_search s) s.nest (stack_of s)

-- the number of cells at which the root was reached, by the frames above one, the root first, and that one
abbrev pub root_base : Frame → List Frame → ℕ
root_base f [] = f.base
root_base f (g ∷ gs) = g.base

abbrev pub base_in : Search → ℕ
base_in s = root_base s.top s.above.items

-- a node was reached with some cell
abbrev pub HasCell : Frame → Type 0
HasCell f = 0 < f.base

-- the frames are the way to where the search stands: each is a moment of the site, the one reached is this one, each
-- below another is of the last child that was given there, and the path is told
pub record IsSearch (s : Search) : Type 0 where
  pub site : IsSite s.cells s.site
  pub mark : s.top.mark ≡ mark_now s.site
  pub top : IsFrame s.site s.nest s.cells (length s.cells) s.top
  pub above : LeadTo s.site s.nest s.cells s.top.mark s.top.base (reverse s.above.items)
  pub last : HasLast s.site.scene s.nest s.cells (held_at s.site s.top.mark) s.top.agenda []
  pub came : CameTo s.site s.nest s.cells s.top.mark (reverse s.above.items)
  pub some : HasCell s.top
  pub each : All HasCell s.above.items
  pub stack : IsStack (rules_in_search s) s.nest (stack_of s)
  pub path : s.path.items ≡ told (path_to (rules_in_search s) s.nest (stack_of s).above)
  pub levels : s.nest ≤ 128

-- a step of a search answers and leads as one of its tree does
pub record Moves (old : Search) (o : Option Step) (new : Search) : Type 0 where
  pub answer : o ≡ option_map step_of (next_below (stands_in old).path (stands_in old).rest)
  pub stands : stands_in new ≡ stepped (stands_in old)
  pub tree : tree_in new ≡ tree_in old
  pub base : base_in new ≡ base_in old
  pub search : IsSearch new

-- where nothing more comes at the root there are as many cells as when it was reached
abbrev pub GivesBack : Search → Option Step → Search → Type 0
GivesBack old o new = o ≡ None → (stands_in old).path ≡ [] → length new.cells ≡ base_in new

-- going somewhere from a search, which stands elsewhere then
pub record Goes (old : Search) (to : Standing) (new : Search) : Type 0 where
  pub stands : stands_in new ≡ to
  pub tree : tree_in new ≡ tree_in old
  pub base : base_in new ≡ base_in old
  pub search : IsSearch new

-- ---- taking a successor

-- a frame has let all its successors go
pub record IsCleared (old new : Frame) : Type 0 where
  pub mark : new.mark ≡ old.mark
  pub base : new.base ≡ old.base
  pub floor : new.floor ≡ old.floor
  pub dids : new.dids ≡ old.dids
  pub end : new.end ≡ None
  pub none : new.agenda.open ≡ None
  pub candidates : new.agenda.queue.candidates ≡ old.agenda.queue.candidates
  pub rules : new.agenda.queue.rules ≡ old.agenda.queue.rules
  pub at_end : length new.agenda.queue.candidates.items ≤ new.agenda.queue.at
  pub no_more : new.agenda.queue.more ≡ false

-- nothing more comes at the node reached, and the cells are those at which it was reached
pub record IsRested (old new : Search) : Type 0 where
  pub top : IsCleared old.top new.top
  pub same : new ≡ record old { top = new.top; cells = take old.top.base old.cells; at_did = false }

-- the search went back to the moment of a frame, and its cells to those before the terms of the child
pub record IsRisen (old : Search) (frame : Frame) (new : Search) : Type 0 where
  pub keeps : Keeps frame.mark old.site new.site
  pub mark : mark_now new.site ≡ frame.mark
  pub held : held_now new.site ≡ held_at old.site frame.mark
  pub history : history_in new.site.scene.world ≡ undone_to frame.mark.world (history_in old.site.scene.world)
  pub knows : (terms : List Term) → Knows terms old.site.scene.world → Knows terms new.site.scene.world
  pub stood : IndexesStood new.site.scene.world
  pub path : new.path.items ≡ take (length old.path.items - 1) old.path.items
  pub same : new ≡ record old {
    site = new.site;
    cells = take frame.floor old.cells;
    top = frame;
    path = new.path;
    at_did = false;
  }

-- the search went down to the search node in place, of which this many cells stood before its terms were made
pub record IsEntered (old : Search) (floor : ℕ) (new : Search) : Type 0 where
  pub top : (nest : ℕ) → Opens old.site nest old.cells new.top
  pub above : new.above.items
      ≡ old.above.items ++ record old.top { dids = min (old.top.dids + 1) (2 ^ 64 - 1); floor = floor } ∷ []
  pub path : new.path.items ≡ old.path.items ++ old.top.dids ∷ []
  pub same : new ≡ record old { top = new.top; above = new.above; path = new.path; at_did = true }

-- the next successor, if there is one, was taken, and answered so
abbrev pub IsTaken : Search → Option made.Successor → Option Step → Search → Type 0
IsTaken old None o new = (o ≡ None) × IsRested old new
IsTaken old (Some nexts.Plan) o new = (o ≡ Some steps.Plan) × (new ≡ record old { at_did = false })
IsTaken old (Some (nexts.Child given.Cut)) o new = (o ≡ Some steps.Cut) × (new ≡ record old { at_did = false })
IsTaken old (Some (nexts.Child (given.Fault f))) o new =
    (o ≡ Some (steps.Fault f)) × (new ≡ record old { at_did = false; over = true })
IsTaken old (Some (nexts.Child (given.Did floor))) o new = (o ≡ Some steps.Did) × IsEntered old floor new

-- ---- beginning

-- a search stands at the root of a tree, and all its visits are left
pub record BeginsAt (rules : List Rule) (nest : ℕ) (n : Node) (s : Search) : Type 0 where
  pub tree : tree_in s ≡ record { rules = rules; nest = nest; root = n }
  pub stands : stands_in s ≡ standing [] (visits rules nest n []) false
  pub search : IsSearch s
