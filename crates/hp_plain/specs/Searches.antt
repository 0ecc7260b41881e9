-- The place of a search, and its invariant.
use Rattle.std.specs.Prelude.{◌≡◌, ℕ, ◌+◌, ◌-◌, ◌^◌, min, true, false, List, [], ◌∷◌, ◌++◌, length, map, reverse, Option, Some, None, option_map}
use Rattle.std.specs.List.{All}
use Rattle.hp_syntax.specs.Checks.{HasFewVariables}
use Rattle.hp_syntax.specs.Syntax.{Rule}
use Rattle.hp_syntax.specs.Terms.{Term}
use Rattle.hp_syntax.specs.Views.{domain_of}
use Rattle.hp_syntax.specs.Walk.{Node, visits, told}
use Rattle.hp_net.specs.declared.walk.Step.{Step}
use Rattle.hp_net.specs.Standings.{Tree, Standing, standing, next_below, step_of, stepped}
use Rattle.hp_net.specs.declared.walk.Step.TheVariants as steps
use Rattle.hp_tree.specs.Stacks.{Level, Stack, path_to, tree_of, standing_of, IsStack}
use Rattle.hp_plain.specs.declared.candidate.Child.TheVariants as children
use Rattle.hp_plain.specs.declared.frame.Frame.{Frame}
use Rattle.hp_plain.specs.declared.frame.Successor as made
use Rattle.hp_plain.specs.declared.frame.Successor.TheVariants as nexts
use Rattle.hp_plain.specs.declared.search.Search.{Search}
use Rattle.hp_plain.specs.declared.search_node.SearchNode.{SearchNode}
use Rattle.hp_plain.specs.Frames.{level_of, IsFrame, Opens}
use Rattle.hp_plain.specs.SearchNodes.{IsSearchNode}

abbrev pub rules_in_search : Search → List Rule
rules_in_search s = (domain_of s.book.domain.now).rules

-- the levels of frames, of which the last is the nearest
abbrev pub levels_of : List Rule → ℕ → List Term → List Frame → List Level
levels_of rules nest terms fs = reverse (map (level_of rules nest terms) fs)

-- where a search stands, told by the successors that are left at each level
abbrev pub stack_of : Search → Stack
stack_of s = record {
  top = level_of (rules_in_search s) s.nest s.cells s.top;
  above = levels_of (rules_in_search s) s.nest s.cells s.above.items;
  at_did = s.at_did;
  over = s.over;
}

abbrev pub tree_in : Search → Tree
tree_in s = tree_of (rules_in_search s) s.nest (stack_of s)

abbrev pub stands_in : Search → Standing
stands_in s = standing_of (rules_in_search s) s.nest (stack_of s)

-- the frames are frames, they are the way to where the search stands, and its path is told
pub record IsSearch (s : Search) : Type 0 where
  pub top : IsFrame (rules_in_search s) s.nest s.cells s.top
  pub above : All (IsFrame (rules_in_search s) s.nest s.cells) s.above.items
  pub stack : IsStack (rules_in_search s) s.nest (stack_of s)
  pub path : s.path.items ≡ told (path_to (rules_in_search s) s.nest (stack_of s).above)
  pub few : All HasFewVariables (rules_in_search s)

-- a step of a search answers and leads as one of its tree does
pub record Moves (old : Search) (o : Option Step) (new : Search) : Type 0 where
  pub answer : o ≡ option_map step_of (next_below (stands_in old).path (stands_in old).rest)
  pub stands : stands_in new ≡ stepped (stands_in old)
  pub search : IsSearch new

-- going somewhere from a search, which stands elsewhere then
pub record Goes (old : Search) (to : Standing) (new : Search) : Type 0 where
  pub stands : stands_in new ≡ to
  pub tree : tree_in new ≡ tree_in old
  pub search : IsSearch new

-- ---- taking a successor

-- the search went down to a node, the next successor
pub record IsEntered (old : Search) (node : SearchNode) (new : Search) : Type 0 where
  pub top : (terms : List Term) → IsSearchNode (length terms) node
      → Opens (rules_in_search old) old.nest terms node new.top
  pub above : new.above.items ≡ old.above.items ++ record old.top { dids = min (old.top.dids + 1) (2 ^ 64 - 1) } ∷ []
  pub path : new.path.items ≡ old.path.items ++ old.top.dids ∷ []
  pub same : new ≡ record old { top = new.top; above = new.above; path = new.path; at_did = true }

-- the next successor, if there is one, was taken, and answered so
abbrev pub IsTaken : Search → Option made.Successor → Option Step → Search → Type 0
IsTaken old None o new = (o ≡ None) × (new ≡ record old { at_did = false })
IsTaken old (Some nexts.Plan) o new = (o ≡ Some steps.Plan) × (new ≡ record old { at_did = false })
IsTaken old (Some (nexts.Child children.Cut)) o new = (o ≡ Some steps.Cut) × (new ≡ record old { at_did = false })
IsTaken old (Some (nexts.Child (children.Fault f))) o new =
    (o ≡ Some (steps.Fault f)) × (new ≡ record old { at_did = false; over = true })
IsTaken old (Some (nexts.Child (children.Did node))) o new = (o ≡ Some steps.Did) × IsEntered old node new

-- ---- beginning

-- a search stands at the root of a tree, and all its visits are left
pub record BeginsAt (rules : List Rule) (nest : ℕ) (n : Node) (s : Search) : Type 0 where
  pub tree : tree_in s ≡ record { rules = rules; nest = nest; root = n }
  pub stands : stands_in s ≡ standing [] (visits rules nest n []) false
  pub search : IsSearch s
