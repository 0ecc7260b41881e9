-- The view of a plain walk.
use Rattle.std.specs.Prelude.{◌≡◌, ℕ, Bool, true, List}
use Rattle.hp_syntax.specs.Syntax.{Rule}
use Rattle.hp_syntax.specs.Terms.{Term}
use Rattle.hp_syntax.specs.Views.{domain_of}
use Rattle.hp_syntax.specs.declared.domain.Domain.{Domain}
use Rattle.hp_net.specs.Standings.{Tree, Standing}
use Rattle.hp_tree.specs.Stacks.{Stack, tree_of, standing_of}
use Rattle.hp_plain.specs.declared.frame.Frame.{Frame}
use Rattle.hp_plain.specs.declared.search.Search.{Search}
use Rattle.hp_plain.specs.Frames.{level_of}
use Rattle.hp_plain.specs.Searches.{levels_of, IsSearch}

-- the domain and the number of axiom levels; the terms that cells name; the nodes above the one reached, and
-- that one; whether the last call answered a Did, whether one answered a fault, and whether none has failed
pub record Walked : Type 0 where
  pub domain : Domain
  pub nest : ℕ
  pub terms : List Term
  pub above : List Frame
  pub top : Frame
  pub at_did : Bool
  pub over : Bool
  pub live : Bool

abbrev pub walked : Search → Bool → Walked
walked s live = record {
  domain = s.book.domain.now;
  nest = s.nest;
  terms = s.cells;
  above = s.above.items;
  top = s.top;
  at_did = s.at_did;
  over = s.over;
  live = live;
}

abbrev pub rules_walked : Walked → List Rule
rules_walked w = (domain_of w.domain).rules

-- where a walk stands, told by the successors that are left at each level
abbrev pub stack_walked : Walked → Stack
stack_walked w = record {
  top = level_of (rules_walked w) w.nest w.terms w.top;
  above = levels_of (rules_walked w) w.nest w.terms w.above;
  at_did = w.at_did;
  over = w.over;
}

abbrev pub tree_walked : Walked → Tree
tree_walked w = tree_of (rules_walked w) w.nest (stack_walked w)

abbrev pub stands_walked : Walked → Standing
stands_walked w = standing_of (rules_walked w) w.nest (stack_walked w)

-- until a call fails, the search is one
abbrev pub IsWalked : Search → Bool → Type 0
IsWalked s live = live ≡ true → IsSearch s
