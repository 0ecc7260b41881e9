-- What is searched for a pair, as the code holds it.
use Rattle.std.specs.Prelude.{◌≡◌, ◌≤◌, true, []}
use Rattle.hp_code.specs.Codes.{code_of}
use Rattle.hp_code.specs.CodeViews.{IsCodeOf}
use Rattle.hp_net.specs.Standings.{Tree, tree_visits}
use Rattle.hp_search.specs.Planned.{Planned, stands_planned, tree_planned}
use Rattle.hp_syntax.specs.declared.limits.TheConstants.{GREATEST_DEPTH, MOST_LEVELS}
use Rattle.hp_syntax.specs.GroundPatterns.{IsGroundPair}
use Rattle.hp_syntax.specs.Views.{domain_of, pair_of}
use Rattle.hp_doctor_why.specs.declared.reasons.Search.{Search}
use Rattle.hp_doctor_why.specs.Reasons.{lowered_tree, tree_of}

-- the tree of the pair by the rules of the domain
abbrev pub tree_searched : Search → Tree
tree_searched s = tree_of (domain_of s.domain.now).rules (pair_of s.pair.now) s.depth s.nest

-- the code is the domain's, no variable and no call stands in the pair, and the numbers are within the limits
pub record CanSearch (s : Search) : Type 0 where
  pub code : IsCodeOf (domain_of s.domain.now).rules (code_of s.code.now)
  pub pair : IsGroundPair (pair_of s.pair.now)
  pub depth : s.depth ≤ GREATEST_DEPTH
  pub nest : s.nest ≤ MOST_LEVELS

-- a walk is one of the pair's tree, which has the same visits by the lowered rules
pub record IsWalkOf (s : Search) (w : Planned) : Type 0 where
  pub live : w.live ≡ true
  pub tree : tree_planned w ≡ lowered_tree (tree_searched s)

-- and all its visits are left
pub record IsFresh (s : Search) (w : Planned) : Type 0 where
  pub of : IsWalkOf s w
  pub rest : (stands_planned w).rest ≡ tree_visits (tree_planned w)
  pub at_root : (stands_planned w).path ≡ []
