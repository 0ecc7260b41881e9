-- The tree that calls explain.
use Rattle.hp_code.specs.CodeViews.{rules_in}
use Rattle.hp_code.specs.Codes.{code_of}
use Rattle.hp_net.specs.Standings.{Tree}
use Rattle.hp_syntax.specs.declared.limits.TheConstants.{USUAL_LEVELS}
use Rattle.hp_syntax.specs.Views.{pair_of}
use Rattle.hp_syntax.specs.Walk.{root}
use Rattle.hp_part_trials.specs.declared.both.loading.Loaded.{Loaded}

-- the tree of a pair that is loaded, with five decompositions at most
abbrev pub tree_tried : Loaded → Tree
tree_tried l = record { rules = rules_in (code_of l.code); nest = USUAL_LEVELS; root = root (pair_of l.pair) 5 }
