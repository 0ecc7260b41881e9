-- The word `call` in a text elsewhere than at the head of a list.
use Rattle.std.specs.Prelude.{Bool, false, ◌||◌, bytes_eq, codes}
use Rattle.hp_syntax.specs.Forest.{Node, Word, Numeral, Group, Forest, Bare, Grow}

-- the word stands in a node elsewhere than at the head of a list
abbrev mutual
  pub stray_call : Node → Bool
  stray_call (Word s name) = bytes_eq name (codes "call")
  stray_call (Numeral s n) = false
  stray_call (Group s parts) = stray_call_in parts

  -- in a list, of which the first item is the head
  pub stray_call_in : Forest → Bool
  stray_call_in Bare = false
  stray_call_in (Grow (Word s name) rest) = stray_calls rest
  stray_call_in (Grow (Numeral s n) rest) = stray_calls rest
  stray_call_in (Grow (Group s parts) rest) = stray_call_in parts || stray_calls rest

  -- in one of these nodes, none of which is a head
  pub stray_calls : Forest → Bool
  stray_calls Bare = false
  stray_calls (Grow n rest) = stray_call n || stray_calls rest
