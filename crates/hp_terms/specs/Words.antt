-- The word that a list begins with.
use Rattle.std.specs.Prelude.{ℕ, cond, List, Option, Some, None}
use Rattle.hp_syntax.specs.Forest.{Forest, Bare, Grow}
use Rattle.hp_syntax.specs.Steps.{is_word}

-- the nodes behind this word, where a list begins with it
abbrev pub behind : List ℕ → Forest → Option Forest
behind key Bare = None
behind key (Grow n rest) = cond (is_word key n) (Some rest) None
