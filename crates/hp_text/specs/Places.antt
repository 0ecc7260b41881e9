-- Places of a text at which a reader stands, and what it has read up to there.
use Rattle.std.specs.Prelude.{◌≡◌, ℕ, ◌<◌, ◌≤◌, false, List, [], ◌∷◌, length}
use Rattle.hp_syntax.specs.Text.{Blank, NameByte, in_comment, kind_at, IsOutside}
use Rattle.hp_syntax.specs.Refusal.{open_before}
use Rattle.hp_syntax.specs.Forest as plain
use Rattle.hp_syntax.specs.Forest.{span_of, Spells, SpellsNode}
use Rattle.hp_text.specs.declared.forest.Node.{Node}
use Rattle.hp_text.specs.Nodes.{node_of}

-- a place where no token goes on, and no comment unless the text ends
pub record IsBetween (text : List ℕ) (at' : ℕ) : Type 0 where
  pub within : at' ≤ length text
  pub begins : kind_at text at' ≡ NameByte → IsOutside text at'
  pub quiet : at' < length text → in_comment text at' ≡ false

-- a place where neither a token nor a gap goes on
pub record IsStop (text : List ℕ) (at' : ℕ) : Type 0 where
  pub within : at' ≤ length text
  pub begins : kind_at text at' ≡ NameByte → IsOutside text at'
  pub stops : kind_at text at' ≡ Blank → ⊥

-- a node that was read at a place
pub record IsNodeAt (text : List ℕ) (from : ℕ) (n : Node) : Type 0 where
  pub span : n.span ≡ span_of (node_of n)
  pub begins : n.span.from ≡ from
  pub grows : from < n.span.to
  pub spelled : SpellsNode text (node_of n)
  pub brackets : open_before text n.span.to ≡ open_before text from
  pub place : IsBetween text n.span.to

-- the nodes, and then those of a forest
abbrev pub joined : List plain.Node → plain.Forest → plain.Forest
joined [] g = g
joined (n ∷ ns) g = plain.Grow n (joined ns g)

-- nodes that were read between two places: any forest that is spelled from there on goes on with them
pub record AreRead (text : List ℕ) (from to : ℕ) (ns : List plain.Node) : Type 0 where
  pub order : from ≤ to
  pub spelled : (end : ℕ) (g : plain.Forest) → Spells text to end g → Spells text from end (joined ns g)
  pub brackets : open_before text to ≡ open_before text from
