-- The steps of a reader through a text, over brackets and nodes.
use Rattle.std.specs.Prelude.{◌≡◌, ℕ, ◌+◌, ◌-◌, ◌<◌, List, length}
use Rattle.hp_syntax.specs.Text.{Kind, kind_at, IsGap}
use Rattle.hp_syntax.specs.Refusal.{IsClear}
use Rattle.hp_syntax.specs.Forest.{Node, span_of, SpellsNode}
use Rattle.hp_text.specs.declared.stepping.NodeReader.{NodeReader}
use Rattle.hp_text.specs.Places.{IsBetween}

-- the text that is read
abbrev pub text_of : NodeReader → List ℕ
text_of r = r.bytes.now

-- the place at which the reader stands
abbrev pub place_of : NodeReader → ℕ
place_of r = r.at

-- nothing in the text is refused, and neither a token nor a comment goes on where the reader stands
pub record IsPlaced (r : NodeReader) : Type 0 where
  pub clear : IsClear (text_of r) (length (text_of r) + 1)
  pub between : IsBetween (text_of r) (place_of r)

-- behind a gap there is a bracket of this kind, and behind it the second place
pub record PassesBracket (kind : Kind) (text : List ℕ) (from to : ℕ) : Type 0 where
  pub grows : from < to
  pub gap : IsGap text from (to - 1)
  pub bracket : kind_at text (to - 1) ≡ kind

-- behind a gap the text spells the node, and behind it is the second place
pub record PassesNode (text : List ℕ) (from to : ℕ) (n : Node) : Type 0 where
  pub grows : from < to
  pub gap : IsGap text from (span_of n).from
  pub spelled : SpellsNode text n
  pub ends : (span_of n).to ≡ to
