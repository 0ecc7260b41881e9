-- The forest that a text spells.
use Rattle.std.specs.Prelude.{◌≡◌, ℕ, ◌+◌, ◌-◌, ◌≤◌, max, ℤ, List, length, slice_range}
use Rattle.hp_syntax.specs.declared.pattern.Span.{Span}
use Rattle.hp_syntax.specs.Text.{Opening, Closing, kind_at, IsToken, IsGap, Spelling, AName, ANumber, spelling_of}
use Rattle.hp_syntax.specs.Refusal.{IsClear}

-- a node is a name, a number or a list of nodes, and has the span of its bytes
mutual
  pub data Node : Type 0 where
    Word : (span : Span) → (name : List ℕ) → Node
    Numeral : (span : Span) → (n : ℤ) → Node
    Group : (span : Span) → (parts : Forest) → Node

  pub data Forest : Type 0 where
    Bare : Forest
    Grow : (first : Node) → (rest : Forest) → Forest

abbrev pub span_of : Node → Span
span_of (Word s name) = s
span_of (Numeral s n) = s
span_of (Group s parts) = s

-- the bytes of a span are a token, which spells this
pub record IsSpelled (text : List ℕ) (s : Span) (spelling : Spelling) : Type 0 where
  pub token : IsToken text s.from s.to
  pub spells : spelling_of (slice_range text s.from s.to) ≡ spelling

-- the text spells the node by the bytes of its span
abbrev mutual
  pub SpellsNode : List ℕ → Node → Type 0
  SpellsNode text (Word s name) = IsSpelled text s AName × (name ≡ slice_range text s.from s.to)
  SpellsNode text (Numeral s n) = IsSpelled text s (ANumber n)
  SpellsNode text (Group s parts) =
      (kind_at text s.from ≡ Opening) × (s.from + 2 ≤ s.to) × (kind_at text (s.to - 1) ≡ Closing)
      × Spells text (s.from + 1) (s.to - 1) parts

  -- between the two offsets the text spells the forest: gaps, with its nodes between them
  pub Spells : List ℕ → ℕ → ℕ → Forest → Type 0
  Spells text from to Bare = IsGap text from to
  Spells text from to (Grow n f) =
      IsGap text from (span_of n).from × SpellsNode text n × Spells text (span_of n).to to f

-- the whole text spells the forest, and nothing in it is refused
pub record IsForest (text : List ℕ) (f : Forest) : Type 0 where
  pub spelled : Spells text 0 (length text) f
  pub clear : IsClear text (length text + 1)

-- how deep the lists of a forest nest
abbrev mutual
  pub nesting_of_node : Node → ℕ
  nesting_of_node (Word s name) = 0
  nesting_of_node (Numeral s n) = 0
  nesting_of_node (Group s parts) = 1 + nesting parts

  pub nesting : Forest → ℕ
  nesting Bare = 0
  nesting (Grow n f) = max (nesting_of_node n) (nesting f)

-- how many bytes the longest token of a forest has
abbrev mutual
  pub longest_token_of_node : Node → ℕ
  longest_token_of_node (Word s name) = s.to - s.from
  longest_token_of_node (Numeral s n) = s.to - s.from
  longest_token_of_node (Group s parts) = longest_token parts

  pub longest_token : Forest → ℕ
  longest_token Bare = 0
  longest_token (Grow n f) = max (longest_token_of_node n) (longest_token f)
