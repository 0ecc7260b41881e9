-- The reading of a text by a grammar.
use Rattle.std.specs.Prelude.{◌≡◌, ℕ, List, length, Result, Ok}
use Rattle.hp_syntax.specs.Forest.{Forest, IsForest}
use Rattle.hp_syntax.specs.Steps.{Misform}

-- a grammar says what the forest of a text of this length is the form of
abbrev pub Form : Type 0 → Type 0
Form A = ℕ → Forest → Result A Misform

-- the text spells a forest, whose form this is
pub record IsRead {A : Type 0} (form : Form A) (text : List ℕ) (x : A) : Type 0 where
  pub forest : Forest
  pub spelled : IsForest text forest
  pub form_is : form (length text) forest ≡ Ok x
