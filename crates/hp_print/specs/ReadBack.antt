-- A text that is read as what was written.
use Rattle.std.specs.Prelude.{◌≡◌, ℕ, List}
use Rattle.hp_syntax.specs.TextForms.{Form, IsRead}

-- the text is read as a value that is this one up to spans
pub record ReadsBack {A : Type 0} (form : Form A) (unplaced : A → A) (text : List ℕ) (x : A) : Type 0 where
  pub value : A
  pub read : IsRead form text value
  pub same : unplaced value ≡ unplaced x
