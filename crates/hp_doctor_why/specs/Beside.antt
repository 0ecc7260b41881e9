-- What is said of a thing where another one stands beside it.
use Rattle.std.specs.Prelude.{ℕ, List, [], Option, Some, None}

abbrev pub beside_text : {A B : Type 0} → ((A × B) → List ℕ) → A → Option B → List ℕ
beside_text text x None = []
beside_text text x (Some y) = text (x, y)
