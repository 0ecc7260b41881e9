-- Lists up to an element.
use Rattle.std.specs.Prelude.{Bool, cond, List, [], ◌∷◌}

-- a list up to and including its first element of a kind
abbrev pub up_to : {A : Type 0} → (A → Bool) → List A → List A
up_to is_last [] = []
up_to is_last (x ∷ xs) = x ∷ cond (is_last x) [] (up_to is_last xs)
