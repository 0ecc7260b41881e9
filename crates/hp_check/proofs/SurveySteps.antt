-- Notes of the parts of a list, one after another.
use Rattle.std.proofs.Common.{◌≡◌, ℕ, ◌+◌, ◌<◌, ◌++◌, List, ◌∷◌, length, get_or, drop, ap, ◌∙◌}
use Rattle.std.specs.List.{flat_map}
use Rattle.std.proofs.lemmas.Grind.{flat_map-append}
use Rattle.hp_syntax.specs.Notes.{Note}
use Rattle.hp_syntax.specs.Syntax.{Atom}
use Rattle.hp_syntax.proofs.ListLemmas.{made_on}

-- the notes of one more part leave the whole, of the notes so far and those that are left, as it was
pub noted_on : {X : Type 0} (notes_on : Atom → List Note) (atoms : List X → List Atom) (part : X → List Atom)
    (xs : List X) (i : ℕ) (x : X) (old new whole : List Note)
    → ((y : X) (ys : List X) → atoms (y ∷ ys) ≡ part y ++ atoms ys) → i < length xs → x ≡ get_or xs i x
    → old ++ flat_map notes_on (atoms (drop i xs)) ≡ whole → new ≡ old ++ flat_map notes_on (part x)
    → new ++ flat_map notes_on (atoms (drop (i + 1) xs)) ≡ whole
noted_on notes_on atoms part xs i x old new whole step =
    made_on (λ ys. flat_map notes_on (atoms ys)) (λ y. flat_map notes_on (part y)) xs i x old new whole
    (λ y ys. ap (flat_map notes_on) (step y ys) ∙ flat_map-append notes_on (part y) (atoms ys))
