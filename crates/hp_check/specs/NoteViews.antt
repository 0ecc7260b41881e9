-- The notes that notes in memory stand for, and sets of names.
use Rattle.std.specs.Prelude.{◌≡◌, ℕ, Bool, List, ◌++◌, map, bytes_eq}
use Rattle.std.specs.List.{list_any, flat_map}
use Rattle.hp_syntax.specs.Notes as plain
use Rattle.hp_syntax.specs.Notes.{note_if_unserved}
use Rattle.hp_syntax.specs.Syntax.{Atom}
use Rattle.hp_check.specs.declared.Note.{Note}

abbrev pub note_of : Note → plain.Note
note_of n = record { name = n.name; span = n.span; in_problem = n.in_problem }

-- the same names, whatever their order
abbrev pub SameNames : List (List ℕ) → List (List ℕ) → Type 0
SameNames xs ys = (name : List ℕ) → list_any (bytes_eq name) xs ≡ list_any (bytes_eq name) ys

-- after some notes came those of these atoms, by the names that are served
abbrev pub Noted : List (List ℕ) → Bool → List Atom → List Note → List Note → Type 0
Noted names in_problem atoms old new =
    map note_of new ≡ map note_of old ++ flat_map (note_if_unserved names in_problem) atoms
