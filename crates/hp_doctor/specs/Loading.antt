-- What is read of the files.
use Rattle.std.specs.Prelude.{◌≡◌, ◌⊎◌, ℕ, ◌+◌, ◌≤◌, List, [], ◌++◌, length, take, Option, Some, None}
use Rattle.hp_io.specs.Rules.{Rose}
use Rattle.hp_syntax.specs.declared.limits.TheConstants.{LARGEST_TEXT}
use Rattle.hp_doctor.specs.Texts.{File}

-- the prefix of the rest, up to one byte past the limit
abbrev pub ReadsTo : ℕ → List ℕ → Option (List ℕ) → Type 0
ReadsTo most bytes None = length bytes ≤ most + 1
ReadsTo most bytes (Some rest) = bytes ≡ take (most + 1) rest

-- n bytes came from the front of the rest, and none only at its end
abbrev pub Grows : ℕ → List ℕ → List ℕ → Option (List ℕ) → Option (List ℕ) → Type 0
Grows n before after None new = new ≡ None
Grows n before after (Some old) new =
    (rest : List ℕ) × (piece : List ℕ) × (new ≡ Some rest) × (old ≡ piece ++ rest)
    × (after ≡ before ++ piece) × (n ≡ 0 → old ≡ [])

-- of a file that is told, as much is held as the planner reads, and of one that isn't there nothing
abbrev pub IsAsTold : List ℕ → Option (Option (List ℕ)) → Type 0
IsAsTold text None = Unit {0}
IsAsTold text (Some None) = ⊥
IsAsTold text (Some (Some bytes)) = text ≡ take (LARGEST_TEXT + 1) bytes

-- the text that is held of a file, by what is told of it and by the count of faults before and after; none is held
-- only where the file isn't there or the count rose
abbrev pub IsHeld : Option (Option (List ℕ)) → ℕ → ℕ → Option (List ℕ) → Type 0
IsHeld told before after None = (told ≡ Some None) ⊎ Rose before after
IsHeld told before after (Some text) = IsAsTold text told

-- the file of that name is held as it is told
pub record IsRead (name : List ℕ) (told : Option (Option (List ℕ))) (before after : ℕ) (f : File) : Type 0 where
  pub same : f.name ≡ name
  pub held : IsHeld told before after f.text

-- a plan's file is held where one is named
abbrev pub IsPlanRead : Option (List ℕ) → (List ℕ → Option (Option (List ℕ))) → ℕ → ℕ → Option File → Type 0
IsPlanRead None told before after f = f ≡ None
IsPlanRead (Some name) told before after None = ⊥
IsPlanRead (Some name) told before after (Some f) = IsRead name (told name) before after f
