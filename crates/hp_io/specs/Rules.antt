-- The effects of reads and writes on the bytes that folders and sinks tell, and their faults.
use Rattle.std.specs.Prelude.{◌≡◌, ℕ, ◌+◌, ◌-◌, ◌^◌, ◌<◌, ◌≤◌, min, List, [], ◌++◌, take, Option, Some, None}

-- one more, where the count doesn't stand at its end
abbrev pub risen : ℕ → ℕ
risen before = min (before + 1) (2 ^ 64 - 1)

-- the count rose, or stands at its end
abbrev pub Rose : ℕ → ℕ → Type 0
Rose before now = risen before ≤ now

-- a begun input has the file as its rest, where the file is told;
-- a file that is told to be missing isn't begun
abbrev pub Begins : Option (Option (List ℕ)) → Option (List ℕ) → Type 0
Begins None rest = Unit {0}
Begins (Some None) rest = ⊥
Begins (Some (Some bytes)) rest = rest ≡ Some bytes

-- n bytes at the front of a buffer with this room came from the front of the old rest,
-- and none only at its end
abbrev pub Taken : ℕ → ℕ → List ℕ → Option (List ℕ) → Option (List ℕ) → Type 0
Taken n room buf None new = new ≡ None
Taken n room buf (Some old) new =
    (rest : List ℕ) × (new ≡ Some rest) × (old ≡ take n buf ++ rest) × (n ≡ 0 → 0 < room → old ≡ [])

-- n bytes from the front of the piece were appended
abbrev pub Appended : ℕ → List ℕ → Option (List ℕ) → Option (List ℕ) → Type 0
Appended n piece None new = new ≡ None
Appended n piece (Some old) new = new ≡ Some (old ++ take n piece)
