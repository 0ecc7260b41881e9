-- The files of a folder in memory, its inputs, and its calls that fail.
use Rattle.std.specs.Prelude.{◌≡◌, ℕ, ◌<◌, Bool, true, false, cond, List, [], ◌∷◌, length, take, drop, Option, Some, None, is_some, slice_get, bytes_eq, string_bytes}
use Rattle.hp_io.specs.declared.folder.Input.{Input}
use Rattle.hp_io.specs.declared.mem_folder.File.{File}
use Rattle.hp_io.specs.declared.mem_folder.Place.{Place}
use Rattle.hp_io.specs.declared.mem_folder.MemInput.{MemInput}
use Rattle.hp_io.specs.declared.mem_folder.MemFolder.{MemFolder}
use Rattle.hp_io.specs.Inputs.{by_input}
use Rattle.hp_io.specs.Schedules.{is_listed}

-- the file has this name
abbrev pub has_name : List ℕ → File → Bool
has_name n f = bytes_eq (string_bytes f.name) n

-- the bytes of the first file of that name
abbrev pub file_of : List File → List ℕ → Option (List ℕ)
file_of [] n = None
file_of (f ∷ fs) n = cond (has_name n f) (Some f.bytes.items) (file_of fs n)

-- there is a file here, and it has this name
abbrev pub is_named : List ℕ → Option File → Bool
is_named n None = false
is_named n (Some f) = has_name n f

-- the first file of that name stands at this index
abbrev pub IsFirst : List File → List ℕ → ℕ → Type 0
IsFirst fs n i = (i < length fs) × (file_of (take i fs) n ≡ None) × (is_named n (slice_get fs i) ≡ true)

-- the bytes of a file from an offset on
abbrev pub bytes_at : Option File → ℕ → List ℕ
bytes_at None at' = []
bytes_at (Some f) at' = drop at' f.bytes.items

-- the record of an input
abbrev pub input_of : MemFolder → Input → MemInput
input_of folder which = by_input which folder.domain folder.problem folder.plan

-- the bytes of the files from a place on
abbrev pub rest_from : List File → Option Place → Option (List ℕ)
rest_from fs None = None
rest_from fs (Some p) = Some (bytes_at (slice_get fs p.file) p.at)

-- the bytes of the file of that name, where there is one
abbrev pub contents : MemFolder → List ℕ → Option (List ℕ)
contents folder n = file_of folder.files.items n

-- the bytes of a begun input that are left to read
abbrev pub rest_of : MemFolder → Input → Option (List ℕ)
rest_of folder which = rest_from folder.files.items (input_of folder which).place

-- whether the input was begun
abbrev pub is_begun : MemFolder → Input → Bool
is_begun folder which = is_some (input_of folder which).place

-- how often a call for this input failed because its number was listed
abbrev pub faults_of : MemFolder → Input → ℕ
faults_of folder which = (input_of folder which).faults

-- the number of the next begin or read
abbrev pub next_call : MemFolder → ℕ
next_call folder = folder.schedule.next

-- the begin or read of this number is to fail
abbrev pub fails_at : MemFolder → ℕ → Bool
fails_at folder n = is_listed folder.schedule n

-- the next begin or read is to fail
abbrev pub next_fails : MemFolder → Bool
next_fails folder = fails_at folder (next_call folder)

-- an input is as it was
abbrev pub SameInput : MemFolder → MemFolder → Input → Type 0
SameInput old new which =
    (rest_of new which ≡ rest_of old which)
    × (is_begun new which ≡ is_begun old which)
    × (faults_of new which ≡ faults_of old which)
