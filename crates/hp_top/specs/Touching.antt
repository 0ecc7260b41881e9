-- The effects of a run on the inputs of a folder.
use Rattle.std.specs.Prelude.{◌≡◌, ◌⊎◌, ℕ, ◌+◌, ◌≤◌, Bool, true, List, drop, Option, Some, None}
use Rattle.hp_io.specs.declared.folder.Input.{Input}
use Rattle.hp_syntax.specs.declared.limits.TheConstants.{LARGEST_TEXT}
use Rattle.hp_words.specs.Command.{Request, accepts, file_named}
use Rattle.hp_top.specs.Loading.{ToldFile}

-- the run of an input through a call: whether it was begun, and its bytes that are left, before and after
pub record InputRun : Type 0 where
  pub begun_before : Bool
  pub begun_after : Bool
  pub before : Option (List ℕ)
  pub after : Option (List ℕ)

abbrev pub input_run : Bool → Bool → Option (List ℕ) → Option (List ℕ) → InputRun
input_run b c old new = record { begun_before = b; begun_after = c; before = old; after = new }

-- the input is as it was
pub record IsUntouched (r : InputRun) : Type 0 where
  pub begun : r.begun_after ≡ r.begun_before
  pub rest : r.after ≡ r.before

-- the rest of a told file of which at most one byte more than the longest text was read;
-- one that is told to be missing can't be read
abbrev pub IsLeft : ToldFile → Option (List ℕ) → Type 0
IsLeft None rest = Unit {0}
IsLeft (Some None) rest = ⊥
IsLeft (Some (Some text)) rest = (n : ℕ) × (n ≤ LARGEST_TEXT + 1) × (rest ≡ Some (drop n text))

-- the input was begun by this file, and read no further than it may be
pub record WasRead (file : ToldFile) (r : InputRun) : Type 0 where
  pub begun : r.begun_after ≡ true
  pub rest : IsLeft file r.after

abbrev pub Touches : ToldFile → InputRun → Type 0
Touches file r = IsUntouched r ⊎ WasRead file r

-- an input that has a name is touched by the file of that name, and one that has none isn't
abbrev pub TouchesBy : (List ℕ → ToldFile) → Option (List ℕ) → InputRun → Type 0
TouchesBy file None r = IsUntouched r
TouchesBy file (Some name) r = Touches (file name) r

-- the words are a command that names a file for the input, which was read
pub record IsNamed (words : List (List ℕ)) (file : List ℕ → ToldFile) (which : Input)
    (r : InputRun) : Type 0 where
  pub request : Request
  pub accepted : accepts words ≡ Some request
  pub name : List ℕ
  pub has_name : file_named request which ≡ Some name
  pub read : WasRead (file name) r

-- the input is as it was, or it was read by the name that the words have for it
abbrev pub TouchesNamed : List (List ℕ) → (List ℕ → ToldFile) → Input → InputRun → Type 0
TouchesNamed words file which r = IsUntouched r ⊎ IsNamed words file which r
