-- Texts that are written to a sink.
use Rattle.std.specs.Prelude.{◌≡◌, ℕ, ◌<◌, ◌≤◌, List, ◌++◌, length, take, Option, Some, None, Result, Ok, Err}

-- the run of a sink through a call: its count of faults, and all that it took, where it tells, before and after
pub record SinkRun : Type 0 where
  pub faults_before : ℕ
  pub faults_after : ℕ
  pub before : Option (List ℕ)
  pub after : Option (List ℕ)

abbrev pub sink_run : ℕ → ℕ → Option (List ℕ) → Option (List ℕ) → SinkRun
sink_run f g old new = record { faults_before = f; faults_after = g; before = old; after = new }

-- the whole text was appended
abbrev pub Wrote : List ℕ → Option (List ℕ) → Option (List ℕ) → Type 0
Wrote text None new = new ≡ None
Wrote text (Some old) new = new ≡ Some (old ++ text)

-- a prefix of the text was appended, maybe all of it
abbrev pub WrotePrefix : List ℕ → Option (List ℕ) → Option (List ℕ) → Type 0
WrotePrefix text None new = new ≡ None
WrotePrefix text (Some old) new = (n : ℕ) × (n ≤ length text) × (new ≡ Some (old ++ take n text))

-- a proper prefix of the text was appended
abbrev pub WroteProperPrefix : List ℕ → Option (List ℕ) → Option (List ℕ) → Type 0
WroteProperPrefix text None new = new ≡ None
WroteProperPrefix text (Some old) new = (n : ℕ) × (n < length text) × (new ≡ Some (old ++ take n text))

-- the whole text was appended, or, where writing failed, a proper prefix of it
abbrev pub Writes : {A E : Type 0} → Result A E → List ℕ → Option (List ℕ) → Option (List ℕ) → Type 0
Writes (Ok x) text old new = Wrote text old new
Writes (Err e) text old new = WroteProperPrefix text old new
