-- A sink before a sink: what it holds is written later.
use Rattle.std.specs.Prelude.{◌≡◌, ℕ, ◌-◌, ◌≤◌, List, ◌++◌, length, take, drop, Option, Some, None}
use Rattle.hp_out.specs.Writing.{Wrote}

-- all that a sink took, where it tells, and what stands before it and isn't written yet
abbrev pub laid : Option (List ℕ) → List ℕ → Option (List ℕ)
laid None rest = None
laid (Some taken) rest = Some (taken ++ rest)

-- bytes with their beginning replaced by as many others
abbrev pub begun_by : Option (List ℕ) → Option (List ℕ) → Option (List ℕ)
begun_by None new = None
begun_by (Some old) None = Some old
begun_by (Some old) (Some new) = Some (old ++ drop (length old) new)

-- all that a sink had taken is the beginning of what it has
abbrev pub IsGrown : Option (List ℕ) → Option (List ℕ) → Type 0
IsGrown old new = new ≡ begun_by old new

-- of what stands on a page from one place on, a sink took the bytes up to another
pub record WroteUpTo (page : List ℕ) (from to : ℕ) (old new : Option (List ℕ)) : Type 0 where
  pub later : from ≤ to
  pub within : to ≤ length page
  pub wrote : Wrote (take (to - from) (drop from page)) old new
