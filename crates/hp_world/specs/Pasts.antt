-- The atoms of pasts, and those that indexes have.
use Rattle.std.specs.Prelude.{◌≡◌, ℕ, ◌≤◌, Some, None, slice_get, slice_index_or}
use Rattle.hp_world.specs.Histories.{History, mark_of, past_at}
use Rattle.hp_world.specs.Keyed.{Keyed}
use Rattle.hp_world.specs.Stages.{Stage, AllBelow, live_atoms}

-- the atoms of the present and of all pasts are below a count
abbrev pub PastsBelow : ℕ → History Stage → Type 0
PastsBelow n h = (m : ℕ) → AllBelow n (live_atoms (past_at h m).places)

-- the atom stands at the place now, or stood there in a past
pub record Stood (h : History Stage) (place atom : ℕ) : Type 0 where
  pub mark : ℕ
  pub within : mark ≤ mark_of h
  pub there : slice_index_or (past_at h mark).places place None ≡ Some atom

-- the index has at each place no atom but one that stands there or stood there in a past
abbrev pub HasStood : History Stage → Keyed → Type 0
HasStood h p = (i a : ℕ) → slice_get p.atoms i ≡ Some a → Stood h i a
