-- Histories: the past before each change, and the present.
use Rattle.std.specs.Prelude.{ℕ, List, length, take, slice_index_or}
use Rattle.hp_world.specs.Trails.{pasts, Keeps}

-- the past before each change, oldest first, and the present
pub record History (S : Type 0) : Type 0 where
  pub past : List S
  pub now : S

-- the history by a trail of changes and the present
abbrev pub history : {C S : Type 0} → (C → S → S) → List C → S → History S
history undone trail s = record { past = pasts undone trail s; now = s }

-- the greatest mark: the number of changes that can be undone
abbrev pub mark_of : {S : Type 0} → History S → ℕ
mark_of h = length h.past

-- the past at a mark
abbrev pub past_at : {S : Type 0} → History S → ℕ → S
past_at h m = slice_index_or h.past m h.now

-- the past at a mark is the present, and the pasts before it are kept
abbrev pub undone_to : {S : Type 0} → ℕ → History S → History S
undone_to m h = record { past = take m h.past; now = past_at h m }

-- the pasts up to the old mark are kept, the old present at that mark
abbrev pub KeepsPasts : {S : Type 0} → History S → History S → Type 0
KeepsPasts old new = Keeps old.past old.now new.past new.now
