-- Places by key.
use Rattle.std.specs.Prelude.{◌≡◌, ℕ, ◌+◌, ◌<◌, ◌≤◌, List, Option, Some, None, slice_index_or, slice_set}

-- what is at a place: no key; a key, among the places of that key; or a key, taken out from among them, with the place
-- of that key before it and the one behind it when it was taken out
pub data Entry : Type 0 where
  Bare : Entry
  Standing : ℕ → Entry
  Loose : ℕ → Option ℕ → Option ℕ → Entry

-- the entry of a place, which has no key where there is none
abbrev pub entry_at : List Entry → ℕ → Entry
entry_at entries i = slice_index_or entries i Bare

-- the place stands among those of the key
abbrev pub StandsAt : ℕ → List Entry → ℕ → Type 0
StandsAt key entries i = entry_at entries i ≡ Standing key

-- an order, the other way round
abbrev pub Reversed : (ℕ → ℕ → Type 0) → ℕ → ℕ → Type 0
Reversed Before i j = Before j i

-- the first, by an order, of what stands on a side; none where nothing stands there
abbrev pub IsNearest : (ℕ → ℕ → Type 0) → (ℕ → Type 0) → (ℕ → Type 0) → Option ℕ → Type 0
IsNearest Before Side Stands None = (i : ℕ) → Side i → Stands i → ⊥
IsNearest Before Side Stands (Some i) = Side i × Stands i × ((j : ℕ) → Side j → Before j i → Stands j → ⊥)

-- the least place of the key from one on
abbrev pub IsNext : ℕ → List Entry → ℕ → Option ℕ → Type 0
IsNext key entries from = IsNearest ◌<◌ (λ i. from ≤ i) (StandsAt key entries)

-- the greatest place of the key before one
abbrev pub IsPrevious : ℕ → List Entry → ℕ → Option ℕ → Type 0
IsPrevious key entries before = IsNearest (Reversed ◌<◌) (λ i. i < before) (StandsAt key entries)

-- the places of the key next to one, before it and behind it
pub record AreNeighbours (key : ℕ) (entries : List Entry) (place : ℕ) (previous next : Option ℕ) : Type 0 where
  pub before : IsPrevious key entries place previous
  pub behind : IsNext key entries (place + 1) next

-- the entry of a place that is appended
abbrev pub new_entry : Option ℕ → Entry
new_entry None = Bare
new_entry (Some key) = Standing key

-- a place is taken out from among those of its key, and keeps its key and its neighbours; where it does not stand
-- among any, nothing changes
pub record IsTakenOut (place : ℕ) (entries rest : List Entry) : Type 0 where
  pub standing : (key : ℕ) → StandsAt key entries place
      → (previous next : Option ℕ) × AreNeighbours key entries place previous next
      × (rest ≡ slice_set entries place (Loose key previous next))
  pub other : ((key : ℕ) → StandsAt key entries place → ⊥) → rest ≡ entries

-- an entry may stand again at its place: where it was taken out, its key is one of so many, and the neighbours that it
-- kept are those that it has
abbrev pub MayReturn : ℕ → List Entry → ℕ → Entry → Type 0
MayReturn keys entries place Bare = Unit {0}
MayReturn keys entries place (Standing key) = Unit {0}
MayReturn keys entries place (Loose key previous next) = (key < keys) × AreNeighbours key entries place previous next

-- a place may be put back
abbrev pub FitsBack : ℕ → List Entry → ℕ → Type 0
FitsBack keys entries place = MayReturn keys entries place (entry_at entries place)

-- an entry that stands again
abbrev pub standing_again : Entry → Entry
standing_again Bare = Bare
standing_again (Standing key) = Standing key
standing_again (Loose key previous next) = Standing key

-- entries where a place is put back
abbrev pub returned : List Entry → ℕ → List Entry
returned entries place = slice_set entries place (standing_again (entry_at entries place))

-- the least place of the key from some place on that is not behind a given one
abbrev pub IsNear : ℕ → List Entry → ℕ → Option ℕ → Type 0
IsNear key entries from at = (begin : ℕ) × (begin ≤ from) × IsNext key entries begin at
