-- Indexes that follow places, also where changes are undone.
use Rattle.std.specs.Prelude.{◌≡◌, ℕ, ◌+◌, ◌<◌, ◌≤◌, List, Option, Some, None, length, slice_get, slice_index_or}
use Rattle.hp_chains.specs.Entries.{Entry, Bare, Standing, Loose, StandsAt, Reversed, IsNearest, entry_at, standing_again}
use Rattle.hp_world.specs.declared.store.Change.{Change}
use Rattle.hp_world.specs.declared.store.Change.TheVariants.{Deleted, Added, Cancelled, Protected}
use Rattle.hp_world.specs.Keyed.{Keyed}
use Rattle.hp_world.specs.Stages.{Stage}

-- an atom is at the place, whose entry has this key
pub record HasKey (key : ℕ) (places : List (Option ℕ)) (entries : List Entry) (i : ℕ) : Type 0 where
  pub atom : ℕ
  pub here : slice_index_or places i None ≡ Some atom
  pub key_is : standing_again (entry_at entries i) ≡ Standing key

-- the entries stand where the places have atoms, each the atom that was put there
pub record Follows (p : Keyed) (places : List (Option ℕ)) : Type 0 where
  pub count : length p.entries ≡ length places
  pub aligned : length p.atoms ≡ length places
  pub here : (i a : ℕ) → slice_index_or places i None ≡ Some a
      → (slice_get p.atoms i ≡ Some a) × (standing_again (entry_at p.entries i) ≡ entry_at p.entries i)
  pub gone : (i key : ℕ) → slice_index_or places i None ≡ None → StandsAt key p.entries i → ⊥
  pub keys : (i key : ℕ) → standing_again (entry_at p.entries i) ≡ Standing key → key < p.keys

-- the neighbours of a place, among those of which something holds
pub record AreAround (Stands : ℕ → Type 0) (place : ℕ) (previous next : Option ℕ) : Type 0 where
  pub before : IsNearest (Reversed ◌<◌) (λ i. i < place) Stands previous
  pub behind : IsNearest ◌<◌ (λ i. place + 1 ≤ i) Stands next

-- the entry of a place keeps the neighbours that it has among places with atoms
abbrev pub KeepsNeighbours : List (Option ℕ) → List Entry → ℕ → Entry → Type 0
KeepsNeighbours places entries i Bare = Unit {0}
KeepsNeighbours places entries i (Standing key) = Unit {0}
KeepsNeighbours places entries i (Loose key previous next) = AreAround (HasKey key places entries) i previous next

-- the place of a deleted atom can be put back where the deletion is undone
abbrev pub Rejoins : Keyed → Change → Stage → Type 0
Rejoins p (Deleted i a) s = (slice_get p.atoms i ≡ Some a) × KeepsNeighbours s.places p.entries i (entry_at p.entries i)
Rejoins p Added s = Unit {0}
Rejoins p (Cancelled i a) s = Unit {0}
Rejoins p Protected s = Unit {0}
