-- Places of atoms, and a table from an atom to its place.
use Rattle.std.specs.Prelude.{◌≡◌, ℕ, ◌-◌, ◌<◌, ◌^◌, List, Option, Some, None, min, length, slice_index_or, vec_capacity}
use Rattle.hp_world.specs.declared.places.Places.TheInside.{Inside}

-- places with their atoms, the bound of the atoms that the table has entries for, and the number of places that there
-- is room for
pub record Row : Type 0 where
  pub places : List (Option ℕ)
  pub width : ℕ
  pub room : ℕ

-- the atom stands nowhere
abbrev pub IsAbsent : ℕ → List (Option ℕ) → Type 0
IsAbsent a places = (i : ℕ) → slice_index_or places i None ≡ Some a → ⊥

-- the atom stands at this place, and at no other
pub record IsOnlyAt (a : ℕ) (places : List (Option ℕ)) (i : ℕ) : Type 0 where
  pub within : i < length places
  pub stands : slice_index_or places i None ≡ Some a
  pub only : (j : ℕ) → slice_index_or places j None ≡ Some a → j ≡ i

-- the table has a place for an atom exactly where the atom stands there
pub record IsIndex (table : List (Option ℕ)) (places : List (Option ℕ)) : Type 0 where
  pub found : (a i : ℕ) → slice_index_or table a None ≡ Some i → slice_index_or places i None ≡ Some a
  pub finds : (a i : ℕ) → slice_index_or places i None ≡ Some a → slice_index_or table a None ≡ Some i

-- the view of places
abbrev pub row_of : Inside → Row
row_of p = record {
  places = p.places.items;
  width = length p.table.items;
  room = min (vec_capacity p.places) (2 ^ 32 - 1);
}

-- the table of places follows them, and they have numbers of 32 bits
pub record IsIndexed (p : Inside) : Type 0 where
  pub index : IsIndex p.table.items p.places.items
  pub few : length p.places.items < 2 ^ 32
