-- Places by a part of their atoms.
use Rattle.std.specs.Prelude.{◌≡◌, ℕ, ◌+◌, ◌-◌, ◌<◌, ◌≤◌, min, List, [], ◌∷◌, ◌++◌, map, Option, Some, None, IfSome, length, take, slice_get, slice_index_or, vec_capacity}
use Rattle.hp_syntax.specs.Terms.{Term}
use Rattle.hp_chains.specs.Entries.{Entry, Bare, Standing, Loose, FitsBack, IsTakenOut, entry_at, new_entry, returned}
use Rattle.hp_world.specs.declared.part_index.PartIndex.TheInside.{Inside}
use Rattle.hp_world.specs.declared.part_index.Step.{Step}
use Rattle.hp_world.specs.declared.part_index.Step.TheVariants.{Out, Back, More, Fewer}
use Rattle.hp_world.specs.Parts.{IsKnownBy}
use Rattle.hp_world.specs.Stages.{AllBelow}

-- by place the atom that was put there, and its entry among those with the same part; the number of keys there may be,
-- of places that there is room for, and the keys that wait to be put behind the others
pub record Keyed : Type 0 where
  pub part : ℕ
  pub atoms : List ℕ
  pub entries : List Entry
  pub keys : ℕ
  pub room : ℕ
  pub waiting : List (Option ℕ)

-- the parts by which indexes have places, in order
abbrev pub parts_of : List Keyed → List ℕ
parts_of indexes = map (λ (p : Keyed). p.part) indexes

-- the view of an index
abbrev pub keyed_of : Inside → Keyed
keyed_of p = record {
  part = p.part;
  atoms = p.atoms.items;
  entries = p.chains.entries;
  keys = p.chains.keys;
  room = min (vec_capacity p.atoms) p.chains.room;
  waiting = p.waiting.items;
}

-- each place has an atom and an entry
abbrev pub AreAligned : Inside → Type 0
AreAligned p = length p.atoms.items ≡ length p.chains.entries

-- the key of an entry
abbrev pub key_of : Entry → Option ℕ
key_of Bare = None
key_of (Standing key) = Some key
key_of (Loose key previous next) = Some key

-- each atom is a cell and has the key by its part, where cells name these terms
abbrev pub KnowsParts : List Term → Keyed → Type 0
KnowsParts terms p =
    (i a : ℕ) → slice_get p.atoms i ≡ Some a → IsKnownBy terms p.part a (key_of (entry_at p.entries i))

-- each atom is below a count
abbrev pub AtomsBelow : ℕ → Keyed → Type 0
AtomsBelow n p = AllBelow n p.atoms

-- ---- steps

abbrev pub waiting_at : Keyed → ℕ → Option ℕ
waiting_at p n = slice_index_or p.waiting n None

-- the step may be taken: the place is there, fits back, or there is room for one more with a key that waits
abbrev pub Allows : Step → Keyed → Type 0
Allows (Out i) p = i < length p.entries
Allows (Back i) p = (i < length p.entries) × FitsBack p.keys p.entries i
Allows (More a n) p = (n < length p.waiting) × (length p.entries < p.room) × IfSome (waiting_at p n) (λ k. k < p.keys)
Allows Fewer p = Unit {0}

-- an index after a step
abbrev pub Steps : Step → Keyed → Keyed → Type 0
Steps (Out i) p q = IsTakenOut i p.entries q.entries × (q ≡ record p { entries = q.entries })
Steps (Back i) p q = q ≡ record p { entries = returned p.entries i }
Steps (More a n) p q =
    q ≡ record p { atoms = p.atoms ++ a ∷ []; entries = p.entries ++ new_entry (waiting_at p n) ∷ [] }
Steps Fewer p q =
    q ≡ record p { atoms = take (length p.atoms - 1) p.atoms; entries = take (length p.atoms - 1) p.entries }

-- ---- what is known

-- the atoms are cells, and the keys that wait for them are right, where cells name these terms
abbrev pub KeysRight : List Term → List ℕ → Keyed → Type 0
KeysRight terms atoms p = (n a : ℕ) → slice_get atoms n ≡ Some a → IsKnownBy terms p.part a (waiting_at p n)

-- an index after changes, of which so many add a place with one of these atoms: what was known of its atoms is known
-- still, where something is right of the keys that wait
pub record Learns (Right : List Term → Keyed → Type 0) (added : List ℕ) (most : ℕ) (p q : Keyed) : Type 0 where
  pub part : q.part ≡ p.part
  pub keys : q.keys ≡ p.keys
  pub room : q.room ≡ p.room
  pub waiting : q.waiting ≡ p.waiting
  pub longer : length q.entries ≤ length p.entries + most
  pub knows : (terms : List Term) → Right terms p → KnowsParts terms p → KnowsParts terms q
  pub below : (n : ℕ) → AllBelow n added → AtomsBelow n p → AtomsBelow n q

-- nothing is asked of the keys that wait
abbrev pub Nothing : List Term → Keyed → Type 0
Nothing terms p = Unit {0}

-- an atom is a cell, and the key that waits at a number is its
abbrev pub RightAt : ℕ → ℕ → List Term → Keyed → Type 0
RightAt a n terms p = IsKnownBy terms p.part a (waiting_at p n)

-- the atoms are cells, and the keys that wait are theirs
abbrev pub RightFor : List ℕ → List Term → Keyed → Type 0
RightFor atoms terms p = KeysRight terms atoms p

-- ---- room

-- the same atoms with the same entries, and no less room
pub record IsAsRoomy (old new : Keyed) : Type 0 where
  pub part : new.part ≡ old.part
  pub atoms : new.atoms ≡ old.atoms
  pub entries : new.entries ≡ old.entries
  pub keys : old.keys ≤ new.keys
  pub room : old.room ≤ new.room

-- there is room for so many atoms more, and so many keys wait
pub record HasWaiting (count more : ℕ) (p : Keyed) : Type 0 where
  pub room : length p.entries + more ≤ p.room
  pub number : length p.waiting ≡ count
  pub below : (n : ℕ) → IfSome (waiting_at p n) (λ k. k < p.keys)

-- there is room for atoms, whose keys wait
pub record Awaits (terms : List Term) (atoms : List ℕ) (p : Keyed) : Type 0 where
  pub waits : HasWaiting (length atoms) (length atoms) p
  pub right : KeysRight terms atoms p
