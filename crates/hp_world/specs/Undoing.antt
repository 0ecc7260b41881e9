-- The histories of stores, and trails that can be undone.
use Rattle.std.specs.Prelude.{◌≡◌, ℕ, ◌+◌, ◌-◌, ◌<◌, ◌≤◌, List, length, take, Option, Some, None, slice_index_or, slice_set, vec_len, vec_capacity}
use Rattle.std.specs.List.{insert, All}
use Rattle.hp_world.specs.declared.store.Change.{Change}
use Rattle.hp_world.specs.declared.store.Change.TheVariants.{Deleted, Added, Cancelled, Protected}
use Rattle.hp_world.specs.declared.store.Store.{Store}
use Rattle.hp_world.specs.Histories.{History, history, KeepsPasts, undone_to}
use Rattle.hp_world.specs.Following.{Follows, Rejoins}
use Rattle.hp_world.specs.Indexed.{IsAbsent}
use Rattle.hp_world.specs.Keyed.{Keyed}
use Rattle.hp_world.specs.Pasts.{HasStood, PastsBelow}
use Rattle.hp_world.specs.Stages.{Stage, AllBelow, PlacesKept}
use Rattle.hp_world.specs.Trails.{IsUndoable}

-- all but the last
abbrev pub all_but_last : {A : Type 0} → List A → List A
all_but_last xs = take (length xs - 1) xs

-- the stage before a change
abbrev pub undone : Change → Stage → Stage
undone (Deleted i a) s = record { places = slice_set s.places i (Some a); guards = s.guards }
undone Added s = record { places = all_but_last s.places; guards = s.guards }
undone (Cancelled i a) s = record { places = s.places; guards = insert s.guards i a }
undone Protected s = record { places = s.places; guards = all_but_last s.guards }

-- the place is empty, the atom stands nowhere, and a table of this width has an entry for it
pub record IsVacant (width : ℕ) (places : List (Option ℕ)) (i a : ℕ) : Type 0 where
  pub place : i < length places
  pub empty : slice_index_or places i None ≡ None
  pub absent : IsAbsent a places
  pub within : a < width

-- the change can be undone in a table of this width and in this room for protections
abbrev pub Fits : ℕ → ℕ → Change → Stage → Type 0
Fits width room (Deleted i a) s = IsVacant width s.places i a
Fits width room Added s = Unit {0}
Fits width room (Cancelled i a) s = (i ≤ length s.guards) × (length s.guards < room)
Fits width room Protected s = Unit {0}

-- nothing is asked of a stage
abbrev pub IsAny : Stage → Type 0
IsAny s = Unit {0}

-- an index follows places, also where changes are undone, and has no atoms but those that stood there
pub record IsFollowed (s : Stage) (trail : List Change) (p : Keyed) : Type 0 where
  pub now : Follows p s.places
  pub back : IsUndoable undone (Rejoins p) IsAny trail s
  pub stood : HasStood (history undone trail s) p

-- the stage of a store
abbrev pub stage_of : Store → Stage
stage_of s = record { places = s.places.places; guards = s.guards.items }

-- the history of a store
abbrev pub history_of : Store → History Stage
history_of s = history undone s.trail.items (stage_of s)

-- each change on the trail can be undone where it is, in the table and the room that there are, and the indexes follow
pub record IsSound (s : Store) : Type 0 where
  pub undoable : IsUndoable undone (Fits s.places.width (vec_capacity s.guards)) IsAny s.trail.items (stage_of s)
  pub followed : All (IsFollowed (stage_of s) s.trail.items) s.parts.items

-- at most n changes were made, each on the trail, in the table and the room that there were; places were only emptied
-- or put behind the others, with some of these atoms
pub record Moves (n : ℕ) (added : List ℕ) (old new : Store) : Type 0 where
  pub keeps : KeepsPasts (history_of old) (history_of new)
  pub kept : PlacesKept old.places.places new.places.places
  pub below : (k : ℕ) → AllBelow k added → PastsBelow k (history_of old) → PastsBelow k (history_of new)
  pub sound : IsSound new
  pub count : vec_len new.trail ≤ vec_len old.trail + n
  pub trail_room : vec_capacity new.trail ≡ vec_capacity old.trail
  pub guards_room : vec_capacity new.guards ≡ vec_capacity old.guards
  pub places_room : new.places.room ≡ old.places.room
  pub width : new.places.width ≡ old.places.width

-- the last change was undone
pub record Undoes (old new : Store) : Type 0 where
  pub sound : IsSound new
  pub fewer : vec_len new.trail + 1 ≡ vec_len old.trail
  pub back : (m : ℕ) → m < vec_len old.trail → undone_to m (history_of new) ≡ undone_to m (history_of old)

-- there is room for so many changes and protections more, and for these atoms
pub record HasRoom (changes : ℕ) (atoms : List ℕ) (protections : ℕ) (s : Store) : Type 0 where
  pub trail : vec_len s.trail + changes ≤ vec_capacity s.trail
  pub guards : vec_len s.guards + protections ≤ vec_capacity s.guards
  pub places : length s.places.places + length atoms ≤ s.places.room
  pub table : AllBelow s.places.width atoms
