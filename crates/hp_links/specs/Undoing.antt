-- The histories of networks in place, and trails that can be undone.
use Rattle.std.specs.Prelude.{◌≡◌, ℕ, ◌+◌, ◌<◌, ◌≤◌, List, [], ◌∷◌, length, take, Option, Some, None, IfSome, Contains, slice_get, slice_set, vec_len}
use Rattle.hp_world.specs.Histories.{History, history, undone_to}
use Rattle.hp_world.specs.Trails.{IsUndoable}
use Rattle.hp_links.specs.declared.links.Part.{Part}
use Rattle.hp_links.specs.declared.links.Part.TheVariants.{Task, Row}
use Rattle.hp_links.specs.declared.undo.Turn.{Turn}
use Rattle.hp_links.specs.declared.undo.Change.{Change}
use Rattle.hp_links.specs.declared.store.Store.{Store}
use Rattle.hp_links.specs.Changing.{IsSpan, IsFirstFrom, IsSlotOf, other_of, put_at, root_after}
use Rattle.hp_links.specs.declared.links.Span.{Span}
use Rattle.hp_links.specs.Frames.{Frame, frame_of, IsWhole}
use Rattle.hp_links.specs.Labelled.{Tree, Gone, IsNormal, AreApart, numbers, number_of, front_of, replaced}
use Rattle.hp_links.specs.declared.entry.Entry.{Entry}
use Rattle.hp_links.specs.Planted.{trees_at}
use Rattle.hp_links.specs.Linked.{Linked, whole}
use Rattle.hp_links.specs.Turning.{turned_left}

abbrev pub turned_back : Option Turn → List ℕ → List ℕ
turned_back None rows = rows
turned_back (Some t) rows = turned_left t.start t.end rows

-- with what stood at a place
abbrev pub put_back : {A : Type 0} → Option (ℕ × A) → List A → List A
put_back None xs = xs
put_back (Some w) xs = slice_set xs w.0 w.1

-- parts with the row of a list as it was
abbrev pub longer : Turn → Option Part → List Part → List Part
longer t None ps = ps
longer t (Some (Task cell immediate)) ps = ps
longer t (Some (Row order start many)) ps = slice_set ps t.list (Row order t.start t.many)

abbrev pub lengthened : Option Turn → List Part → List Part
lengthened None ps = ps
lengthened (Some t) ps = longer t (slice_get ps t.list) ps

-- the network before a change
abbrev pub undone : Change → Linked → Linked
undone t s = record {
  parts = lengthened t.turn (take t.parts s.parts);
  owners = put_back t.owner (take t.parts s.owners);
  rows = turned_back t.turn (put_back t.place (take t.rows s.rows));
  root = t.root;
  focus = t.focus;
  front = t.front;
}

abbrev pub IsWithin : {A : Type 0} → ℕ → Option (ℕ × A) → Type 0
IsWithin n None = Unit {0}
IsWithin n (Some w) = w.0 < n

abbrev pub TurnsWithin : ℕ → ℕ → Option Turn → Type 0
TurnsWithin parts rows None = Unit {0}
TurnsWithin parts rows (Some t) = (t.list < parts) × (t.start ≤ t.end) × (t.end < rows)

-- the change can be undone
pub record Fits (t : Change) (s : Linked) : Type 0 where
  pub owner : IsWithin (length (take t.parts s.owners)) t.owner
  pub place : IsWithin (length (take t.rows s.rows)) t.place
  pub turn : TurnsWithin (length (take t.parts s.parts)) (length (take t.rows s.rows)) t.turn

-- the network stands in its parts, in normal form and each number once; the focus is on a part of it, and the front is
-- the part below which all first tasks stand
pub record IsStage (s : Linked) : Type 0 where
  pub owners : length s.owners ≡ length s.parts
  pub stands : IsWhole (frame_of s) s.root (whole s)
  pub normal : IsNormal (whole s)
  pub apart : AreApart (numbers (whole s))
  pub focus : IfSome s.focus (λ f. Contains (numbers (whole s)) f)
  pub front : s.front ≡ front_of (whole s)

-- the network in a store
abbrev pub stage_of : Store → Linked
stage_of s = record {
  parts = s.links.parts.items;
  owners = s.links.owners.items;
  rows = s.links.rows.items;
  root = s.root;
  focus = s.focus;
  front = s.front;
}

-- the history of a store
abbrev pub history_of : Store → History Linked
history_of s = history undone s.trail.items (stage_of s)

-- each change on the trail can be undone where it is, and each past is sound
abbrev pub IsSound : Store → Type 0
IsSound s = IsUndoable undone Fits IsStage s.trail.items (stage_of s)

-- the last change was undone
pub record Undoes (old new : Store) : Type 0 where
  pub sound : IsSound new
  pub fewer : vec_len new.trail + 1 ≡ vec_len old.trail
  pub back : (m : ℕ) → m < vec_len old.trail → undone_to m (history_of new) ≡ undone_to m (history_of old)

-- a change that wrote over nothing yet
abbrev pub saved : Linked → Change
saved s = record {
  parts = length s.parts;
  rows = length s.rows;
  root = s.root;
  focus = s.focus;
  front = s.front;
  owner = None;
  place = None;
  turn = None;
}

-- one change was made: undoing takes it back, and the network is sound and this one, with this focus
pub record Steps (t : Change) (tree : Tree) (f : Option ℕ) (old new : Linked) : Type 0 where
  pub back : undone t new ≡ old
  pub fits : Fits t new
  pub stage : IsStage new
  pub whole : whole new ≡ tree
  pub focus : new.focus ≡ f

-- ---- parts in other places

-- a part in the place of another one
abbrev pub put_to : ℕ → Option ℕ → Option ℕ → Linked → Linked
put_to x o slot s = record {
  parts = s.parts;
  owners = slice_set s.owners x o;
  rows = put_at slot x s.rows;
  root = root_after slot x s.root;
  focus = s.focus;
  front = s.front;
}

-- what stood at a place
abbrev pub was_at : ℕ → Option ℕ → Option (ℕ × ℕ)
was_at y None = None
was_at y (Some place) = Some (place, y)

-- a part was put in the place of another, which stood there
pub record Puts (x y : ℕ) (was : Option (ℕ × ℕ)) (old new : Linked) : Type 0 where
  pub owner : Option ℕ
  pub slot : Option ℕ
  pub own : slice_get old.owners y ≡ Some owner
  pub at : IsSlotOf (frame_of old) owner y slot
  pub is : new ≡ put_to x owner slot old
  pub wrote : was ≡ was_at y slot

-- a list has two parts, of which one is the task, and the other one is this
pub record LeavesOne (f : Frame) (x list rest : ℕ) : Type 0 where
  pub span : Span
  pub is : IsSpan f list span
  pub two : span.many ≡ 2
  pub place : ℕ
  pub first : IsFirstFrom f.rows span.start x place
  pub read : slice_get f.rows (other_of span.start place) ≡ Some rest

-- the whole network went, and what it was is told
pub record IsCleared (t : Change) (old new : Linked) : Type 0 where
  pub change : t ≡ saved old
  pub is : new ≡ record {
    parts = old.parts;
    owners = old.owners;
    rows = old.rows;
    root = None;
    focus = None;
    front = None;
  }

-- the tree of some entries stands in the place of a task, behind all other parts, and has the focus
pub record Grafts (es : List Entry) (x : ℕ) (t : Change) (old new : Linked) : Type 0 where
  pub tree : Tree
  pub is : trees_at (length old.parts) es ≡ tree ∷ []
  pub normal : IsNormal tree
  pub number : number_of tree ≡ Some (length old.parts)
  pub fresh : (y : ℕ) → Contains (numbers (whole old)) y → Contains (numbers tree) y → ⊥
  pub steps : Steps t (replaced x tree (whole old)) (Some (length old.parts)) old new

-- the number of the first entry, if there is one
abbrev pub first_of_entries : List Entry → Option ℕ
first_of_entries [] = None
first_of_entries (e ∷ es) = Some 0

-- the network is that of entries, in which nothing was done yet
pub record Starts (es : List Entry) (s : Linked) : Type 0 where
  pub stage : IsStage s
  pub none : es ≡ [] → whole s ≡ Gone
  pub one : (t : Tree) → trees_at 0 es ≡ t ∷ [] → whole s ≡ t
  pub focus : s.focus ≡ None
