-- Trees of numbers that stand.
use Rattle.std.proofs.Common.{◌≡◌, ℕ, ◌+◌, ◌<◌, ◌≤◌, Bool, length, Option, Some, None, refl, sym, ap, subst, ◌∙◌, arith}
use Rattle.std.specs.Prelude.{slice_get}
use Rattle.std.proofs.lemmas.Option.{same_Some, slice_get_within}
use Rattle.hp_links.specs.declared.links.Part.{Part}
use Rattle.hp_links.specs.declared.links.Part.TheVariants.{Task, Row}
use Rattle.hp_links.specs.declared.entry.Order.{Order}
use Rattle.hp_links.specs.declared.entry.Order.TheVariants.{Ordered, Unordered}
use Rattle.hp_links.specs.Frames.{Frame, frame_of, top, tops, StandFrom, Stands, AllStand, tree_at, IsHeld}
use Rattle.hp_links.specs.Fronts.{first_of}
use Rattle.hp_links.specs.Labelled.{Tree, Trees, Gone, Leaf, Branch, NoTree, With, count, IsFull, AreFull, front_of}
use Rattle.hp_links.specs.Linked.{Linked, tree_of}
use Rattle.hp_links.proofs.HangLemmas.{same_part}
use Rattle.hp_links.proofs.ShortenLemmas.{is_leaf}
use Rattle.hp_links.proofs.TreeLemmas.{tree_of-top}

-- the tree of a number is that of the same number in the network
pub tree_at-frame : (s : Linked) (k : ℕ) → tree_at (frame_of s) k ≡ tree_of s k
unfolding tree_at tree_of
tree_at-frame s k = refl

-- a tree that stands is that of its number
pub tree_at-top : (f : Frame) (p : Option ℕ) (t : Tree) → Stands f p t → tree_at f (top t) ≡ t
unfolding tree_at
tree_at-top f p t h =
    tree_of-top
    (record { parts = f.parts; owners = f.owners; rows = f.rows; root = None; focus = None; front = None }) p t h

-- a full tree that stands is held by its number
pub held : (f : Frame) (p : Option ℕ) (t : Tree) (k : ℕ) → Stands f p t → IsFull t → top t ≡ k → IsHeld f k
held f p t k h full e =
    let is : tree_at f k ≡ t = ap (tree_at f) (sym e) ∙ tree_at-top f p t h in
    record {
      list = p;
      stands = subst (Stands f p) (sym is) h;
      full = subst IsFull (sym is) full;
      top = ap top is ∙ e;
    }

-- a tree that stands has a part of its number
part_of : (f : Frame) (p : Option ℕ) (t : Tree) → Stands f p t → (q : Part) × (slice_get f.parts (top t) ≡ Some q)
part_of f p Gone h = absurd h
part_of f p (Leaf k cell immediate) h = (Task cell immediate, h.part)
part_of f p (Branch k order ts) h = (Row order h.0 (count ts), h.1.part)

-- the number of what is held has a part
pub held_within : (f : Frame) (k : ℕ) → IsHeld f k → k < length f.parts
held_within f k h =
    let q = part_of f h.list (tree_at f k) h.stands in
    slice_get_within f.parts k q.0 (ap (slice_get f.parts) (sym h.top) ∙ q.1)

-- a list that stands: its parts stand in its row, two or more
pub record HeldList (f : Frame) (k : ℕ) (o : Order) (start many : ℕ) (t : Tree) : Type 0 where
  pub parts : Trees
  pub is : t ≡ Branch k o parts
  pub as_many : many ≡ count parts
  pub row : StandFrom f.rows start (tops parts)
  pub stand : AllStand f k parts
  pub two : 2 ≤ count parts
  pub full : AreFull parts

-- a tree whose number is a list's is that list
pub held_list : (f : Frame) (p : Option ℕ) (t : Tree) (k start many : ℕ) (o : Order) → Stands f p t → IsFull t
    → top t ≡ k → slice_get f.parts k ≡ Some (Row o start many) → HeldList f k o start many t
held_list f p Gone k start many o h full e part = absurd h
held_list f p (Leaf j c i) k start many o h full e part =
    let same : Task c i ≡ Row o start many =
    same_part f k _ _ (ap (slice_get f.parts) (sym e) ∙ h.part) part in
    absurd cc
held_list f p (Branch j order ts) k start many o h full e part =
    let same : Row order h.0 (count ts) ≡ Row o start many =
    same_part f k _ _ (ap (slice_get f.parts) (sym e) ∙ h.1.part) part in
    let ordered : order ≡ o = cc in
    let begins : h.0 ≡ start = cc in
    let as_many : many ≡ count ts = cc in
    record {
      parts = ts;
      is = ap (λ n. Branch n order ts) e ∙ ap (λ q. Branch k q ts) ordered;
      as_many = as_many;
      row = subst (λ n. StandFrom f.rows n (tops ts)) begins h.2;
      stand = subst (λ (n : ℕ). AllStand f n ts) e h.3;
      two = full.0;
      full = full.1;
    }

-- a number that stands at a place is read there
row_first : (f : Frame) (start k : ℕ) (t : Tree) (ts : Trees) → StandFrom f.rows start (tops (With t ts))
    → slice_get f.rows start ≡ Some (top t)
row_first f start k t ts h = let e : start + 0 ≡ start = omega arith in
    ap (slice_get f.rows) (sym e) ∙ h.at 0 (omega arith)

-- the first part of an ordered list is the first in its row
pub first_read : (f : Frame) (k start many : ℕ) → IsHeld f k → slice_get f.parts k ≡ Some (Row Ordered start many)
    → first_of (tree_at f k) ≡ slice_get f.rows start
first_read f k start many h part =
    let r = held_list f h.list (tree_at f k) k start many Ordered h.stands h.full h.top part in
    ap first_of r.is ∙ by_parts r.parts r.two r.row
  where
    by_parts : (ts : Trees) → 2 ≤ count ts → StandFrom f.rows start (tops ts)
        → first_of (Branch k Ordered ts) ≡ slice_get f.rows start
    by_parts NoTree two row = absurd (omega arith)
    by_parts (With t ts) two row = sym (row_first f start k t ts row)

-- an unordered list has no first part
pub unordered_first : (f : Frame) (k start many : ℕ) → IsHeld f k
    → slice_get f.parts k ≡ Some (Row Unordered start many) → first_of (tree_at f k) ≡ None
unordered_first f k start many h part =
    ap first_of (held_list f h.list (tree_at f k) k start many Unordered h.stands h.full h.top part).is

-- a task has no first part
pub task_first : (f : Frame) (k cell : ℕ) (immediate : Bool) → IsHeld f k
    → slice_get f.parts k ≡ Some (Task cell immediate) → first_of (tree_at f k) ≡ None
task_first f k cell immediate h part =
    ap first_of (is_leaf f h.list (tree_at f k) k cell immediate h.stands h.top part)

-- the first part of an ordered list stands, and has the front of the list
first_stands : (f : Frame) (p : Option ℕ) (t : Tree) (j : ℕ) → Stands f p t → IsFull t → first_of t ≡ Some j
    → (u : Tree) × Stands f (Some (top t)) u × IsFull u × (top u ≡ j) × (top t < j) × (front_of t ≡ front_of u)
first_stands f p Gone j h full e = absurd h
first_stands f p (Leaf k cell immediate) j h full e = absurd cc
first_stands f p (Branch k Ordered NoTree) j h full e = absurd cc
first_stands f p (Branch k Ordered (With t ts)) j h full e =
    let is : top t ≡ j = same_Some _ _ e in
    let l : k < top t = h.3.0 in
    (t, h.3.1, full.1.0, is, (omega arith), refl)
first_stands f p (Branch k Unordered ts) j h full e = absurd cc

-- the first part of an ordered list is held, its number is greater, and it has the front of the list
pub first_held : (f : Frame) (k j : ℕ) → IsHeld f k → first_of (tree_at f k) ≡ Some j
    → IsHeld f j × (k < j) × (front_of (tree_at f k) ≡ front_of (tree_at f j))
first_held f k j h e =
    let r = first_stands f h.list (tree_at f k) j h.stands h.full e in
    let l = r.4 in
    let same = h.top in (
      held f (Some (top (tree_at f k))) r.0 j r.1 r.2 r.3,
      omega arith,
      r.5 ∙ sym (ap front_of (ap (tree_at f) (sym r.3) ∙ tree_at-top f (Some (top (tree_at f k))) r.0 r.1)),
    )

-- what has no first part is its own front
own_front : (t : Tree) → IsFull t → first_of t ≡ None → front_of t ≡ Some (top t)
own_front Gone h e = absurd h
own_front (Leaf k cell immediate) h e = refl
own_front (Branch k Ordered NoTree) h e = absurd (let l = h.0 in omega arith)
own_front (Branch k Ordered (With t ts)) h e = absurd cc
own_front (Branch k Unordered ts) h e = refl

-- what is held and has no first part is its own front
pub held_front : (f : Frame) (k : ℕ) → IsHeld f k → first_of (tree_at f k) ≡ None
    → front_of (tree_at f k) ≡ Some k
held_front f k h e = own_front (tree_at f k) h.full e ∙ ap Some h.top

-- an ordered list has a first number in its row
pub first_at : (f : Frame) (k start many : ℕ) → IsHeld f k → slice_get f.parts k ≡ Some (Row Ordered start many)
    → (j : ℕ) × (slice_get f.rows start ≡ Some j)
first_at f k start many h part =
    let r = held_list f h.list (tree_at f k) k start many Ordered h.stands h.full h.top part in
    by_parts r.parts r.two r.row
  where
    by_parts : (ts : Trees) → 2 ≤ count ts → StandFrom f.rows start (tops ts)
        → (j : ℕ) × (slice_get f.rows start ≡ Some j)
    by_parts NoTree two row = absurd (omega arith)
    by_parts (With t ts) two row = (top t, row_first f start k t ts row)
