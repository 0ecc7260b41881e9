-- One change of a network in place, and how it is taken back.
use Rattle.std.proofs.Common.{◌≡◌, ℕ, ◌+◌, ◌-◌, ◌<◌, ◌≤◌, List, length, get_or, set, take, Option, Some, None, refl, sym, ap, ap₂, subst, ◌∙◌, arith}
use Rattle.std.specs.Prelude.{slice_get}
use Rattle.std.specs.List.{Contains, remove}
use Rattle.std.proofs.lemmas.List.{take_all, set-set, set-get_or, length-set}
use Rattle.std.proofs.lemmas.List.Edits.{length-remove, length-insert}
use Rattle.std.proofs.lemmas.Option.{same_Some, slice_get_within, get_or_from_slice_get}
use Rattle.hp_links.specs.declared.links.Part.{Part}
use Rattle.hp_links.specs.declared.links.Part.TheVariants.{Row}
use Rattle.hp_links.specs.declared.links.Span.{Span}
use Rattle.hp_links.specs.declared.undo.Change.{Change}
use Rattle.hp_links.specs.declared.undo.Turn.{Turn}
use Rattle.hp_links.proofs.ListSteps.{read_set, some_read}
use Rattle.hp_links.specs.declared.entry.Order.{Order}
use Rattle.hp_links.specs.Changing.{IsSpan, HasSpan, IsFirstFrom, IsSlotOf, other_of, put_at, hung, root_after, shortened}
use Rattle.hp_links.specs.Fronts.{settled}
use Rattle.hp_links.specs.Frames.{Frame, frame_of, top, tops, Stands, IsWhole, tree_at, IsHeld}
use Rattle.hp_links.specs.Labelled.{Tree, Gone, Branch, count, numbers, IsFull, front_of, replaced, without}
use Rattle.hp_links.specs.Linked.{Linked, NamesTask, whole}
use Rattle.hp_links.specs.Turning.{turned_right, turned_left}
use Rattle.hp_links.specs.Undoing.{IsStage, IsCleared, IsWithin, LeavesOne, Steps, lengthened, longer, put_back, was_at}
use Rattle.hp_links.proofs.ChangeLemmas.{left_full, without_apart, without_normal}
use Rattle.hp_links.proofs.FinishLemmas.{task_alone, task_parent, joins, shortens, front_left}
use Rattle.hp_links.proofs.HangLemmas.{above_more, same_part, slot_read, stands_hung, top_owned}
use Rattle.hp_links.proofs.HeldLemmas.{held, tree_at-top}
use Rattle.hp_links.proofs.HungLemmas.{Placed, hung_whole, listed_above}
use Rattle.hp_links.proofs.ParentLemmas.{Parent, tops_there}
use Rattle.hp_links.proofs.PlaceLemmas.{part_tells}
use Rattle.hp_links.proofs.StageLemmas.{staged, stage_stands}
use Rattle.hp_links.proofs.TreeLemmas.{length-tops}
use Rattle.hp_links.proofs.TurnLemmas.{turned_both}

-- networks in place with equal parts are equal
pub same_linked : (a b : List Part) (c d : List (Option ℕ)) (e f : List ℕ) (g h i j k l : Option ℕ) → a ≡ b → c ≡ d
    → e ≡ f → g ≡ h → i ≡ j → k ≡ l
    → (λ (s : Linked). s) (record { parts = a; owners = c; rows = e; root = g; focus = i; front = k })
    ≡ record { parts = b; owners = d; rows = f; root = h; focus = j; front = l }
same_linked a b c d e f g h i j k l p q r s t u = cc

-- what was set is put back
set_back : {A : Type 0} (xs : List A) (i n : ℕ) (x y : A) → slice_get xs i ≡ Some y → n ≡ length xs
    → set (take n (set xs i x)) i y ≡ xs
set_back xs i n x y e l =
    ap (λ ys. set ys i y) (take_all n (set xs i x) (omega (arith, l, length-set xs i x)))
    ∙ set-set xs i x y
    ∙ ap (set xs i) (sym (get_or_from_slice_get xs i y y e))
    ∙ set-get_or xs i y

-- the first so many of a list are as many where it has them
taken : {A : Type 0} (xs : List A) (n : ℕ) → n ≡ length xs → take n xs ≡ xs
taken xs n l = take_all n xs (omega (arith, l))

-- the only task is done
pub cleared_steps : (s r : Linked) (t : Change) (x : ℕ) → IsStage s → NamesTask s x → slice_get s.owners x ≡ Some None
    → IsCleared t s r → Steps t (without x (whole s)) None s r
cleared_steps s r t x h n own c =
    let gone = task_alone s x h n own in
    let new : Linked = record {
      parts = s.parts;
      owners = s.owners;
      rows = s.rows;
      root = None;
      focus = None;
      front = None;
    } in
    let stage = staged new Gone (record { is = refl; stands = tt }) h.owners tt tt tt refl in
    subst (λ (q : Linked). Steps t (without x (whole s)) None s q) (sym c.is)
    (subst (λ (u : Change). Steps u (without x (whole s)) None s new) (sym c.change)
    (record {
      back =
          same_linked _ s.parts _ s.owners _ s.rows _ s.root _ s.focus _ s.front (taken s.parts (length s.parts) refl)
          (taken s.owners (length s.parts) (sym h.owners)) (taken s.rows (length s.rows) refl) refl refl refl;
      fits = record { owner = tt; place = tt; turn = tt };
      stage = stage.0;
      whole = stage.1 ∙ sym gone;
      focus = refl;
    }))

-- ---- one part is left of a list

-- the part that is left, and what becomes of the network with it in the list's place
pub record LeftOne (s : Linked) (x list rest : ℕ) : Type 0 where
  pub tree : Tree
  pub stands : Stands (frame_of s) (Some list) tree
  pub full : IsFull tree
  pub top : rest ≡ top tree
  pub later : list < rest
  pub is : without x (whole s) ≡ replaced list tree (whole s)
  pub front : settled x list (front_of tree) s.front ≡ front_of (without x (whole s))
  pub there : Contains (numbers (whole s)) list

pub left_one : (s : Linked) (x list rest : ℕ) → IsStage s → NamesTask s x → slice_get s.owners x ≡ Some (Some list)
    → LeavesOne (frame_of s) x list rest → LeftOne s x list rest
left_one s x list rest h n own l =
    let tp = task_parent s x list h n own in
    let r = tp.0 in
    let at : slice_get s.parts r.list ≡ Some (Row l.span.order l.span.start l.span.many)
    = ap (slice_get s.parts) tp.1 ∙ l.is in
    let same : Row l.span.order l.span.start l.span.many ≡ Row r.order r.stands.0 (count r.parts) =
    same_part (frame_of s) r.list _ _ at r.stands.1.part in
    let start : l.span.start ≡ r.stands.0 = cc in
    let many : l.span.many ≡ count r.parts = cc in
    let j = joins s x h n r l.place rest (sym many ∙ l.two)
    (subst (λ (q : ℕ). IsFirstFrom s.rows q x l.place) start l.first)
    (subst (λ (q : ℕ). slice_get s.rows (other_of q l.place) ≡ Some rest) start l.read) in
    subst (λ (q : ℕ). LeftOne s x q rest) tp.1
    (record {
      tree = j.tree;
      stands = j.stands;
      full = j.full;
      top = sym j.top;
      later = j.later;
      is = j.is;
      front = front_left s x h n r j.tree j.left;
      there = (part_tells r.list (whole s) (Branch r.list r.order r.parts) r.is).2;
    })

-- the part that is left belongs to the list
pub part_owned : (s : Linked) (x list rest : ℕ) → LeftOne s x list rest → slice_get s.owners rest ≡ Some (Some list)
part_owned s x list rest l = ap (slice_get s.owners) l.top ∙ top_owned (frame_of s) (Some list) l.tree l.stands

-- the place of a list in the network
pub list_placed : (s : Linked) (y : ℕ) (o : Option ℕ) → IsStage s → Contains (numbers (whole s)) y
    → slice_get s.owners y ≡ Some o → Placed (frame_of s) (whole s) y o
list_placed s y o h c own =
    let w = stage_stands s y h c in listed_above (frame_of s) (whole s) y o w.0 w.1 h.apart c own

module _ (s : Linked) (x list rest : ℕ) (h : IsStage s) (l : LeftOne s x list rest) (o slot : Option ℕ)
    (own : slice_get s.owners list ≡ Some o) (at : IsSlotOf (frame_of s) o list slot) where
  -- the part that is left stands in the list's place
  pub rest_stands : Stands (hung rest o slot (frame_of s)) o l.tree
  rest_stands =
      let place = list_placed s list o h l.there own in
      stands_hung (frame_of s) rest list o slot own place.listed at (Some list) l.tree l.stands l.top
      (slice_get_within s.owners rest (Some list) (part_owned s x list rest l)) (above_more o list rest place.above l.later)

  pub rest_held : IsHeld (hung rest o slot (frame_of s)) rest
  rest_held = held (hung rest o slot (frame_of s)) o l.tree rest rest_stands l.full (sym l.top)

  -- one part is left of the list of a task that is done
  pub joined_steps : (r : Linked) (t : Change)
      → r ≡ record {
        parts = s.parts;
        owners = set s.owners rest o;
        rows = put_at slot rest s.rows;
        root = root_after slot rest s.root;
        focus = None;
        front = settled x list (front_of (tree_at (hung rest o slot (frame_of s)) rest)) s.front;
      }
      → t ≡ record {
        parts = length s.parts;
        rows = length s.rows;
        root = s.root;
        focus = s.focus;
        front = s.front;
        owner = Some (rest, Some list);
        place = was_at list slot;
        turn = None;
      }
      → Steps t (without x (whole s)) None s r
  joined_steps r t is change =
      let f = frame_of s in
      let g = hung rest o slot f in
      let place = list_placed s list o h l.there own in
      let w = stage_stands s list h l.there in
      let whole_is =
      hung_whole f s.root (whole s) l.tree rest list o slot (Some list) h.stands w.0 own place at
      (slice_get_within s.owners rest (Some list) (part_owned s x list rest l)) (above_more o list rest place.above l.later) l.stands
      l.top (λ k n e. n (same_Some _ _ (same_Some _ _ (sym e ∙ (part_owned s x list rest l)))))
      (λ e.
      let no : None ≡ Some list =
      same_Some None (Some list) (sym (top_owned f None (whole s) w.0) ∙ ap (slice_get s.owners) e ∙ (part_owned s x list rest l)) in
      cc) in
      let tree : tree_at g rest ≡ l.tree = ap (tree_at g) l.top ∙ tree_at-top g o l.tree rest_stands in
      let new : Linked = record {
        parts = s.parts;
        owners = set s.owners rest o;
        rows = put_at slot rest s.rows;
        root = root_after slot rest s.root;
        focus = None;
        front = settled x list (front_of (tree_at g rest)) s.front;
      } in
      let stage =
      staged new (without x (whole s)) (subst (IsWhole g (root_after slot rest s.root)) (sym l.is) whole_is)
      (length-set s.owners rest o ∙ h.owners) (without_normal x (whole s) h.normal)
      (without_apart x (whole s) h.apart) tt
      (ap (λ (q : Tree). settled x list (front_of q) s.front) tree ∙ l.front) in
      subst (λ (q : Linked). Steps t (without x (whole s)) None s q) (sym is)
      (subst (λ (u : Change). Steps u (without x (whole s)) None s new) (sym change)
      (record {
        back =
            same_linked _ s.parts _ s.owners _ s.rows _ s.root _ s.focus _ s.front
            (taken s.parts (length s.parts) refl)
            (set_back s.owners rest (length s.parts) o (Some list) (part_owned s x list rest l) (sym h.owners))
            (rows_back slot at) refl refl refl;
        fits = record {
          owner = within_set s.owners rest (length s.parts) o (slice_get_within s.owners rest (Some list) (part_owned s x list rest l)) (sym h.owners);
          place = place_within slot at;
          turn = tt;
        };
        stage = stage.0;
        whole = stage.1;
        focus = refl;
      }))
    where
      within_set : {A : Type 0} (xs : List A) (i n : ℕ) (y : A) → i < length xs → n ≡ length xs
          → i < length (take n (set xs i y))
      within_set xs i n y m e =
          let k = ap length (take_all n (set xs i y) (omega (arith, e, length-set xs i y))) in
          omega (arith, k, length-set xs i y)

      rows_back : (q : Option ℕ) → IsSlotOf (frame_of s) o list q
          → put_back (was_at list q) (take (length s.rows) (put_at q rest s.rows)) ≡ s.rows
      rows_back None u = taken s.rows (length s.rows) refl
      rows_back (Some q) u =
          set_back s.rows q (length s.rows) rest list (slot_read (frame_of s) o list q u) refl

      place_within : (q : Option ℕ) → IsSlotOf (frame_of s) o list q
          → IsWithin (length (take (length s.rows) (put_at q rest s.rows))) (was_at list q)
      place_within None u = tt
      place_within (Some q) u =
          within_set s.rows q (length s.rows) rest
          (slice_get_within s.rows q list (slot_read (frame_of s) o list q u)) refl

-- ---- two parts or more are left of a list

-- what becomes of the network with a shorter row
pub record LeftMore (s : Linked) (x list : ℕ) (f : Frame) : Type 0 where
  pub tree : Tree
  pub below : Option ℕ
  pub all : IsWhole f s.root (without x (whole s))
  pub stands : Stands f below tree
  pub full : IsFull tree
  pub top : top tree ≡ list
  pub front : settled x list (front_of tree) s.front ≡ front_of (without x (whole s))

-- spans with equal parts are equal
same_span : (o p : Order) (a b m n : ℕ) → o ≡ p → a ≡ b → m ≡ n
    → (λ (s : Span). s) (record { order = o; start = a; many = m }) ≡ record { order = p; start = b; many = n }
same_span o p a b m n e f g = cc

pub left_more : (s : Linked) (x list place : ℕ) (span : Span) → IsStage s → NamesTask s x
    → slice_get s.owners x ≡ Some (Some list) → IsSpan (frame_of s) list span → (span.many ≡ 2 → ⊥)
    → IsFirstFrom s.rows span.start x place → LeftMore s x list (shortened list span place (frame_of s))
left_more s x list place span h n own spans more first =
    let tp = task_parent s x list h n own in
    let r = tp.0 in
    let at : slice_get s.parts r.list ≡ Some (Row span.order span.start span.many)
    = ap (slice_get s.parts) tp.1 ∙ spans in
    let same : Row span.order span.start span.many ≡ Row r.order r.stands.0 (count r.parts) =
    same_part (frame_of s) r.list _ _ at r.stands.1.part in
    let order : span.order ≡ r.order = cc in
    let start : span.start ≡ r.stands.0 = cc in
    let many : span.many ≡ count r.parts = cc in
    let spanned = same_span span.order r.order span.start r.stands.0 span.many (count r.parts) order start many in
    let z = shortens s x h n r place (λ e. more (many ∙ e))
    (subst (λ (q : ℕ). IsFirstFrom s.rows q x place) start first) in
    subst (λ (q : ℕ). LeftMore s x q (shortened q span place (frame_of s))) tp.1
    (subst (λ (q : Span). LeftMore s x r.list (shortened r.list q place (frame_of s))) (sym spanned)
    (record {
      tree = without x (Branch r.list r.order r.parts);
      below = r.below;
      all = z.whole;
      stands = z.list;
      full =
          left_full x r.list r.order r.parts r.full r.apart
          (tops_there (frame_of s) r.list r.parts r.stands.3 r.place x r.at);
      top = z.top;
      front = front_left s x h n r (without x (Branch r.list r.order r.parts)) refl;
    }))

module _ (s : Linked) (x list place : ℕ) (span : Span) (h : IsStage s) (is_list : IsSpan (frame_of s) list span)
    (first : IsFirstFrom s.rows span.start x place)
    (l : LeftMore s x list (shortened list span place (frame_of s))) where
  pub list_held : IsHeld (shortened list span place (frame_of s)) list
  list_held = held (shortened list span place (frame_of s)) l.below l.tree list l.stands l.full l.top

  -- two parts or more are left of the list of a task that is done
  pub shortened_steps : (r : Linked) (t : Change)
      → r ≡ record {
        parts = set s.parts list (Row span.order (span.start + 1) (span.many - 1));
        owners = s.owners;
        rows = turned_right span.start place s.rows;
        root = s.root;
        focus = None;
        front = settled x list (front_of (tree_at (shortened list span place (frame_of s)) list)) s.front;
      }
      → t ≡ record {
        parts = length s.parts;
        rows = length s.rows;
        root = s.root;
        focus = s.focus;
        front = s.front;
        owner = None;
        place = None;
        turn = Some (record { list = list; start = span.start; many = span.many; end = place });
      }
      → Steps t (without x (whole s)) None s r
  shortened_steps r t is change =
      let g = shortened list span place (frame_of s) in
      let tree : tree_at g list ≡ l.tree = ap (tree_at g) (sym l.top) ∙ tree_at-top g l.below l.tree l.stands in
      let new : Linked = record {
        parts = set s.parts list (Row span.order (span.start + 1) (span.many - 1));
        owners = s.owners;
        rows = turned_right span.start place s.rows;
        root = s.root;
        focus = None;
        front = settled x list (front_of (tree_at g list)) s.front;
      } in
      let end : place < length s.rows = slice_get_within s.rows place x first.there in
      let later : span.start ≤ place = first.later in
      let within : list < length s.parts = slice_get_within s.parts list _ is_list in
      let short = length-remove s.rows place end in
      let long = length-insert (remove s.rows place) span.start (get_or s.rows place 0) (omega arith) in
      let as_long : length (turned_right span.start place s.rows) ≡ length s.rows = omega arith in
      let stage =
      staged new (without x (whole s)) l.all
      (h.owners ∙ sym (length-set s.parts list (Row span.order (span.start + 1) (span.many - 1))))
      (without_normal x (whole s) h.normal) (without_apart x (whole s) h.apart) tt
      (ap (λ (q : Tree). settled x list (front_of q) s.front) tree ∙ l.front) in
      let long_parts = length-set s.parts list (Row span.order (span.start + 1) (span.many - 1)) in
      let turn : Turn = record { list = list; start = span.start; many = span.many; end = place } in
      let parts_kept : take (length s.parts) new.parts ≡ new.parts =
      taken new.parts (length s.parts) (omega (arith, long_parts)) in
      let parts_back : lengthened (Some turn) (take (length s.parts) new.parts) ≡ s.parts =
      ap (lengthened (Some turn)) parts_kept
      ∙ ap (λ (o : Option Part). longer turn o new.parts)
      (read_set s.parts list (Row span.order (span.start + 1) (span.many - 1)) within)
      ∙ set-set s.parts list (Row span.order (span.start + 1) (span.many - 1)) (Row span.order span.start span.many)
      ∙ ap (set s.parts list) (sym (get_or_from_slice_get s.parts list _ (Row span.order span.start span.many) is_list))
      ∙ set-get_or s.parts list (Row span.order span.start span.many) in
      let kept : take (length s.rows) (turned_right span.start place s.rows) ≡ turned_right span.start place s.rows
      = take_all (length s.rows) (turned_right span.start place s.rows) (omega arith) in
      subst (λ (q : Linked). Steps t (without x (whole s)) None s q) (sym is)
      (subst (λ (u : Change). Steps u (without x (whole s)) None s new) (sym change)
      (record {
        back =
            same_linked _ s.parts _ s.owners _ s.rows _ s.root _ s.focus _ s.front
            parts_back
            (taken s.owners (length s.parts) (sym h.owners))
            (ap (turned_left span.start place) kept ∙ turned_both s.rows span.start place later end) refl refl refl;
        fits = record {
          owner = tt;
          place = tt;
          turn = (
            (let k = ap length (taken new.parts (length s.parts) (omega (arith, long_parts))) in
                omega (arith, k, long_parts)),
            later,
            (let k = ap length kept in omega arith),
          );
        };
        stage = stage.0;
        whole = stage.1;
        focus = refl;
      }))

-- ---- what the functions tell

-- the network once a part was put, and the front settled
pub stage_is : (q r : Linked) (x list rest : ℕ) (front : Option ℕ) → q ≡ r
    → front ≡ settled x list (front_of (tree_at (frame_of q) rest)) q.front
    → (λ (s : Linked). s) (record {
      parts = q.parts;
      owners = q.owners;
      rows = q.rows;
      root = q.root;
      focus = None;
      front = front;
    })
    ≡ record {
      parts = r.parts;
      owners = r.owners;
      rows = r.rows;
      root = r.root;
      focus = None;
      front = settled x list (front_of (tree_at (frame_of r) rest)) r.front;
    }
stage_is q r x list rest front e f =
    let left : Linked → Option ℕ → Linked = λ s o. record {
      parts = s.parts;
      owners = s.owners;
      rows = s.rows;
      root = s.root;
      focus = None;
      front = o;
    } in
    ap (left q) f ∙ ap (λ (s : Linked). left s (settled x list (front_of (tree_at (frame_of s) rest)) s.front)) e

-- the change once a part was put
pub change_is : (u v : Change) (rest list : ℕ) (p q : Option (ℕ × ℕ)) → u ≡ v → p ≡ q
    → (λ (t : Change). t) (record {
      parts = u.parts;
      rows = u.rows;
      root = u.root;
      focus = u.focus;
      front = u.front;
      owner = Some (rest, Some list);
      place = p;
      turn = u.turn;
    })
    ≡ record {
      parts = v.parts;
      rows = v.rows;
      root = v.root;
      focus = v.focus;
      front = v.front;
      owner = Some (rest, Some list);
      place = q;
      turn = v.turn;
    }
change_is u v rest list p q e f =
    let wrote : Change → Option (ℕ × ℕ) → Change = λ t o. record {
      parts = t.parts;
      rows = t.rows;
      root = t.root;
      focus = t.focus;
      front = t.front;
      owner = Some (rest, Some list);
      place = o;
      turn = t.turn;
    } in
    ap₂ wrote e f

-- frames of equal parts are equal
pub same_frame : (a b : List Part) (c d : List (Option ℕ)) (e f : List ℕ) → a ≡ b → c ≡ d → e ≡ f
    → (λ (s : Frame). s) (record { parts = a; owners = c; rows = e }) ≡ record { parts = b; owners = d; rows = f }
same_frame a b c d e f p q r = cc

-- the network once a row is shorter, and the front settled
pub shorter_is : (s : Linked) (g h : Frame) (x list : ℕ) (front : Option ℕ) → g ≡ h
    → front ≡ settled x list (front_of (tree_at g list)) s.front
    → (λ (s : Linked). s) (record {
      parts = g.parts;
      owners = g.owners;
      rows = g.rows;
      root = s.root;
      focus = None;
      front = front;
    })
    ≡ record {
      parts = h.parts;
      owners = h.owners;
      rows = h.rows;
      root = s.root;
      focus = None;
      front = settled x list (front_of (tree_at h list)) s.front;
    }
shorter_is s g h x list front e f =
    let left : Frame → Option ℕ → Linked = λ q o. record {
      parts = q.parts;
      owners = q.owners;
      rows = q.rows;
      root = s.root;
      focus = None;
      front = o;
    } in
    ap (left g) f ∙ ap (λ (q : Frame). left q (settled x list (front_of (tree_at q list)) s.front)) e

-- the change once a row is shorter
pub turn_is : (u v : Change) (t : Turn) → u ≡ v
    → (λ (c : Change). c) (record {
      parts = u.parts;
      rows = u.rows;
      root = u.root;
      focus = u.focus;
      front = u.front;
      owner = u.owner;
      place = u.place;
      turn = Some t;
    })
    ≡ record {
      parts = v.parts;
      rows = v.rows;
      root = v.root;
      focus = v.focus;
      front = v.front;
      owner = v.owner;
      place = v.place;
      turn = Some t;
    }
turn_is u v t e =
    ap
    (λ (c : Change).
    (λ (b : Change). b) (record {
      parts = c.parts;
      rows = c.rows;
      root = c.root;
      focus = c.focus;
      front = c.front;
      owner = c.owner;
      place = c.place;
      turn = Some t;
    })) e

module _ (s : Linked) (x list : ℕ) (h : IsStage s) (n : NamesTask s x) (own : slice_get s.owners x ≡ Some (Some list)) where
  -- the list of a task has a row
  pub has_span : HasSpan (frame_of s) list
  has_span =
      let tp = task_parent s x list h n own in
      let r = tp.0 in
      subst (λ (q : ℕ). HasSpan (frame_of s) q) tp.1
      (record { order = r.order; start = r.stands.0; many = count r.parts }, r.stands.1.part)

  module _ (span : Span) (is : IsSpan (frame_of s) list span) where
    spanned : (r : Parent (frame_of s) (whole s) x) → r.list ≡ list
        → (span.start ≡ r.stands.0) × (span.many ≡ count r.parts)
    spanned r e =
        let at : slice_get s.parts r.list ≡ Some (Row span.order span.start span.many)
        = ap (slice_get s.parts) e ∙ is in
        let same : Row span.order span.start span.many ≡ Row r.order r.stands.0 (count r.parts) =
        same_part (frame_of s) r.list _ _ at r.stands.1.part in
        (cc, cc)

    -- a task stands in the row of its list
    pub stands_later : (i : ℕ) × (span.start ≤ i) × (slice_get s.rows i ≡ Some x)
    stands_later =
        let tp = task_parent s x list h n own in
        let r = tp.0 in
        let e = (spanned r tp.1).0 in
        let within : r.place < length (tops r.parts) = slice_get_within (tops r.parts) r.place x r.at in
        (r.stands.0 + r.place, omega (arith, e), r.stands.2.at r.place within ∙ r.at)

    -- the second of two parts stands in the row
    pub second_within : span.many ≡ 2 → span.start + 1 < length s.rows
    second_within two =
        let tp = task_parent s x list h n own in
        let r = tp.0 in
        let e = spanned r tp.1 in
        let l : 1 < length (tops r.parts) = omega (arith, length-tops r.parts, e.1) in
        let at = some_read (tops r.parts) 1 l in
        let w = slice_get_within s.rows (r.stands.0 + 1) at.0 (r.stands.2.at 1 l ∙ at.1) in
        omega (arith, e.0)

    -- a task's list has a part
    pub span_some : 0 < span.many
    span_some =
        let tp = task_parent s x list h n own in
        let e = (spanned tp.0 tp.1).1 in
        let two = tp.0.full.0 in
        omega arith
