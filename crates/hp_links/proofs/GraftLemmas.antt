-- Subtasks are planted and put in the place of a task.
use Rattle.std.proofs.Common.{◌≡◌, ℕ, zero, suc, ◌+◌, ◌<◌, ◌≤◌, List, [], ◌∷◌, length, set, take, Option, Some, None, refl, sym, ap, ap₂, subst, ◌∙◌, arith}
use Rattle.std.specs.Prelude.{slice_get}
use Rattle.std.specs.List.{Contains}
use Rattle.std.proofs.lemmas.List.{append-nil, take-set, length-set, length-take}
use Rattle.std.proofs.lemmas.Option.{same_Some, slice_get_within}
use Rattle.hp_links.specs.declared.entry.Entry.{Entry}
use Rattle.hp_links.specs.declared.links.Span.{Span}
use Rattle.hp_links.specs.declared.undo.Change.{Change}
use Rattle.hp_links.specs.Changing.{IsSpan, IsSlotOf, IsAbove, put_at, hung, root_after}
use Rattle.hp_links.specs.Entries.{AreClosed}
use Rattle.hp_links.specs.Fronts.{settled}
use Rattle.hp_links.specs.Frames.{Frame, frame_of, top, Stands, tree_at, IsHeld}
use Rattle.hp_links.specs.Labelled.{Tree, Gone, Leaf, Branch, numbers, number_of, IsFull, front_of, replaced}
use Rattle.hp_links.specs.Linked.{Linked, NamesTask, whole}
use Rattle.hp_links.specs.Planted.{trees_at, AllAlone, Planting}
use Rattle.hp_links.specs.Undoing.{IsStage, IsWithin, Steps, put_back, was_at}
use Rattle.hp_links.proofs.ChangeLemmas.{replaced_normal, replaced_apart, replaced_part}
use Rattle.hp_links.proofs.EntryLemmas.{trees_full, AllFull}
use Rattle.hp_links.proofs.FinishLemmas.{settle_is}
use Rattle.hp_links.proofs.FrontLemmas.{front_expanded, front_full}
use Rattle.hp_links.proofs.HangLemmas.{above_more, slot_read, stands_hung, top_owned}
use Rattle.hp_links.proofs.HeldLemmas.{held, tree_at-top}
use Rattle.hp_links.proofs.HungLemmas.{Placed, alone, hung_whole, listed_above, number_top}
use Rattle.hp_links.proofs.ParentLemmas.{numbers_within, top_there}
use Rattle.hp_links.proofs.PlaceLemmas.{part_tells}
use Rattle.hp_links.proofs.PlantLemmas.{IsRange, carried, numbers_in, range_above, range_apart, trees_range}
use Rattle.hp_links.proofs.StageLemmas.{named_part, staged, stage_stands}
use Rattle.hp_links.proofs.StepLemmas.{same_linked, stands_later}

-- the first of a list are read as in the list
read_taken : {A : Type 0} (n i : ℕ) (xs ys : List A) → take n xs ≡ ys → i < n → slice_get xs i ≡ slice_get ys i
read_taken n i xs ys e l = sym (of_taken n i xs l) ∙ ap (λ zs. slice_get zs i) e
  where
    of_taken : {A : Type 0} (n i : ℕ) (xs : List A) → i < n → slice_get (take n xs) i ≡ slice_get xs i
    of_taken zero i xs l = absurd (omega arith)
    of_taken (suc n) i [] l = refl
    of_taken (suc n) zero (x ∷ xs) l = refl
    of_taken (suc n) (suc i) (x ∷ xs) l = of_taken n i xs (omega arith)

-- what was set among the first is put back
set_back_taken : (n q : ℕ) (xs : List ℕ) (b x : ℕ) → q < n → slice_get xs q ≡ Some x
    → set (take n (set xs q b)) q x ≡ take n xs
set_back_taken zero q xs b x l e = absurd (omega arith)
set_back_taken (suc n) q [] b x l e = absurd cc
set_back_taken (suc n) zero (y ∷ xs) b x l e = ap (λ z. z ∷ take n xs) (sym (same_Some y x e))
set_back_taken (suc n) (suc q) (y ∷ xs) b x l e = ap (λ zs. y ∷ zs) (set_back_taken n q xs b x (omega arith) e)

-- the first number of a tree is its top
pub first_number : (f : Frame) (p : Option ℕ) (t : Tree) (k : ℕ) → Stands f p t → IsRange k (numbers t) → top t ≡ k
first_number f p Gone k h r = absurd h
first_number f p (Leaf j cell immediate) k h r = r.0
first_number f p (Branch j order ts) k h r = r.0

module _ (s : Linked) (x : ℕ) (h : IsStage s) (n : NamesTask s x) (es : List Entry) (js : List ℕ) (f : Frame)
    (p : Planting es 0 js (frame_of s) f) (closed : AreClosed es) (t : Tree)
    (is : trees_at (length s.parts) es ≡ t ∷ []) where
  -- the planted tree stands alone, and is full
  planted : Stands f None t
  planted =
      let e : length s.parts + 0 ≡ length s.parts = omega arith in
      (subst (AllAlone f) is (subst (λ q. AllAlone f (trees_at q es)) e p.stand)).0

  pub planted_full : IsFull t
  planted_full = (subst AllFull is (trees_full (length s.parts) es closed)).0

  planted_range : IsRange (length s.parts) (numbers t)
  planted_range =
      subst (IsRange (length s.parts)) (ap numbers_in is ∙ append-nil (numbers t)) (trees_range (length s.parts) es)

  pub planted_top : length s.parts ≡ top t
  planted_top = sym (first_number f None t (length s.parts) planted planted_range)

  pub planted_number : number_of t ≡ Some (length s.parts)
  planted_number = number_top f None t planted ∙ ap Some (sym planted_top)

  -- no number of the network is one of the planted tree's
  pub planted_fresh : (y : ℕ) → Contains (numbers (whole s)) y → Contains (numbers t) y → ⊥
  planted_fresh y c d =
      let l = numbers_within (frame_of s) None (whole s) y (stage_stands s y h c).0 c in
      let m = range_above (length s.parts) (numbers t) y planted_range d in
      omega arith

  w : Stands (frame_of s) None (whole s) × IsFull (whole s)
  w = stage_stands s x h n.among

  within : (y : ℕ) → Contains (numbers (whole s)) y → y < length s.parts
  within y c = numbers_within (frame_of s) None (whole s) y (stage_stands s x h n.among).0 c

  read_owner : (y : ℕ) → y < length s.parts → slice_get f.owners y ≡ slice_get s.owners y
  read_owner y l = read_taken (length s.owners) y f.owners s.owners p.keeps.owners (omega (arith, l, h.owners))

  read_part : (y : ℕ) → y < length s.parts → slice_get f.parts y ≡ slice_get s.parts y
  read_part y l = read_taken (length s.parts) y f.parts s.parts p.keeps.parts l

  read_row : (i j : ℕ) → slice_get s.rows i ≡ Some j → slice_get f.rows i ≡ Some j
  read_row i j e =
      read_taken (length s.rows) i f.rows s.rows p.keeps.rows (slice_get_within s.rows i j e) ∙ e

  -- the network stands where it stood
  kept : Stands f None (whole s)
  kept =
      let old = (stage_stands s x h n.among).0 in
      let top_in = top_there (frame_of s) None (whole s) old in
      carried (frame_of s) f None None (whole s) old
      (record {
        parts = λ y c. read_part y (within y c);
        owners = λ y c l. read_owner y (within y c);
        rows = read_row;
      })
      (read_owner (top (whole s)) (within (top (whole s)) top_in)
      ∙ top_owned (frame_of s) None (whole s) old)

  pub named_owner : slice_get f.owners x ≡ slice_get s.owners x
  named_owner = read_owner x (within x n.among)

  pub named_placed : (o : Option ℕ) → slice_get f.owners x ≡ Some o → Placed f (whole s) x o
  named_placed o own =
      listed_above f (whole s) x o kept (stage_stands s x h n.among).1 h.apart n.among own

  pub base_within : length s.parts < length f.owners
  base_within =
      let e = planted_top in
      let l = slice_get_within f.owners (top t) None (top_owned f None t planted) in
      omega arith

  module _ (o slot : Option ℕ) (own : slice_get f.owners x ≡ Some o) (at : IsSlotOf f o x slot) where
    base_above : IsAbove o (length s.parts)
    base_above = above_more o x (length s.parts) (named_placed o own).above (within x n.among)

    grafted : Stands (hung (length s.parts) o slot f) o t
    grafted =
        stands_hung f (length s.parts) x o slot own (named_placed o own).listed at None t planted planted_top base_within
        base_above

    pub graft_held : IsHeld (hung (length s.parts) o slot f) (length s.parts)
    graft_held = held (hung (length s.parts) o slot f) o t (length s.parts) grafted planted_full (sym planted_top)

    -- the place of the task was there before
    slot_within : (q : ℕ) → slot ≡ Some q → q < length s.rows
    slot_within q e = by_owner o own at
      where
        by_owner : (r : Option ℕ) → slice_get f.owners x ≡ Some r → IsSlotOf f r x slot → q < length s.rows
        by_owner None own' u = absurd (let no : None ≡ Some q = sym u ∙ e in cc)
        by_owner (Some list) own' u =
            let span : Span = u.2.0 in
            let owner : slice_get s.owners x ≡ Some (Some list) = sym named_owner ∙ own' in
            let less : list < x = (named_placed (Some list) own').above in
            let last = within x n.among in
            let list_in : list < length s.parts = omega arith in
            let spanned : IsSpan (frame_of s) list span = sym (read_part list list_in) ∙ u.2.1 in
            let later = stands_later s x list h n owner span spanned in
            let first : u.0 ≤ later.0 = u.2.2.first later.0 later.1 (read_row later.0 x later.2) in
            let same : u.0 ≡ q = same_Some u.0 q (sym u.1 ∙ e) in
            let l = slice_get_within s.rows later.0 x later.2 in
            omega arith

    -- subtasks stand in the place of a task
    pub graft_steps : (r : Linked) (u : Change)
        → r ≡ record {
          parts = f.parts;
          owners = set f.owners (length s.parts) o;
          rows = put_at slot (length s.parts) f.rows;
          root = root_after slot (length s.parts) s.root;
          focus = Some (length s.parts);
          front = settled x x (front_of (tree_at (hung (length s.parts) o slot f) (length s.parts))) s.front;
        }
        → u ≡ record {
          parts = length s.parts;
          rows = length s.rows;
          root = s.root;
          focus = s.focus;
          front = s.front;
          owner = None;
          place = was_at x slot;
          turn = None;
        }
        → Steps u (replaced x t (whole s)) (Some (length s.parts)) s r
    graft_steps r u new_is change =
        let base = length s.parts in
        let g = hung base o slot f in
        let full = (stage_stands s x h n.among).1 in
        let top_in = top_there (frame_of s) None (whole s) (stage_stands s x h n.among).0 in
        let top_less = within (top (whole s)) top_in in
        let whole_is =
        hung_whole f s.root (whole s) t base x o slot None
        (record { is = h.stands.is; stands = alone f (whole s) kept }) kept own (named_placed o own) at base_within
        base_above planted planted_top
        (λ k m e.
        let no : None ≡ Some k =
        same_Some None (Some k) (sym (top_owned f None t planted) ∙ ap (slice_get f.owners) (sym planted_top) ∙ e) in
        cc)
        (λ e. omega arith) in
        let part = named_part s x h n in
        let there = replaced_part x t base planted_number (whole s) (Leaf x n.cell n.immediate)
        (λ c. planted_fresh base c (subst (Contains (numbers t)) (sym planted_top) (top_there f None t planted))) part in
        let tree : tree_at g base ≡ t = ap (tree_at g) planted_top ∙ tree_at-top g o t grafted in
        let front = front_full (whole s) full in
        let facts = front_expanded x n.cell n.immediate t (whole s) part h.apart in
        let new : Linked = record {
          parts = f.parts;
          owners = set f.owners base o;
          rows = put_at slot base f.rows;
          root = root_after slot base s.root;
          focus = Some base;
          front = settled x x (front_of (tree_at g base)) s.front;
        } in
        let stage =
        staged new (replaced x t (whole s)) whole_is (length-set f.owners base o ∙ p.owners)
        (replaced_normal x t (whole s) planted_full h.normal)
        (replaced_apart x t (range_apart base (numbers t) planted_range) (whole s) h.apart planted_fresh)
        (part_tells base (replaced x t (whole s)) t there.0).2
        (ap (λ (q : Tree). settled x x (front_of q) s.front) tree
        ∙ ap (λ (q : Option ℕ). settled x x (front_of t) q) h.front
        ∙ settle_is (whole s) (replaced x t (whole s)) t x x front.0 front.1
        (facts.0, facts.0, λ a b. facts.1 a)) in
        subst (λ (q : Linked). Steps u (replaced x t (whole s)) (Some base) s q) (sym new_is)
        (subst (λ (v : Change). Steps v (replaced x t (whole s)) (Some base) s new) (sym change)
        (record {
          back =
              same_linked _ s.parts _ s.owners _ s.rows _ s.root _ s.focus _ s.front p.keeps.parts
              (take-set f.owners base o ∙ ap (λ q. take q f.owners) (sym h.owners) ∙ p.keeps.owners)
              (rows_back slot at (λ q e. slot_within q e)) refl refl refl;
          fits = record { owner = tt; place = place_within slot (λ q e. slot_within q e); turn = tt };
          stage = stage.0;
          whole = stage.1;
          focus = refl;
        }))
      where
        rows_back : (q : Option ℕ) → IsSlotOf f o x q → ((i : ℕ) → q ≡ Some i → i < length s.rows)
            → put_back (was_at x q) (take (length s.rows) (put_at q (length s.parts) f.rows)) ≡ s.rows
        rows_back None v l = p.keeps.rows
        rows_back (Some i) v l =
            set_back_taken (length s.rows) i f.rows (length s.parts) x (l i refl) (slot_read f o x i v) ∙ p.keeps.rows

        place_within : (q : Option ℕ) → ((i : ℕ) → q ≡ Some i → i < length s.rows)
            → IsWithin (length (take (length s.rows) (put_at q (length s.parts) f.rows))) (was_at x q)
        place_within None l = tt
        place_within (Some i) l =
            let m = l i refl in
            let long = ap length p.keeps.rows in
            omega (
              arith,
              m,
              long,
              length-take (length s.rows) f.rows,
              length-take (length s.rows) (set f.rows i (length s.parts)),
              length-set f.rows i (length s.parts),
            )

-- the network once subtasks were put in the place of a task, and the front settled
pub grafted_is : (q r : Linked) (x y base : ℕ) (front : Option ℕ) → q ≡ r → y ≡ base
    → front ≡ settled x x (front_of (tree_at (frame_of q) y)) q.front
    → (λ (s : Linked). s) (record {
      parts = q.parts;
      owners = q.owners;
      rows = q.rows;
      root = q.root;
      focus = Some y;
      front = front;
    })
    ≡ record {
      parts = r.parts;
      owners = r.owners;
      rows = r.rows;
      root = r.root;
      focus = Some base;
      front = settled x x (front_of (tree_at (frame_of r) base)) r.front;
    }
grafted_is q r x y base front e g h =
    let new : Linked → ℕ → Option ℕ → Linked = λ s k o. record {
      parts = s.parts;
      owners = s.owners;
      rows = s.rows;
      root = s.root;
      focus = Some k;
      front = o;
    } in
    ap (new q y) h
    ∙ ap₂ (λ (s : Linked) (k : ℕ). new s k (settled x x (front_of (tree_at (frame_of s) k)) s.front)) e g

-- the change once subtasks were put
pub graft_is : (u v : Change) (p q : Option (ℕ × ℕ)) → u ≡ v → p ≡ q
    → (λ (t : Change). t) (record {
      parts = u.parts;
      rows = u.rows;
      root = u.root;
      focus = u.focus;
      front = u.front;
      owner = u.owner;
      place = p;
      turn = u.turn;
    })
    ≡ record {
      parts = v.parts;
      rows = v.rows;
      root = v.root;
      focus = v.focus;
      front = v.front;
      owner = v.owner;
      place = q;
      turn = v.turn;
    }
graft_is u v p q e f =
    let put : Change → Option (ℕ × ℕ) → Change = λ t o. record {
      parts = t.parts;
      rows = t.rows;
      root = t.root;
      focus = t.focus;
      front = t.front;
      owner = t.owner;
      place = o;
      turn = t.turn;
    } in
    ap₂ put e f
