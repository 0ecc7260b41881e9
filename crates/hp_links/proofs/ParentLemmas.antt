-- The list that a part belongs to.
use Rattle.std.proofs.Common.{◌≡◌, ℕ, zero, suc, ◌<◌, ◌⊎◌, ⊎_elim, inl, inr, [], ◌∷◌, ◌++◌, length, Option, Some, None, refl, sym, ap, subst, ◌∙◌, arith}
use Rattle.std.specs.Prelude.{slice_get}
use Rattle.std.specs.List.{Contains}
use Rattle.std.proofs.lemmas.Bool.{cases_eq}
use Rattle.std.proofs.lemmas.List.Elements.{Contains-append_left, Contains-append_right, Contains-append_cases}
use Rattle.std.proofs.lemmas.Option.{same_Some, slice_get_within}
use Rattle.hp_links.specs.declared.links.Part.TheVariants.{Task, Row}
use Rattle.hp_links.specs.declared.entry.Order.{Order}
use Rattle.hp_links.specs.Changing.{HasRow}
use Rattle.hp_links.specs.Frames.{Frame, frame_of, top, tops, Stands, AllStand}
use Rattle.hp_links.specs.Labelled.{Tree, Trees, Gone, Leaf, Branch, NoTree, With, count, numbers, numbers_of_all, AreApart, IsFull, AreFull, or_else, part_in, part_among}
use Rattle.hp_links.specs.Linked.{Linked, tree_of}
use Rattle.hp_links.proofs.HangLemmas.{tops_owned}
use Rattle.hp_links.proofs.NumberLemmas.{contains_nothing, contains_first, contains_cases, apart_left, apart_right, apart_disjoint}
use Rattle.hp_links.proofs.PlaceLemmas.{at_number, off_number, part_among_tells, number_tells, absent_tells, is_number}
use Rattle.hp_links.proofs.TreeLemmas.{tree_of-top, length-tops}

-- the number of a tree that stands is among its numbers
pub top_there : (f : Frame) (p : Option ℕ) (t : Tree) → Stands f p t → Contains (numbers t) (top t)
top_there f p Gone h = absurd h
top_there f p (Leaf k cell immediate) h = contains_first k []
top_there f p (Branch k order ts) h = contains_first k (numbers_of_all ts)

-- the numbers of parts are among theirs
pub tops_there : (f : Frame) (k : ℕ) (ts : Trees) → AllStand f k ts → (i j : ℕ) → slice_get (tops ts) i ≡ Some j
    → Contains (numbers_of_all ts) j
tops_there f k NoTree h i j e = absurd cc
tops_there f k (With t ts) h zero j e =
    subst (Contains (numbers t ++ numbers_of_all ts)) (same_Some (top t) j e)
    (Contains-append_left (numbers t) (numbers_of_all ts) (top t) (top_there f (Some k) t h.1))
tops_there f k (With t ts) h (suc i) j e =
    Contains-append_right (numbers t) (numbers_of_all ts) j (tops_there f k ts h.2 i j e)

-- parts whose numbers are apart have each their own
pub tops_once : (f : Frame) (k : ℕ) (ts : Trees) → AllStand f k ts → AreApart (numbers_of_all ts)
    → (h i j : ℕ) → slice_get (tops ts) h ≡ Some j → slice_get (tops ts) i ≡ Some j → h ≡ i
tops_once f k NoTree all a h i j e g = absurd cc
tops_once f k (With t ts) all a zero zero j e g = refl
tops_once f k (With t ts) all a zero (suc i) j e g =
    absurd
    (apart_disjoint (numbers t) (numbers_of_all ts) a j
    (subst (Contains (numbers t)) (same_Some (top t) j e) (top_there f (Some k) t all.1))
    (tops_there f k ts all.2 i j g))
tops_once f k (With t ts) all a (suc h) zero j e g =
    absurd
    (apart_disjoint (numbers t) (numbers_of_all ts) a j
    (subst (Contains (numbers t)) (same_Some (top t) j g) (top_there f (Some k) t all.1))
    (tops_there f k ts all.2 h j e))
tops_once f k (With t ts) all a (suc h) (suc i) j e g =
    ap suc (tops_once f k ts all.2 (apart_right (numbers t) (numbers_of_all ts) a) h i j e g)

-- a list of the tree that has the part in its row
pub record Parent (f : Frame) (t : Tree) (x : ℕ) : Type 0 where
  pub list : ℕ
  pub order : Order
  pub parts : Trees
  pub below : Option ℕ
  pub is : part_in list t ≡ Some (Branch list order parts)
  pub stands : Stands f below (Branch list order parts)
  pub full : IsFull (Branch list order parts)
  pub apart : AreApart (numbers (Branch list order parts))
  pub place : ℕ
  pub at : slice_get (tops parts) place ≡ Some x

-- a list among the trees that has the part in its row
record ParentAmong (f : Frame) (ts : Trees) (x : ℕ) : Type 0 where
  list : ℕ
  order : Order
  parts : Trees
  below : Option ℕ
  is : part_among list ts ≡ Some (Branch list order parts)
  stands : Stands f below (Branch list order parts)
  full : IsFull (Branch list order parts)
  apart : AreApart (numbers (Branch list order parts))
  place : ℕ
  at : slice_get (tops parts) place ≡ Some x

-- a list of one of the trees is a list among them
first_parent : (f : Frame) (t : Tree) (ts : Trees) (x : ℕ) → Parent f t x → ParentAmong f (With t ts) x
first_parent f t ts x r = record {
  list = r.list;
  order = r.order;
  parts = r.parts;
  below = r.below;
  is = ap (λ o. or_else o (part_among r.list ts)) r.is;
  stands = r.stands;
  full = r.full;
  apart = r.apart;
  place = r.place;
  at = r.at;
}

later_parent : (f : Frame) (t : Tree) (ts : Trees) (x : ℕ) → AreApart (numbers t ++ numbers_of_all ts)
    → ParentAmong f ts x → ParentAmong f (With t ts) x
later_parent f t ts x a r = record {
  list = r.list;
  order = r.order;
  parts = r.parts;
  below = r.below;
  is =
      ap (λ o. or_else o (part_among r.list ts))
      (absent_tells r.list t
      (λ c. apart_disjoint (numbers t) (numbers_of_all ts) a r.list c
      (part_among_tells r.list ts (Branch r.list r.order r.parts) r.is))).1 ∙ r.is;
  stands = r.stands;
  full = r.full;
  apart = r.apart;
  place = r.place;
  at = r.at;
}

among_parent : (f : Frame) (k : ℕ) (order : Order) (ts : Trees) (x : ℕ) → AreApart (k ∷ numbers_of_all ts)
    → ParentAmong f ts x → Parent f (Branch k order ts) x
among_parent f k order ts x a r = record {
  list = r.list;
  order = r.order;
  parts = r.parts;
  below = r.below;
  is =
      off_number k r.list _ _
      (λ e. a.0 (subst (Contains (numbers_of_all ts)) (sym e)
      (part_among_tells r.list ts (Branch r.list r.order r.parts) r.is))) ∙ r.is;
  stands = r.stands;
  full = r.full;
  apart = r.apart;
  place = r.place;
  at = r.at;
}

-- a part is the whole tree or stands in the row of a list
mutual
  pub parent_of : (f : Frame) (p : Option ℕ) (t : Tree) (x : ℕ) → Stands f p t → IsFull t → AreApart (numbers t)
      → Contains (numbers t) x → (top t ≡ x) ⊎ Parent f t x
  parent_of f p Gone x h full a c = absurd h
  parent_of f p (Leaf k cell immediate) x h full a c =
      ⊎_elim (λ e. inl e) (λ d. absurd (contains_nothing x d)) (contains_cases k x [] c)
  parent_of f p (Branch k order ts) x h full a c =
      ⊎_elim (λ e. inl e)
      (λ d.
      ⊎_elim
      (λ at.
      inr (record {
        list = k;
        order = order;
        parts = ts;
        below = p;
        is = at_number k k _ _ refl;
        stands = h;
        full = full;
        apart = a;
        place = at.0;
        at = at.1;
      }))
      (λ r. inr (among_parent f k order ts x a r))
      (parent_among f k ts x h.3 full.1 a.1 d)) (contains_cases k x (numbers_of_all ts) c)

  -- a part of trees is one of them or stands in the row of a list among them
  parent_among : (f : Frame) (k : ℕ) (ts : Trees) (x : ℕ) → AllStand f k ts → AreFull ts
      → AreApart (numbers_of_all ts) → Contains (numbers_of_all ts) x
      → ((i : ℕ) × (slice_get (tops ts) i ≡ Some x)) ⊎ ParentAmong f ts x
  parent_among f k NoTree x h full a c = absurd (contains_nothing x c)
  parent_among f k (With t ts) x h full a c =
      ⊎_elim
      (λ d.
      ⊎_elim (λ e. inl (0, ap Some e)) (λ r. inr (first_parent f t ts x r))
      (parent_of f (Some k) t x h.1 full.0 (apart_left (numbers t) (numbers_of_all ts) a) d))
      (λ d.
      ⊎_elim (λ at. inl (suc at.0, at.1)) (λ r. inr (later_parent f t ts x a r))
      (parent_among f k ts x h.2 full.1 (apart_right (numbers t) (numbers_of_all ts) a) d))
      (Contains-append_cases (numbers t) (numbers_of_all ts) x c)

-- the row of the list of a part
abbrev pub parent_row : (f : Frame) (t : Tree) (x : ℕ) → (r : Parent f t x)
    → HasRow f r.list (tops r.parts) × (slice_get f.owners x ≡ Some (Some r.list))
parent_row f t x r = (
  record {
    span = record { order = r.order; start = r.stands.0; many = count r.parts };
    is = r.stands.1.part;
    many = sym (length-tops r.parts);
    stand = r.stands.2;
    owned = tops_owned f r.list r.parts r.stands.3;
    once = tops_once f r.list r.parts r.stands.3 r.apart.1;
  },
  tops_owned f r.list r.parts r.stands.3 r.place x r.at,
)

-- the part of a number stands, and that is its number
mutual
  pub part_stands : (f : Frame) (p : Option ℕ) (t : Tree) (x : ℕ) (u : Tree) → Stands f p t → part_in x t ≡ Some u
      → (q : Option ℕ) × Stands f q u × (top u ≡ x)
  part_stands f p Gone x u h e = absurd h
  part_stands f p (Leaf k cell immediate) x u h e =
      ⊎_elim
      (λ n.
      let same : Leaf k cell immediate ≡ u = same_Some _ _ (sym (at_number k x _ _ n) ∙ e) in
      subst (λ (w : Tree). (q : Option ℕ) × Stands f q w × (top w ≡ x)) same (p, h, n))
      (λ n. absurd (let no : None ≡ Some u = sym (off_number k x _ _ n) ∙ e in cc))
      (cases_eq k x)
  part_stands f p (Branch k order ts) x u h e =
      ⊎_elim
      (λ n.
      let same : Branch k order ts ≡ u = same_Some _ _ (sym (at_number k x _ _ n) ∙ e) in
      subst (λ (w : Tree). (q : Option ℕ) × Stands f q w × (top w ≡ x)) same (p, h, n))
      (λ n. part_among_stands f k ts x u h.3 (sym (off_number k x _ _ n) ∙ e))
      (cases_eq k x)

  part_among_stands : (f : Frame) (k : ℕ) (ts : Trees) (x : ℕ) (u : Tree) → AllStand f k ts
      → part_among x ts ≡ Some u → (q : Option ℕ) × Stands f q u × (top u ≡ x)
  part_among_stands f k NoTree x u h e = absurd cc
  part_among_stands f k (With t ts) x u h e =
      ⊎_elim
      (λ c.
      let r = number_tells x t c in
      part_stands f (Some k) t x u h.1
      (r.3 ∙ sym (ap (λ o. or_else o (part_among x ts)) r.3) ∙ e))
      (λ c.
      part_among_stands f k ts x u h.2
      (sym (ap (λ o. or_else o (part_among x ts)) (absent_tells x t c).1) ∙ e))
      (is_number x t)

-- the part of a number is the tree of that number
pub part_is_tree : (s : Linked) (p : Option ℕ) (t : Tree) (x : ℕ) → Stands (frame_of s) p t → Contains (numbers t) x
    → part_in x t ≡ Some (tree_of s x)
part_is_tree s p t x h c =
    let r = number_tells x t c in
    let u = part_stands (frame_of s) p t x r.1 h r.3 in
    r.3 ∙ ap Some (sym (tree_of-top s u.0 r.1 u.1) ∙ ap (tree_of s) u.2)

-- the numbers of a tree that stands have parts
mutual
  pub numbers_within : (f : Frame) (p : Option ℕ) (t : Tree) (x : ℕ) → Stands f p t → Contains (numbers t) x
      → x < length f.parts
  numbers_within f p Gone x h c = absurd h
  numbers_within f p (Leaf k cell immediate) x h c =
      ⊎_elim
      (λ e. let l = slice_get_within f.parts k (Task cell immediate) h.part in omega arith)
      (λ d. absurd (contains_nothing x d)) (contains_cases k x [] c)
  numbers_within f p (Branch k order ts) x h c =
      ⊎_elim
      (λ e. let l = slice_get_within f.parts k (Row order h.0 (count ts)) h.1.part in omega arith)
      (λ d. all_numbers_within f k ts x h.3 d) (contains_cases k x (numbers_of_all ts) c)

  all_numbers_within : (f : Frame) (k : ℕ) (ts : Trees) (x : ℕ) → AllStand f k ts → Contains (numbers_of_all ts) x
      → x < length f.parts
  all_numbers_within f k NoTree x h c = absurd (contains_nothing x c)
  all_numbers_within f k (With t ts) x h c =
      ⊎_elim (λ d. numbers_within f (Some k) t x h.1 d) (λ d. all_numbers_within f k ts x h.2 d)
      (Contains-append_cases (numbers t) (numbers_of_all ts) x c)
