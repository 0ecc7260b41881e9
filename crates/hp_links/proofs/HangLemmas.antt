-- A part is hung in the place of another.
use Rattle.std.proofs.Common.{◌≡◌, ℕ, ◌+◌, ◌-◌, ◌<◌, ◌≤◌, ⊎_elim, cond, zero, suc, List, [], ◌∷◌, length, set, take, drop, map, Option, Some, None, refl, sym, ap, ap₂, subst, ◌∙◌, arith, eq-eqb}
use Rattle.std.specs.Prelude.{slice_get, option_map}
use Rattle.std.proofs.lemmas.Bool.{cases_eq, ne_eqb}
use Rattle.std.proofs.lemmas.List.{length-map}
use Rattle.std.proofs.lemmas.Option.{same_Some, slice_get-map, slice_get_within}
use Rattle.hp_links.specs.declared.links.Part.{Part}
use Rattle.hp_links.specs.declared.links.Part.TheVariants.{Row}
use Rattle.hp_links.specs.declared.links.Span.{Span}
use Rattle.hp_links.specs.declared.entry.Order.{Order}
use Rattle.hp_links.specs.Changing.{IsFirstFrom, HasRow, IsListed, IsSlotOf, put_at, hung, renamed, IsAbove}
use Rattle.hp_links.specs.Frames.{Frame, top, tops, StandFrom, Stands, AllStand}
use Rattle.hp_links.specs.Labelled.{Tree, Trees, Gone, Leaf, Branch, NoTree, With, count, replaced, replaced_among}
use Rattle.hp_links.proofs.ListSteps.{read_set, read_other, some_read}
use Rattle.hp_links.proofs.TreeLemmas.{row_read, length-tops}

-- a tree that stands has its part and its list
pub top_owned : (f : Frame) (p : Option ℕ) (t : Tree) → Stands f p t → slice_get f.owners (top t) ≡ Some p
top_owned f p Gone h = absurd h
top_owned f p (Leaf k cell immediate) h = h.owner
top_owned f p (Branch k order ts) h = h.1.owner

-- parts of a list are owned by it
pub tops_owned : (f : Frame) (k : ℕ) (ts : Trees) → AllStand f k ts → (i j : ℕ) → slice_get (tops ts) i ≡ Some j
    → slice_get f.owners j ≡ Some (Some k)
tops_owned f k NoTree h i j e = absurd cc
tops_owned f k (With t ts) h zero j e =
    let g : top t ≡ j = cc in ap (slice_get f.owners) (sym g) ∙ top_owned f (Some k) t h.1
tops_owned f k (With t ts) h (suc i) j e = tops_owned f k ts h.2 i j e

-- two lists that stand from one place on are equal where they are as long
pub same_row : (rows : List ℕ) (start : ℕ) (is js : List ℕ) → StandFrom rows start is → StandFrom rows start js
    → length is ≡ length js → is ≡ js
same_row rows start is js h g e =
    sym (row_read rows start is h) ∙ ap (λ n. take n (drop start rows)) e ∙ row_read rows start js g

-- the part of a number is one
pub same_part : (f : Frame) (k : ℕ) (p q : Part) → slice_get f.parts k ≡ Some p → slice_get f.parts k ≡ Some q → p ≡ q
same_part f k p q g h = same_Some p q (sym g ∙ h)

-- a number that is no other is not renamed
kept_name : (x y j : ℕ) → (j ≡ y → ⊥) → renamed x y j ≡ j
kept_name x y j n = ap (λ b. cond b x j) (ne_eqb j y n)

-- a number is renamed
new_name : (x y j : ℕ) → j ≡ y → renamed x y j ≡ x
new_name x y j e = ap (λ b. cond b x j) (eq-eqb j y e)

-- numbers of which none is another are not renamed
kept_names : (x y : ℕ) (js : List ℕ) → ((i : ℕ) → slice_get js i ≡ Some y → ⊥) → map (renamed x y) js ≡ js
kept_names x y [] n = refl
kept_names x y (j ∷ js) n =
    ap₂ ◌∷◌ (kept_name x y j (λ e. n 0 (ap Some e))) (kept_names x y js (λ i. n (suc i)))

-- a tree of this number gives way
pub replaced_top : (y : ℕ) (s t : Tree) (f : Frame) (p : Option ℕ) → Stands f p t → top t ≡ y → replaced y s t ≡ s
replaced_top y s Gone f p h e = absurd h
replaced_top y s (Leaf k cell immediate) f p h e = ap (λ b. cond b s (Leaf k cell immediate)) (eq-eqb k y e)
replaced_top y s (Branch k order ts) f p h e =
    ap (λ b. cond b s (Branch k order (replaced_among y s ts))) (eq-eqb k y e)

-- a number stands where its slot is
pub slot_read : (f : Frame) (p : Option ℕ) (y q : ℕ) → IsSlotOf f p y (Some q) → slice_get f.rows q ≡ Some y
slot_read f None y q u = absurd cc
slot_read f (Some list) y q u = ap (slice_get f.rows) (same_Some q u.0 u.1) ∙ u.2.2.there

-- a row without the part that gives way stays
row_kept : (f : Frame) (p slot : Option ℕ) (x y start : ℕ) (js : List ℕ) → IsSlotOf f p y slot
    → StandFrom f.rows start js → ((i : ℕ) → slice_get js i ≡ Some y → ⊥) → StandFrom (put_at slot x f.rows) start js
row_kept f p None x y start js s h n = h
row_kept f p (Some q) x y start js s h n = record {
  at = λ i l.
      read_other f.rows q (start + i) x
      (λ e. n i (sym (h.at i l) ∙ ap (slice_get f.rows) e ∙ slot_read f p y q s)) ∙ h.at i l;
}

-- the first one of a number in a row that has it once is renamed
renamed_row : (rows : List ℕ) (start q x y : ℕ) (js : List ℕ) → StandFrom rows start js
    → ((h i j : ℕ) → slice_get js h ≡ Some j → slice_get js i ≡ Some j → h ≡ i) → IsFirstFrom rows start y q
    → StandFrom (set rows q x) start (map (renamed x y) js)
renamed_row rows start q x y js h once first = record {
  at = λ i l.
      let m : i < length js = omega (arith, l, length-map js (renamed x y)) in
      ⊎_elim (λ e. here i m e) (λ n. elsewhere i m n) (cases_eq (start + i) q) ∙ sym (slice_get-map (renamed x y) js i);
}
  where
    here : (i : ℕ) → i < length js → start + i ≡ q
        → slice_get (set rows q x) (start + i) ≡ option_map (renamed x y) (slice_get js i)
    here i m e =
        let there : slice_get js i ≡ Some y = sym (h.at i m) ∙ ap (slice_get rows) e ∙ first.there in
        ap (slice_get (set rows q x)) e ∙ read_set rows q x (slice_get_within rows q y first.there)
        ∙ sym (ap (option_map (renamed x y)) there ∙ ap Some (new_name x y y refl))

    at_first : (i : ℕ) → i < length js → slice_get js i ≡ Some y → start + i ≡ q
    at_first i m e =
        let le : q ≤ start + i = first.first (start + i) (omega arith) (h.at i m ∙ e) in
        let later = first.later in
        let back : start + (q - start) ≡ q = omega arith in
        let near : q - start < length js = omega arith in
        let same : i ≡ q - start =
        once i (q - start) y e (sym (h.at (q - start) near) ∙ ap (slice_get rows) back ∙ first.there) in
        omega arith

    elsewhere : (i : ℕ) → i < length js → (start + i ≡ q → ⊥)
        → slice_get (set rows q x) (start + i) ≡ option_map (renamed x y) (slice_get js i)
    elsewhere i m n =
        let r = some_read js i m in
        let j : ℕ = r.0 in
        let is : slice_get js i ≡ Some j = r.1 in
        let other : j ≡ y → ⊥ = λ e. n (at_first i m (is ∙ ap Some e)) in
        read_other rows q (start + i) x n ∙ h.at i m ∙ is
        ∙ sym (ap (option_map (renamed x y)) is ∙ ap Some (kept_name x y j other))

-- what is greater than a list is above what that is above
pub above_more : (o : Option ℕ) (k j : ℕ) → IsAbove o k → k < j → IsAbove o j
above_more None k j a l = tt
above_more (Some list) k j a l = let b : list < k = a in omega arith

-- the row of a list that is greater than that of the part that gives way stays
row_stays : (f : Frame) (x y : ℕ) (o slot : Option ℕ) (k start : ℕ) (js : List ℕ) → slice_get f.owners y ≡ Some o
    → IsSlotOf f o y slot → IsAbove o k → StandFrom f.rows start js
    → ((i j : ℕ) → slice_get js i ≡ Some j → slice_get f.owners j ≡ Some (Some k)) → StandFrom (put_at slot x f.rows) start js
row_stays f x y o slot k start js own at a h owned =
    row_kept f o slot x y start js at h (λ i e. not_above o k a (same_Some _ _ (sym own ∙ owned i y e)))
  where
    not_above : (p : Option ℕ) (k : ℕ) → IsAbove p k → p ≡ Some k → ⊥
    not_above None k b e = cc
    not_above (Some list) k b e = let c : list < k = b in let g : list ≡ k = same_Some _ _ e in omega arith

-- the row of a list after a part is hung: the part that gives way is renamed
branch_row : (f : Frame) (o slot : Option ℕ) (x y k start : ℕ) (order : Order) (ts : Trees)
    → slice_get f.owners y ≡ Some o → IsListed f o y → IsSlotOf f o y slot
    → slice_get f.parts k ≡ Some (Row order start (count ts)) → StandFrom f.rows start (tops ts) → AllStand f k ts
    → StandFrom (put_at slot x f.rows) start (map (renamed x y) (tops ts))
branch_row f None slot x y k start order ts own listed at part stand all =
    let none : (i : ℕ) → slice_get (tops ts) i ≡ Some y → ⊥ =
    λ i e. no_list k (same_Some _ _ (sym own ∙ tops_owned f k ts all i y e)) in
    subst (StandFrom (put_at slot x f.rows) start) (sym (kept_names x y (tops ts) none))
    (row_kept f None slot x y start (tops ts) at stand none)
  where
    no_list : (k : ℕ) → ◌≡◌ {A = Option ℕ} None (Some k) → ⊥
    no_list k e = cc
branch_row f (Some list) slot x y k start order ts own listed at part stand all =
    ⊎_elim (λ e. inside e) (λ n. outside n) (cases_eq list k)
  where
    outside : (list ≡ k → ⊥) → StandFrom (put_at slot x f.rows) start (map (renamed x y) (tops ts))
    outside n =
        let none : (i : ℕ) → slice_get (tops ts) i ≡ Some y → ⊥ =
        λ i e. n (same_Some _ _ (same_Some _ _ (sym own ∙ tops_owned f k ts all i y e))) in
        subst (StandFrom (put_at slot x f.rows) start) (sym (kept_names x y (tops ts) none))
        (row_kept f (Some list) slot x y start (tops ts) at stand none)

    inside : list ≡ k → StandFrom (put_at slot x f.rows) start (map (renamed x y) (tops ts))
    inside e =
        let js : List ℕ = listed.0 in
        let r : HasRow f list js = listed.1 in
        let is : slice_get f.parts k ≡ Some (Row r.span.order r.span.start r.span.many)
        = ap (slice_get f.parts) (sym e) ∙ r.is in
        let p : Row r.span.order r.span.start r.span.many ≡ Row order start (count ts)
        = same_part f k _ _ is part in
        let begins : r.span.start ≡ start = cc in
        let as_many : r.span.many ≡ count ts = cc in
        let rows : StandFrom f.rows start js = subst (λ n. StandFrom f.rows n js) begins r.stand in
        let same : js ≡ tops ts = same_row f.rows start js (tops ts) rows stand
        (omega (arith, r.many, as_many, length-tops ts)) in
        let s : Span = at.2.0 in
        let found : IsFirstFrom f.rows s.start y at.0 = at.2.2 in
        let spanned : slice_get f.parts k ≡ Some (Row s.order s.start s.many)
        = ap (slice_get f.parts) (sym e) ∙ at.2.1 in
        let q : Row s.order s.start s.many ≡ Row order start (count ts) = same_part f k _ _ spanned part in
        let from : s.start ≡ start = cc in
        let first : IsFirstFrom f.rows start y at.0 = subst (λ n. IsFirstFrom f.rows n y at.0) from found in
        let once : (h i j : ℕ) → slice_get (tops ts) h ≡ Some j → slice_get (tops ts) i ≡ Some j → h ≡ i
        = subst (λ (is : List ℕ). (h i j : ℕ) → slice_get is h ≡ Some j → slice_get is i ≡ Some j → h ≡ i) same r.once in
        subst (λ (p : Option ℕ). StandFrom (put_at p x f.rows) start (map (renamed x y) (tops ts))) (sym at.1)
        (renamed_row f.rows start at.0 x y (tops ts) stand once first)

module _ (f : Frame) (x y : ℕ) (o : Option ℕ) (slot : Option ℕ) (own : slice_get f.owners y ≡ Some o)
    (listed : IsListed f o y) (at : IsSlotOf f o y slot) where
  -- a tree whose numbers are greater than those of the part that is hung and of its list stays
  mutual
    stays : (p : Option ℕ) (t : Tree) → Stands f p t → x < top t → IsAbove o (top t) → Stands (hung x o slot f) p t
    stays p Gone h l a = h
    stays p (Leaf k cell immediate) h l a =
        record { part = h.part; owner = read_other f.owners x k o (λ e. omega arith) ∙ h.owner }
    stays p (Branch k order ts) h l a =
        let l' : x ≤ k = omega arith in (
          h.0,
          record { part = h.1.part; owner = read_other f.owners x k o (λ e. omega arith) ∙ h.1.owner },
          row_stays f x y o slot k h.0 (tops ts) own at a h.2 (tops_owned f k ts h.3),
          all_stay k ts h.3 l' a,
        )

    all_stay : (k : ℕ) (ts : Trees) → AllStand f k ts → x ≤ k → IsAbove o k → AllStand (hung x o slot f) k ts
    all_stay k NoTree h l a = tt
    all_stay k (With t ts) h l a = (
      h.0,
      stays (Some k) t h.1 (let m : k < top t = h.0 in omega arith) (above_more o k (top t) a h.0),
      all_stay k ts h.2 l a,
    )

  -- the tree of the part that is hung is a part of the list
  pub stands_hung : (p : Option ℕ) (t : Tree) → Stands f p t → x ≡ top t → x < length f.owners → IsAbove o x
      → Stands (hung x o slot f) o t
  stands_hung p Gone h e l a = h
  stands_hung p (Leaf k cell immediate) h e l a =
      record { part = h.part; owner = ap (slice_get (set f.owners x o)) (sym e) ∙ read_set f.owners x o l }
  stands_hung p (Branch k order ts) h e l a =
      let b : IsAbove o k = subst (IsAbove o) e a in (
        h.0,
        record { part = h.1.part; owner = ap (slice_get (set f.owners x o)) (sym e) ∙ read_set f.owners x o l },
        row_stays f x y o slot k h.0 (tops ts) own at b h.2 (tops_owned f k ts h.3),
        all_stay k ts h.3 (omega arith) b,
      )

  module _ (s : Tree) (new : Stands (hung x o slot f) o s) (is : top s ≡ x) (above : IsAbove o x)
      (apart : (k : ℕ) → (k ≡ y → ⊥) → slice_get f.owners x ≡ Some (Some k) → ⊥) where
    -- a part of a list gives way, or stands with another in the place of a part of it
    one_replaced : (k : ℕ) (t : Tree) → k < top t → Stands f (Some k) t → (k ≡ y → ⊥)
        → ((top t ≡ y → ⊥) → (top t ≡ x → ⊥)
        → Stands (hung x o slot f) (Some k) (replaced y s t) × (top (replaced y s t) ≡ top t))
        → (k < top (replaced y s t)) × Stands (hung x o slot f) (Some k) (replaced y s t)
        × (top (replaced y s t) ≡ renamed x y (top t))
    one_replaced k t l h n below =
        ⊎_elim
        (λ e.
        let put : replaced y s t ≡ s = replaced_top y s t f (Some k) h e in
        let list : o ≡ Some k = same_Some o (Some k) (sym own ∙ ap (slice_get f.owners) (sym e) ∙ top_owned f (Some k) t h) in
        subst
        (λ (r : Tree). (k < top r) × Stands (hung x o slot f) (Some k) r × (top r ≡ renamed x y (top t))) (sym put) (
          (let b : k < x = subst (λ (q : Option ℕ). IsAbove q x) list above in omega arith),
          subst (λ (q : Option ℕ). Stands (hung x o slot f) q s) list new,
          is ∙ sym (new_name x y (top t) e),
        ))
        (λ m.
        let r = below m (λ e. apart k n (ap (slice_get f.owners) (sym e) ∙ top_owned f (Some k) t h)) in
        ((let e = r.1 in omega arith), r.0, r.1 ∙ sym (kept_name x y (top t) m)))
        (cases_eq (top t) y)

    -- a tree stands with another in the place of a part
    mutual
      pub stands_replaced : (p : Option ℕ) (t : Tree) → Stands f p t → (top t ≡ y → ⊥) → (top t ≡ x → ⊥)
          → Stands (hung x o slot f) p (replaced y s t) × (top (replaced y s t) ≡ top t)
      stands_replaced p Gone h n m = absurd h
      stands_replaced p (Leaf k cell immediate) h n m =
          subst (λ (r : Tree). Stands (hung x o slot f) p r × (top r ≡ k))
          (sym (ap (λ b. cond b s (Leaf k cell immediate)) (ne_eqb k y n)))
          (record { part = h.part; owner = read_other f.owners x k o m ∙ h.owner }, refl)
      stands_replaced p (Branch k order ts) h n m =
          let all = all_replaced k ts h.3 n in
          let many : count (replaced_among y s ts) ≡ count ts
          = sym (length-tops (replaced_among y s ts)) ∙ ap length all.1
          ∙ length-map (tops ts) (renamed x y) ∙ length-tops ts in
          subst (λ (r : Tree). Stands (hung x o slot f) p r × (top r ≡ k))
          (sym (ap (λ b. cond b s (Branch k order (replaced_among y s ts))) (ne_eqb k y n))) (
            (
              h.0,
              record {
                part = h.1.part ∙ ap (λ n. Some (Row order h.0 n)) (sym many);
                owner = read_other f.owners x k o m ∙ h.1.owner;
              },
              subst (StandFrom (put_at slot x f.rows) h.0) (sym all.1)
                  (branch_row f o slot x y k h.0 order ts own listed at h.1.part h.2 h.3),
              all.0,
            ),
            refl,
          )

      -- the same holds of the parts of a list
      all_replaced : (k : ℕ) (ts : Trees) → AllStand f k ts → (k ≡ y → ⊥)
          → AllStand (hung x o slot f) k (replaced_among y s ts)
          × (tops (replaced_among y s ts) ≡ map (renamed x y) (tops ts))
      all_replaced k NoTree h n = (tt, refl)
      all_replaced k (With t ts) h n =
          let behind = all_replaced k ts h.2 n in
          let first = one_replaced k t h.0 h.1 n (λ m v. stands_replaced (Some k) t h.1 m v) in
          ((first.0, first.1, behind.0), ap₂ ◌∷◌ first.2 behind.1)
