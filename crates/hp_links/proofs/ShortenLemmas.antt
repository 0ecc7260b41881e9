-- A task is taken out of the row of its list.
use Rattle.std.proofs.Common.{◌≡◌, ℕ, zero, suc, ◌+◌, ◌-◌, ◌<◌, ◌≤◌, ◌⊎◌, ⊎_elim, inl, inr, Bool, cond, not, List, [], ◌∷◌, length, Option, Some, refl, sym, ap, ap₂, subst, ◌∙◌, arith, eq-eqb}
use Rattle.std.specs.Prelude.{slice_get}
use Rattle.std.specs.List.{remove}
use Rattle.std.proofs.lemmas.Bool.{cases_eq, cases_lt, ne_eqb}
use Rattle.std.proofs.lemmas.List.Edits.{length-remove}
use Rattle.std.proofs.lemmas.Option.{same_Some, slice_get_within}
use Rattle.hp_links.specs.declared.links.Part.TheVariants.{Task, Row}
use Rattle.hp_links.specs.declared.entry.Order.{Order}
use Rattle.hp_links.specs.Changing.{HasRow, but, shortened}
use Rattle.hp_links.specs.Frames.{Frame, top, tops, StandFrom, Stands, AllStand}
use Rattle.hp_links.specs.Labelled.{Tree, Trees, Gone, Leaf, Branch, NoTree, With, count, IsFull, AreFull, unless_gone, as_branch, without, without_among}
use Rattle.hp_links.specs.Turning.{turned_right}
use Rattle.hp_links.proofs.HangLemmas.{tops_owned, same_row, same_part}
use Rattle.hp_links.proofs.ListSteps.{read_set, read_other, some_read, read_removed_below, read_removed_above, turned_below, turned_within, turned_above}
use Rattle.hp_links.proofs.TreeLemmas.{length-tops}

-- numbers without one that is not among them are those numbers
pub but_none : (x : ℕ) (js : List ℕ) → ((i : ℕ) → slice_get js i ≡ Some x → ⊥) → but x js ≡ js
but_none x [] n = refl
but_none x (j ∷ js) n =
    ap (λ b. cond (not b) (j ∷ but x js) (but x js)) (ne_eqb j x (λ e. n 0 (ap Some e)))
    ∙ ap (λ ks. j ∷ ks) (but_none x js (λ i. n (suc i)))

-- numbers without one that stands once among them are those without its place
pub but_removed : (x n : ℕ) (js : List ℕ) → slice_get js n ≡ Some x
    → ((h i j : ℕ) → slice_get js h ≡ Some j → slice_get js i ≡ Some j → h ≡ i) → but x js ≡ remove js n
but_removed x n [] e once = absurd cc
but_removed x zero (j ∷ js) e once =
    let same : j ≡ x = same_Some j x e in
    ap (λ b. cond (not b) (j ∷ but x js) (but x js)) (eq-eqb j x same)
    ∙ but_none x js (λ i g. let h : 0 ≡ suc i = once 0 (suc i) x e g in omega arith)
but_removed x (suc n) (j ∷ js) e once =
    let other : j ≡ x → ⊥ = λ g. let h : 0 ≡ suc n = once 0 (suc n) x (ap Some g) e in omega arith in
    ap (λ b. cond (not b) (j ∷ but x js) (but x js)) (ne_eqb j x other)
    ∙ ap (λ ks. j ∷ ks)
    (but_removed x n js e (λ h i k p q. let r : suc h ≡ suc i = once (suc h) (suc i) k p q in omega arith))

-- a row that lost the number at a place stands one place later
row_shortened : (rows : List ℕ) (start n : ℕ) (js : List ℕ) → StandFrom rows start js → n < length js
    → start + n < length rows → StandFrom (turned_right start (start + n) rows) (start + 1) (remove js n)
row_shortened rows start n js h l m = record {
  at = λ i k.
      let few = length-remove js n l in
      let near : i < length (remove js n) = k in
      ⊎_elim
      (λ b.
      let e : (start + 1) + i ≡ suc (start + i) = omega arith in
      ap (slice_get (turned_right start (start + n) rows)) e
      ∙ turned_within rows start (start + n) (start + i) (omega arith) m (omega arith) (omega arith)
      ∙ h.at i (omega arith) ∙ sym (read_removed_below js n i b))
      (λ b.
      let e : (start + 1) + i ≡ suc (start + i) = omega arith in
      let g : suc (start + i) ≡ start + suc i = omega arith in
      ap (slice_get (turned_right start (start + n) rows)) e
      ∙ turned_above rows start (start + n) (start + i) (omega arith) m (omega arith)
      ∙ ap (slice_get rows) g ∙ h.at (suc i) (omega arith) ∙ sym (read_removed_above js n i b))
      (cases_lt i n);
}

-- a place outside a part that is turned reads as before
outside_turned : (rows : List ℕ) (start end k : ℕ) → start ≤ end → end < length rows → (k < start) ⊎ (end < k)
    → slice_get (turned_right start end rows) k ≡ slice_get rows k
outside_turned rows start end k l m (inl h) = turned_below rows start end k l m h
outside_turned rows start end zero l m (inr h) = absurd (omega arith)
outside_turned rows start end (suc k) l m (inr h) = turned_above rows start end k l m (omega arith)

-- a tree that stands is something
pub unless_standing : (f : Frame) (p : Option ℕ) (t : Tree) (ts : Trees) → Stands f p t → unless_gone t ts ≡ With t ts
unless_standing f p Gone ts h = absurd h
unless_standing f p (Leaf k cell immediate) ts h = refl
unless_standing f p (Branch k order us) ts h = refl

-- two parts or more are a list
pub many_as_branch : (k : ℕ) (order : Order) (ts : Trees) → 2 ≤ count ts → as_branch k order ts ≡ Branch k order ts
many_as_branch k order NoTree l = absurd (omega arith)
many_as_branch k order (With t NoTree) l = absurd (omega arith)
many_as_branch k order (With t (With u ts)) l = refl

-- the tree of a task's number is that task
pub is_leaf : (f : Frame) (p : Option ℕ) (t : Tree) (x cell : ℕ) (immediate : Bool) → Stands f p t → top t ≡ x
    → slice_get f.parts x ≡ Some (Task cell immediate) → t ≡ Leaf x cell immediate
is_leaf f p Gone x cell immediate h e task = absurd h
is_leaf f p (Leaf k c i) x cell immediate h e task =
    let same : Task c i ≡ Task cell immediate = same_part f x _ _ (ap (slice_get f.parts) (sym e) ∙ h.part) task in cc
is_leaf f p (Branch k order ts) x cell immediate h e task =
    let same : Row order h.0 (count ts) ≡ Task cell immediate =
    same_part f x _ _ (ap (slice_get f.parts) (sym e) ∙ h.1.part) task in
    absurd cc

-- a task that is taken out is nothing
pub leaf_out : (f : Frame) (p : Option ℕ) (t : Tree) (x cell : ℕ) (immediate : Bool) → Stands f p t → top t ≡ x
    → slice_get f.parts x ≡ Some (Task cell immediate) → without x t ≡ Gone
leaf_out f p t x cell immediate h e task =
    ap (without x) (is_leaf f p t x cell immediate h e task)
    ∙ ap (λ b. cond b Gone (Leaf x cell immediate)) (eq-eqb x x refl)

module _ (f : Frame) (list : ℕ) (js : List ℕ) (r : HasRow f list js) (x n cell : ℕ) (immediate : Bool)
    (there : slice_get js n ≡ Some x) (task : slice_get f.parts x ≡ Some (Task cell immediate)) where
  -- the row of another list stays
  other_row : (k start : ℕ) (is : List ℕ) → (k ≡ list → ⊥) → StandFrom f.rows start is
      → ((i j : ℕ) → slice_get is i ≡ Some j → slice_get f.owners j ≡ Some (Some k))
      → StandFrom (turned_right r.span.start (r.span.start + n) f.rows) start is
  other_row k start is other h owned = record {
    at = λ i l. outside_turned f.rows r.span.start (r.span.start + n) (start + i) (omega arith) end (away i l) ∙ h.at i l;
  }
    where
      within : n < length js
      within = slice_get_within js n x there

      end : r.span.start + n < length f.rows
      end = slice_get_within f.rows (r.span.start + n) x (r.stand.at n within ∙ there)

      -- no part of the other list stands in this list's row
      inside : (i m : ℕ) → i < length is → m < length js → start + i ≡ r.span.start + m → ⊥
      inside i m l k' e =
          let one = some_read js m k' in
          let j : ℕ = one.0 in
          let read : slice_get js m ≡ Some j = one.1 in
          let same : slice_get is i ≡ Some j =
          sym (h.at i l) ∙ ap (slice_get f.rows) e ∙ r.stand.at m k' ∙ read in
          other (same_Some k list (same_Some _ _ (sym (owned i j same) ∙ r.owned m j read)))

      away : (i : ℕ) → i < length is → (start + i < r.span.start) ⊎ (r.span.start + n < start + i)
      away i l =
          ⊎_elim (λ b. inl b)
          (λ b.
          ⊎_elim (λ d. inr d)
          (λ d.
          absurd (inside i ((start + i) - r.span.start) l (omega (arith, within)) (omega arith)))
          (cases_lt (r.span.start + n) (start + i)))
          (cases_lt (start + i) r.span.start)

  -- the list that the tree of a list's number has its parts from
  pub same_tops : (k start : ℕ) (order : Order) (ts : Trees) → k ≡ list
      → slice_get f.parts k ≡ Some (Row order start (count ts)) → StandFrom f.rows start (tops ts)
      → (js ≡ tops ts) × (r.span.order ≡ order) × (r.span.start ≡ start) × (r.span.many ≡ count ts)
  same_tops k start order ts e part stand =
      let is : slice_get f.parts k ≡ Some (Row r.span.order r.span.start r.span.many)
      = ap (slice_get f.parts) e ∙ r.is in
      let p : Row r.span.order r.span.start r.span.many ≡ Row order start (count ts) = same_part f k _ _ is part in
      let begins : r.span.start ≡ start = cc in
      let ordered : r.span.order ≡ order = cc in
      let as_many : r.span.many ≡ count ts = cc in
      let rows : StandFrom f.rows start js = subst (λ n. StandFrom f.rows n js) begins r.stand in (
        same_row f.rows start js (tops ts) rows stand (omega (arith, r.many, as_many, length-tops ts)),
        ordered,
        begins,
        as_many,
      )

  -- a part of a list goes where it is the task, and else stands without it
  one_shortened : (k : ℕ) (t : Tree) (ts us : Trees) → k < top t → Stands f (Some k) t
      → AllStand (shortened list r.span (r.span.start + n) f) k us → (tops us ≡ but x (tops ts))
      → ((top t ≡ x → ⊥)
      → Stands (shortened list r.span (r.span.start + n) f) (Some k) (without x t) × (top (without x t) ≡ top t))
      → AllStand (shortened list r.span (r.span.start + n) f) k (unless_gone (without x t) us)
      × (tops (unless_gone (without x t) us) ≡ but x (top t ∷ tops ts))
  one_shortened k t ts us l h all behind below =
      ⊎_elim
      (λ e.
      subst
      (λ (w : Tree). AllStand (shortened list r.span (r.span.start + n) f) k (unless_gone w us)
      × (tops (unless_gone w us) ≡ but x (top t ∷ tops ts)))
      (sym (leaf_out f (Some k) t x cell immediate h e task))
      (all, behind ∙ sym (ap (λ b. cond (not b) (top t ∷ but x (tops ts)) (but x (tops ts))) (eq-eqb (top t) x e))))
      (λ o.
      let w = below o in
      subst
      (λ (vs : Trees). AllStand (shortened list r.span (r.span.start + n) f) k vs × (tops vs ≡ but x (top t ∷ tops ts)))
      (sym (unless_standing (shortened list r.span (r.span.start + n) f) (Some k) (without x t) us w.0)) (
        ((let e = w.1 in omega arith), w.0, all),
        ap₂ ◌∷◌ w.1 behind
            ∙ sym (ap (λ b. cond (not b) (top t ∷ but x (tops ts)) (but x (tops ts))) (ne_eqb (top t) x o)),
      ))
      (cases_eq (top t) x)

  module _ (three : 3 ≤ length js) where
    -- a list without the task stands, with one part less where it was its list
    branch_shortened : (p : Option ℕ) (k : ℕ) (order : Order) (ts us : Trees) → Stands f p (Branch k order ts)
        → 2 ≤ count ts → AllStand (shortened list r.span (r.span.start + n) f) k us → (tops us ≡ but x (tops ts))
        → Stands (shortened list r.span (r.span.start + n) f) p (as_branch k order us)
        × (top (as_branch k order us) ≡ k)
    branch_shortened p k order ts us h two all is =
        ⊎_elim (λ e. own e) (λ o. other o) (cases_eq k list)
      where
        other : (k ≡ list → ⊥) → Stands (shortened list r.span (r.span.start + n) f) p (as_branch k order us) × (top (as_branch k order us) ≡ k)
        other o =
            let none : (i : ℕ) → slice_get (tops ts) i ≡ Some x → ⊥ =
            λ i e.
            o (same_Some _ _ (same_Some _ _ (sym (tops_owned f k ts h.3 i x e) ∙ r.owned n x there))) in
            let same : tops us ≡ tops ts = is ∙ but_none x (tops ts) none in
            let many : count us ≡ count ts = sym (length-tops us) ∙ ap length same ∙ length-tops ts in
            subst (λ (t : Tree). Stands (shortened list r.span (r.span.start + n) f) p t × (top t ≡ k)) (sym (many_as_branch k order us (omega arith))) (
              (
                h.0,
                record {
                  part =
                      read_other f.parts list k _ o ∙ h.1.part ∙ ap (λ m. Some (Row order h.0 m)) (sym many);
                  owner = h.1.owner;
                },
                subst (StandFrom (shortened list r.span (r.span.start + n) f).rows h.0) (sym same) (other_row k h.0 (tops ts) o h.2 (tops_owned f k ts h.3)),
                all,
              ),
              refl,
            )

        own : k ≡ list → Stands (shortened list r.span (r.span.start + n) f) p (as_branch k order us) × (top (as_branch k order us) ≡ k)
        own e =
            let t = same_tops k h.0 order ts e h.1.part h.2 in
            let same : tops us ≡ remove js n =
            is ∙ ap (but x) (sym t.0) ∙ but_removed x n js there r.once in
            let within : n < length js = slice_get_within js n x there in
            let few = length-remove js n within in
            let end : r.span.start + n < length f.rows =
            slice_get_within f.rows (r.span.start + n) x (r.stand.at n within ∙ there) in
            let many : count us + 1 ≡ count ts =
            omega (arith, length-tops us, ap length same, few, ap length t.0, length-tops ts) in
            let at : slice_get (shortened list r.span (r.span.start + n) f).parts k ≡ Some (Row r.span.order (r.span.start + 1) (r.span.many - 1)) =
            ap (slice_get (shortened list r.span (r.span.start + n) f).parts) e
            ∙ read_set f.parts list _ (slice_get_within f.parts list _ r.is) in
            let less : r.span.many - 1 ≡ count us = omega (arith, t.3, many) in
            subst (λ (w : Tree). Stands (shortened list r.span (r.span.start + n) f) p w × (top w ≡ k))
            (sym (many_as_branch k order us (omega (arith, many, ap length t.0, length-tops ts)))) (
              (
                r.span.start + 1,
                record {
                  part = at ∙ ap₂ (λ o m. Some (Row o (r.span.start + 1) m)) t.1 less;
                  owner = h.1.owner;
                },
                subst (StandFrom (shortened list r.span (r.span.start + n) f).rows (r.span.start + 1)) (sym same) (row_shortened f.rows r.span.start n js r.stand within end),
                all,
              ),
              refl,
            )

    -- a tree stands without the task
    mutual
      pub stands_shortened : (p : Option ℕ) (t : Tree) → Stands f p t → IsFull t → (top t ≡ x → ⊥)
          → Stands (shortened list r.span (r.span.start + n) f) p (without x t) × (top (without x t) ≡ top t)
      stands_shortened p Gone h full o = absurd h
      stands_shortened p (Leaf k c i) h full o =
          let apart : k ≡ list → ⊥ = λ e.
          let q : Task c i ≡ Row r.span.order r.span.start r.span.many
          = same_part f k _ _ h.part (ap (slice_get f.parts) e ∙ r.is) in
          absurd cc in
          subst (λ (t : Tree). Stands (shortened list r.span (r.span.start + n) f) p t × (top t ≡ k))
          (sym (ap (λ b. cond b Gone (Leaf k c i)) (ne_eqb k x o)))
          (record { part = read_other f.parts list k _ apart ∙ h.part; owner = h.owner }, refl)
      stands_shortened p (Branch k order ts) h full o =
          let all = all_shortened k ts h.3 full.1 in
          subst (λ (t : Tree). Stands (shortened list r.span (r.span.start + n) f) p t × (top t ≡ k))
          (sym (ap (λ b. cond b Gone (as_branch k order (without_among x ts))) (ne_eqb k x o)))
          (branch_shortened p k order ts (without_among x ts) h full.0 all.0 all.1)

      -- the same holds of the parts of a list
      all_shortened : (k : ℕ) (ts : Trees) → AllStand f k ts → AreFull ts
          → AllStand (shortened list r.span (r.span.start + n) f) k (without_among x ts)
          × (tops (without_among x ts) ≡ but x (tops ts))
      all_shortened k NoTree h full = (tt, refl)
      all_shortened k (With t ts) h full =
          let behind = all_shortened k ts h.2 full.1 in
          one_shortened k t ts (without_among x ts) h.0 h.1 behind.0 behind.1
          (λ o. stands_shortened (Some k) t h.1 full.0 o)
