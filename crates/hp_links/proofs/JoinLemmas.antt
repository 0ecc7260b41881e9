-- A list that is left with one part gives its place to that part.
use Rattle.std.proofs.Common.{◌≡◌, ℕ, zero, suc, ◌<◌, ◌==◌, ⊎_elim, Bool, cond, List, [], ◌∷◌, length, Option, Some, None, refl, sym, ap, ap₂, subst, ◌∙◌, arith, eq-eqb}
use Rattle.std.specs.Prelude.{slice_get}
use Rattle.std.proofs.lemmas.Bool.{cases_eq, cond_both, ne_eqb}
use Rattle.std.proofs.lemmas.Option.{same_Some}
use Rattle.hp_links.specs.declared.links.Part.TheVariants.{Task, Row}
use Rattle.hp_links.specs.declared.entry.Order.{Order}
use Rattle.hp_links.specs.Changing.{HasRow}
use Rattle.hp_links.specs.Frames.{Frame, top, tops, Stands, AllStand}
use Rattle.hp_links.specs.Labelled.{Tree, Trees, Gone, Leaf, Branch, NoTree, With, count, IsFull, AreFull, unless_gone, as_branch, without, without_among, replaced, replaced_among}
use Rattle.hp_links.specs.Linked.{Linked, tree_of}
use Rattle.hp_links.proofs.ChangeLemmas.{count-replaced}
use Rattle.hp_links.proofs.HangLemmas.{top_owned, same_part}
use Rattle.hp_links.proofs.ShortenLemmas.{unless_standing, many_as_branch, leaf_out, same_tops}
use Rattle.hp_links.proofs.TreeLemmas.{tree_of-top, length-tops}

-- two trees of one number that stand are one
pub one_tree : (f : Frame) (p q : Option ℕ) (t u : Tree) → Stands f p t → Stands f q u → top t ≡ top u → t ≡ u
one_tree f p q t u h g e =
    let s : Linked = record {
      parts = f.parts;
      owners = f.owners;
      rows = f.rows;
      root = None;
      focus = None;
      front = None;
    } in
    sym (tree_of-top s p t h) ∙ ap (tree_of s) e ∙ tree_of-top s q u g

-- below a number greater than another there is no part of that other
mutual
  not_below : (f : Frame) (p : Option ℕ) (t s : Tree) (y : ℕ) → Stands f p t → y < top t → replaced y s t ≡ t
  not_below f p Gone s y h l = refl
  not_below f p (Leaf k cell immediate) s y h l =
      ap (λ b. cond b s (Leaf k cell immediate)) (ne_eqb k y (λ e. omega arith))
  not_below f p (Branch k order ts) s y h l =
      ap (λ b. cond b s (Branch k order (replaced_among y s ts))) (ne_eqb k y (λ e. omega arith))
      ∙ ap (Branch k order) (not_among f k ts s y h.3 l)

  -- the same holds of the parts of a list
  not_among : (f : Frame) (k : ℕ) (ts : Trees) (s : Tree) (y : ℕ) → AllStand f k ts → y < k → replaced_among y s ts ≡ ts
  not_among f k NoTree s y h l = refl
  not_among f k (With t ts) s y h l =
      ap₂ With (not_below f (Some k) t s y h.1 (let m : k < top t = h.0 in omega arith)) (not_among f k ts s y h.2 l)

module _ (f : Frame) (list : ℕ) (js : List ℕ) (r : HasRow f list js) (x cell : ℕ) (immediate : Bool)
    (task : slice_get f.parts x ≡ Some (Task cell immediate)) (owned : slice_get f.owners x ≡ Some (Some list))
    (s : Tree) (alone : Stands f (Some list) s) where
  -- the number of a task is no list
  pub no_list : (k c start many : ℕ) (i : Bool) (order : Order) → slice_get f.parts k ≡ Some (Task c i)
      → slice_get f.parts k ≡ Some (Row order start many) → ⊥
  no_list k c start many i order g h =
      let e : Task c i ≡ Row order start many = same_part f k _ _ g h in absurd cc

  -- the task is a part of its list alone
  not_here : (k : ℕ) (t : Tree) → Stands f (Some k) t → (k ≡ list → ⊥) → top t ≡ x → ⊥
  not_here k t h n e =
      n (same_Some _ _ (same_Some _ _ (sym (ap (slice_get f.owners) (sym e) ∙ top_owned f (Some k) t h) ∙ owned)))

  -- below a number greater than the list's there is no task to take out
  mutual
    kept_below : (p : Option ℕ) (t : Tree) → Stands f p t → IsFull t → (top t ≡ x → ⊥) → list < top t
        → without x t ≡ t
    kept_below p Gone h full o l = refl
    kept_below p (Leaf k c i) h full o l = ap (λ b. cond b Gone (Leaf k c i)) (ne_eqb k x o)
    kept_below p (Branch k order ts) h full o l =
        ap (λ b. cond b Gone (as_branch k order (without_among x ts))) (ne_eqb k x o)
        ∙ ap (as_branch k order) (kept_among k ts h.3 full.1 l)
        ∙ many_as_branch k order ts full.0

    -- the same holds of the parts of a list
    kept_among : (k : ℕ) (ts : Trees) → AllStand f k ts → AreFull ts → list < k → without_among x ts ≡ ts
    kept_among k NoTree h full l = refl
    kept_among k (With t ts) h full l =
        ap₂ unless_gone
        (kept_below (Some k) t h.1 full.0 (not_here k t h.1 (λ e. omega arith))
        (let m : k < top t = h.0 in omega arith)) (kept_among k ts h.2 full.1 l)
        ∙ unless_standing f (Some k) t ts h.1

  -- of two parts the other one is left
  left_over : (order : Order) (k : ℕ) (ts : Trees) → AllStand f list ts → AreFull ts → count ts ≡ 2
      → ((i : ℕ) × (slice_get (tops ts) i ≡ Some x)) → ((i : ℕ) × (slice_get (tops ts) i ≡ Some (top s)))
      → (top s ≡ x → ⊥) → as_branch k order (without_among x ts) ≡ s
  left_over order k NoTree h full n a b o = absurd (omega arith)
  left_over order k (With t NoTree) h full n a b o = absurd (omega arith)
  left_over order k (With t (With u (With v ts))) h full n a b o = absurd (omega arith)
  left_over order k (With t (With u NoTree)) h full n a b o =
      ⊎_elim
      (λ e.
      let at : top u ≡ top s = second (top t) (top u) (top s) b.0 b.1 (λ g. o (sym g ∙ e)) in
      let is : u ≡ s = one_tree f (Some list) (Some list) u s h.2.1 alone at in
      ap (λ w. as_branch k order (unless_gone w (unless_gone (without x u) NoTree)))
      (leaf_out f (Some list) t x cell immediate h.1 e task)
      ∙ ap (λ w. as_branch k order (unless_gone w NoTree))
      (kept_below (Some list) u h.2.1 full.1.0 (λ g. o (sym at ∙ g)) h.2.0)
      ∙ ap (as_branch k order) (unless_standing f (Some list) u NoTree h.2.1)
      ∙ is)
      (λ m.
      let here : top u ≡ x = second (top t) (top u) x a.0 a.1 m in
      let at : top t ≡ top s = first (top t) (top u) (top s) b.0 b.1 (λ g. o (sym g ∙ here)) in
      let is : t ≡ s = one_tree f (Some list) (Some list) t s h.1 alone at in
      ap (λ w. as_branch k order (unless_gone (without x t) (unless_gone w NoTree)))
      (leaf_out f (Some list) u x cell immediate h.2.1 here task)
      ∙ ap (λ w. as_branch k order (unless_gone w NoTree))
      (kept_below (Some list) t h.1 full.0 m h.0)
      ∙ ap (as_branch k order) (unless_standing f (Some list) t NoTree h.1)
      ∙ is)
      (cases_eq (top t) x)
    where
      second : (a b c i : ℕ) → slice_get (a ∷ b ∷ []) i ≡ Some c → (a ≡ c → ⊥) → b ≡ c
      second a b c zero e o = absurd (o (same_Some a c e))
      second a b c (suc zero) e o = same_Some b c e
      second a b c (suc (suc i)) e o = absurd cc

      first : (a b c i : ℕ) → slice_get (a ∷ b ∷ []) i ≡ Some c → (b ≡ c → ⊥) → a ≡ c
      first a b c zero e o = same_Some a c e
      first a b c (suc zero) e o = absurd (o (same_Some b c e))
      first a b c (suc (suc i)) e o = absurd cc

  -- with another part in the place of one a tree stays something
  some_replaced : (p : Option ℕ) (t : Tree) (ts : Trees) → Stands f p t
      → unless_gone (replaced list s t) ts ≡ With (replaced list s t) ts
  some_replaced p Gone ts h = absurd h
  some_replaced p (Leaf k c i) ts h =
      cond_both (k == list) s (Leaf k c i) (λ t. unless_gone t ts ≡ With t ts)
      (λ e. unless_standing f (Some list) s ts alone) (λ e. refl)
  some_replaced p (Branch k order us) ts h =
      cond_both (k == list) s (Branch k order (replaced_among list s us)) (λ t. unless_gone t ts ≡ With t ts)
      (λ e. unless_standing f (Some list) s ts alone) (λ e. refl)

  module _ (two : length js ≡ 2) (there : (i : ℕ) × (slice_get js i ≡ Some x))
      (rest : (i : ℕ) × (slice_get js i ≡ Some (top s))) (other : top s ≡ x → ⊥) where
    -- the list itself without the task is its other part
    pub own_joined : (p : Option ℕ) (k : ℕ) (order : Order) (ts : Trees) → Stands f p (Branch k order ts) → AreFull ts
        → k ≡ list → as_branch k order (without_among x ts) ≡ s
    own_joined p k order ts h full e =
        let same : js ≡ tops ts = (same_tops f list js r x there.0 cell immediate there.1 task k h.0 order ts e h.1.part h.2).0 in
        left_over order k ts (subst (λ (l : ℕ). AllStand f l ts) e h.3) full
        (sym (length-tops ts) ∙ sym (ap length same) ∙ two)
        (there.0, ap (λ (is : List ℕ). slice_get is there.0) (sym same) ∙ there.1)
        (rest.0, ap (λ (is : List ℕ). slice_get is rest.0) (sym same) ∙ rest.1) other

    branch_joined : (p : Option ℕ) (k : ℕ) (order : Order) (ts : Trees) → Stands f p (Branch k order ts)
        → IsFull (Branch k order ts) → ((k ≡ list → ⊥) → without_among x ts ≡ replaced_among list s ts)
        → as_branch k order (without_among x ts) ≡ replaced list s (Branch k order ts)
    branch_joined p k order ts h full all =
        ⊎_elim
        (λ e.
        own_joined p k order ts h full.1 e
        ∙ sym (ap (λ b. cond b s (Branch k order (replaced_among list s ts))) (eq-eqb k list e)))
        (λ n.
        ap (as_branch k order) (all n)
        ∙ many_as_branch k order (replaced_among list s ts) (let l = full.0 in omega (arith, count-replaced list s ts))
        ∙ sym (ap (λ b. cond b s (Branch k order (replaced_among list s ts))) (ne_eqb k list n)))
        (cases_eq k list)

    -- a tree without the task is that tree with the other part in the place of the list
    mutual
      pub joined : (p : Option ℕ) (t : Tree) → Stands f p t → IsFull t → (top t ≡ x → ⊥)
          → without x t ≡ replaced list s t
      joined p Gone h full o = refl
      joined p (Leaf k c i) h full o =
          ap (λ b. cond b Gone (Leaf k c i)) (ne_eqb k x o)
          ∙ sym (ap (λ b. cond b s (Leaf k c i))
          (ne_eqb k list (λ e. no_list k c r.span.start r.span.many i r.span.order h.part (ap (slice_get f.parts) e ∙ r.is))))
      joined p (Branch k order ts) h full o =
          let all = λ (n : k ≡ list → ⊥). all_joined k ts h.3 full.1 n in
          ap (λ b. cond b Gone (as_branch k order (without_among x ts))) (ne_eqb k x o)
          ∙ branch_joined p k order ts h full all

      -- the same holds of the parts of another list
      all_joined : (k : ℕ) (ts : Trees) → AllStand f k ts → AreFull ts → (k ≡ list → ⊥)
          → without_among x ts ≡ replaced_among list s ts
      all_joined k NoTree h full n = refl
      all_joined k (With t ts) h full n =
          ap₂ unless_gone (joined (Some k) t h.1 full.0 (not_here k t h.1 n)) (all_joined k ts h.2 full.1 n)
          ∙ some_replaced (Some k) t (replaced_among list s ts) h.1
