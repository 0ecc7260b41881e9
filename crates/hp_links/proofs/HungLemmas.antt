-- The whole network once a part is hung in the place of another.
use Rattle.std.proofs.Common.{◌≡◌, ℕ, zero, suc, ◌<◌, ◌⊎◌, ⊎_elim, inl, inr, length, Option, Some, None, refl, sym, ap, subst, ◌∙◌, arith}
use Rattle.std.specs.Prelude.{slice_get}
use Rattle.std.specs.List.{Contains}
use Rattle.std.proofs.lemmas.Bool.{cases_eq}
use Rattle.std.proofs.lemmas.Option.{same_Some}
use Rattle.hp_links.specs.Changing.{IsListed, IsSlotOf, IsAbove, hung, root_after}
use Rattle.hp_links.specs.Frames.{Frame, top, tops, Stands, AllStand, StandsAlone, IsWhole}
use Rattle.hp_links.specs.Labelled.{Tree, Trees, Gone, Leaf, Branch, NoTree, With, numbers, number_of, AreApart, IsFull, AreFull, replaced}
use Rattle.hp_links.proofs.HangLemmas.{top_owned, stands_hung, stands_replaced, replaced_top}
use Rattle.hp_links.proofs.ParentLemmas.{parent_of, parent_row}

-- a tree that stands has its number
pub number_top : (f : Frame) (p : Option ℕ) (t : Tree) → Stands f p t → number_of t ≡ Some (top t)
number_top f p Gone h = absurd h
number_top f p (Leaf k cell immediate) h = refl
number_top f p (Branch k order ts) h = refl

-- a tree that is no part of a list stands alone
pub alone : (f : Frame) (t : Tree) → Stands f None t → StandsAlone f t
alone f Gone h = tt
alone f (Leaf k cell immediate) h = h
alone f (Branch k order ts) h = h

-- a part of a list stands, and its number is greater than the list's
pub nth_part : (f : Frame) (k : ℕ) (ts : Trees) (i j : ℕ) → AllStand f k ts → AreFull ts → slice_get (tops ts) i ≡ Some j
    → (t : Tree) × Stands f (Some k) t × IsFull t × (top t ≡ j) × (k < j)
nth_part f k NoTree i j h full e = absurd cc
nth_part f k (With t ts) zero j h full e =
    let is : top t ≡ j = same_Some _ _ e in
    let l = h.0 in
    (t, h.1, full.0, is, omega arith)
nth_part f k (With t ts) (suc i) j h full e = nth_part f k ts i j h.2 full.1 e

-- a part is listed below its owner and has a greater number; it is the whole, or has an owner
pub record Placed (f : Frame) (w : Tree) (y : ℕ) (o : Option ℕ) : Type 0 where
  pub listed : IsListed f o y
  pub above : IsAbove o y
  pub owner : (top w ≡ y) ⊎ ((list : ℕ) × (o ≡ Some list))

pub listed_above : (f : Frame) (w : Tree) (y : ℕ) (o : Option ℕ) → Stands f None w → IsFull w → AreApart (numbers w)
    → Contains (numbers w) y → slice_get f.owners y ≡ Some o → Placed f w y o
listed_above f w y o h full a c own =
    ⊎_elim
    (λ e.
    let none : None ≡ o = same_Some None o (sym (top_owned f None w h) ∙ ap (slice_get f.owners) e ∙ own) in
    subst (λ (p : Option ℕ). Placed f w y p) none (record { listed = tt; above = tt; owner = inl e }))
    (λ r.
    let row = parent_row f w y r in
    let some : Some r.list ≡ o = same_Some (Some r.list) o (sym row.1 ∙ own) in
    let part = nth_part f r.list r.parts r.place y r.stands.3 r.full.1 r.at in
    subst (λ (p : Option ℕ). Placed f w y p) some
    (record { listed = (tops r.parts, row.0, (r.place, r.at)); above = part.4; owner = inr (r.list, refl) }))
    (parent_of f None w y h full a c)

-- the whole network once a part is hung in the place of another
pub hung_whole : (f : Frame) (root : Option ℕ) (w s : Tree) (x y : ℕ) (o slot p : Option ℕ) → IsWhole f root w
    → Stands f None w → slice_get f.owners y ≡ Some o → Placed f w y o → IsSlotOf f o y slot → x < length f.owners
    → IsAbove o x → Stands f p s → x ≡ top s
    → ((k : ℕ) → (k ≡ y → ⊥) → slice_get f.owners x ≡ Some (Some k) → ⊥) → (top w ≡ x → ⊥)
    → IsWhole (hung x o slot f) (root_after slot x root) (replaced y s w)
hung_whole f root w s x y o slot p whole h own place at room above stands is apart other =
    let new = stands_hung f x y o slot own place.listed at p s stands is room above in
    ⊎_elim (λ e. of_whole e new) (λ n. below n new) (cases_eq (top w) y)
  where
    of_whole : top w ≡ y → Stands (hung x o slot f) o s → IsWhole (hung x o slot f) (root_after slot x root) (replaced y s w)
    of_whole e new =
        let none : o ≡ None = same_Some o None (sym own ∙ ap (slice_get f.owners) (sym e) ∙ top_owned f None w h) in
        let no_slot : slot ≡ None = slot_none o none at in
        subst (IsWhole (hung x o slot f) (root_after slot x root)) (sym (replaced_top y s w f None h e))
        (record {
          is =
              ap (λ (q : Option ℕ). root_after q x root) no_slot ∙ ap Some is
              ∙ sym (number_top (hung x o slot f) o s new);
          stands = alone (hung x o slot f) s (subst (λ (q : Option ℕ). Stands (hung x o slot f) q s) none new);
        })
      where
        slot_none : (q : Option ℕ) → q ≡ None → IsSlotOf f q y slot → slot ≡ None
        slot_none None e u = u
        slot_none (Some list) e u = absurd cc

    below : (top w ≡ y → ⊥) → Stands (hung x o slot f) o s
        → IsWhole (hung x o slot f) (root_after slot x root) (replaced y s w)
    below n new =
        let r = stands_replaced f x y o slot own place.listed at s new (sym is) above apart None w h n other in
        let list : (l : ℕ) × (o ≡ Some l) = ⊎_elim (λ e. absurd (n e)) (λ l. l) place.owner in
        let slotted = some_slot o list.0 list.1 at in
        record {
          is =
              ap (λ (q : Option ℕ). root_after q x root) slotted.1 ∙ whole.is ∙ number_top f None w h
              ∙ ap Some (sym r.1) ∙ sym (number_top (hung x o slot f) None (replaced y s w) r.0);
          stands = alone (hung x o slot f) (replaced y s w) r.0;
        }
      where
        some_slot : (q : Option ℕ) (l : ℕ) → q ≡ Some l → IsSlotOf f q y slot → (z : ℕ) × (slot ≡ Some z)
        some_slot None l e u = absurd cc
        some_slot (Some list) l e u = (u.0, u.1)
