-- Indexes that have room for more atoms, and keys that wait.
use Rattle.std.proofs.Common.{◌≡◌, ℕ, zero, suc, ◌+◌, ◌<◌, ◌≤◌, List, [], ◌∷◌, ◌++◌, Option, Some, None, length, get_or, slice_get, refl, sym, ap, ◌∙◌, subst, arith}
use Rattle.std.specs.Option.{IfSome}
use borrow.Author.Count.{below_more}
use Rattle.hp_syntax.specs.Terms.{Term}
use Rattle.std.specs.Vec.{vec_len, vec_capacity}
use Rattle.hp_world.specs.declared.part_index.PartIndex.TheInside.{Inside}
use Rattle.hp_world.specs.Keyed.{Keyed, keyed_of, IsAsRoomy, waiting_at}
use Rattle.hp_world.specs.Parts.{IsKnownBy}

-- an index that is as roomy as one that is as roomy as another is so too
pub roomier_on : (p q r : Keyed) → IsAsRoomy p q → IsAsRoomy q r → IsAsRoomy p r
roomier_on p q r f g = record {
  part = g.part ∙ f.part;
  atoms = g.atoms ∙ f.atoms;
  entries = g.entries ∙ f.entries;
  keys = omega arith;
  room = omega arith;
}

-- an index with the same atoms and entries, and no less memory, is as roomy
pub begun : (p q : Inside) (k : Keyed) → keyed_of p ≡ k → q.part ≡ p.part → q.atoms.items ≡ p.atoms.items
    → q.chains.entries ≡ p.chains.entries → q.chains.keys ≡ p.chains.keys → vec_capacity p.atoms ≤ vec_capacity q.atoms
    → p.chains.room ≤ q.chains.room → IsAsRoomy k (keyed_of q)
begun p q k is part atoms entries keys capacity room =
    subst (λ (x : Keyed). IsAsRoomy x (keyed_of q)) is
    (record { part = part; atoms = atoms; entries = entries; keys = omega arith; room = omega arith })

-- one with memory for so many more atoms and entries has room for them, and so has one as roomy
pub room_for : (q : Inside) (more : ℕ) (r : Keyed) → length q.atoms.items ≡ length q.chains.entries
    → vec_len q.atoms + more ≤ vec_capacity q.atoms → length q.chains.entries + more ≤ q.chains.room
    → IsAsRoomy (keyed_of q) r → length r.entries + more ≤ r.room
room_for q more r aligned atoms entries h = omega (arith, h.room, ap length h.entries, q.atoms.ok.0)

-- ---- one more key waits

-- what holds of a last key, of none and of each key before holds of each key
pushed_each : (P : Option ℕ → Type 0) (keys : List (Option ℕ)) (key : Option ℕ) → P None → P key
    → ((n : ℕ) → P (get_or keys n None)) → (n : ℕ) → P (get_or (keys ++ key ∷ []) n None)
pushed_each P [] key none last before zero = last
pushed_each P [] key none last before (suc n) = none
pushed_each P (x ∷ xs) key none last before zero = before zero
pushed_each P (x ∷ xs) key none last before (suc n) = pushed_each P xs key none last (λ m. before (suc m)) n

-- the keys before a last key stay where they were
pushed_before : (keys : List (Option ℕ)) (key : Option ℕ) (n : ℕ) → n < length keys
    → get_or (keys ++ key ∷ []) n None ≡ get_or keys n None
pushed_before [] key n l = absurd (omega arith)
pushed_before (x ∷ xs) key zero l = refl
pushed_before (x ∷ xs) key (suc n) l = pushed_before xs key n (omega arith)

-- the last key is behind all others
pushed_last : (keys : List (Option ℕ)) (key : Option ℕ) → get_or (keys ++ key ∷ []) (length keys) None ≡ key
pushed_last [] key = refl
pushed_last (x ∷ xs) key = pushed_last xs key

-- a key below a count is below a larger one
below_more_keys : (few many : ℕ) → few ≤ many → (key : Option ℕ) → IfSome key (λ k. k < few)
    → IfSome key (λ k. k < many)
below_more_keys few many l None h = tt
below_more_keys few many l (Some k) h = omega (arith, h)

-- the item of a place is the one that is read there
same_item : (atoms : List ℕ) (i a b : ℕ) → i < length atoms → b ≡ get_or atoms i b → slice_get atoms i ≡ Some a
    → b ≡ a
same_item [] i a b l is e = absurd (omega arith)
same_item (x ∷ xs) zero a b l is e = cc
same_item (x ∷ xs) (suc i) a b l is e = same_item xs i a b (omega arith) is e

module _ (p q : Keyed) (key : Option ℕ) (same : IsAsRoomy p q) (waits : q.waiting ≡ p.waiting ++ key ∷ []) where
  pub more_below : IfSome key (λ k. k < q.keys) → ((n : ℕ) → IfSome (waiting_at p n) (λ k. k < p.keys)) → (n : ℕ)
      → IfSome (waiting_at q n) (λ k. k < q.keys)
  more_below last before n =
      subst (λ ks. IfSome (get_or ks n None) (λ k. k < q.keys)) (sym waits)
      (pushed_each (λ o. IfSome o (λ k. k < q.keys)) p.waiting key tt last
      (λ m. below_more_keys p.keys q.keys same.keys (waiting_at p m) (before m)) n)

  pub more_right : (terms : List Term) (atoms : List ℕ) (i atom : ℕ) → length p.waiting ≡ i → i < length atoms
      → atom ≡ get_or atoms i atom → IsKnownBy terms p.part atom key
      → ((n a : ℕ) → n < i → slice_get atoms n ≡ Some a → IsKnownBy terms p.part a (waiting_at p n))
      → (n a : ℕ) → n < i + 1 → slice_get atoms n ≡ Some a → IsKnownBy terms q.part a (waiting_at q n)
  more_right terms atoms i atom count l is last before n a k e =
      below_more (λ m. (b : ℕ) → slice_get atoms m ≡ Some b → IsKnownBy terms q.part b (waiting_at q m)) i
      (λ m j b f. moved m b (sym (ap (λ ks. get_or ks m None) waits
      ∙ pushed_before p.waiting key m (omega (arith, j, count)))) (before m b j f))
      (λ b f. moved i b (sym (ap (λ ks. get_or ks i None) waits
      ∙ ap (λ m. get_or (p.waiting ++ key ∷ []) m None) (sym count) ∙ pushed_last p.waiting key))
      (subst (λ x. IsKnownBy terms p.part x key) (same_item atoms i b atom l is f) last)) n k a e
    where
      moved : (m b : ℕ) {o : Option ℕ} → o ≡ waiting_at q m → IsKnownBy terms p.part b o
          → IsKnownBy terms q.part b (waiting_at q m)
      moved m b f h =
          subst (λ part. IsKnownBy terms part b (waiting_at q m)) (sym same.part)
          (subst (λ o. IsKnownBy terms p.part b o) f h)
