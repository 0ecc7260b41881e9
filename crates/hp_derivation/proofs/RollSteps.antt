-- Tasks that are put into a roll one after the other.
use Rattle.std.proofs.Common.{◌≡◌, ℕ, suc, ◌+◌, ◌-◌, ◌<◌, ◌≤◌, List, [], ◌∷◌, ◌++◌, length, replicate, Option, Some, refl, sym, ap, ◌∙◌, subst, arith, append_assoc, append-nil, length-append}
use Rattle.std.proofs.lemmas.List.{length-replicate, replicate_more}
use Rattle.hp_derivation.specs.declared.roll.Roll.{Roll}
use Rattle.hp_derivation.specs.declared.roll.Stood.{Stood}
use Rattle.hp_derivation.specs.Orders.{put_all, put_in}
use Rattle.hp_derivation.specs.Rolls.{IsRoll}

-- of so many tasks some are put in, and the others leave the order that all leave
pub record IsPutUpTo (r : Roll) (task : Stood) (behind : Option ℕ) (i count : ℕ) (ts : List Stood) (xs : List ℕ) :
    Type 0 where
  pub order : List ℕ
  pub roll : IsRoll r (ts ++ replicate i task) order
  pub left : put_all task.parent (length ts) count xs ≡ put_all behind (length ts + i) (count - i) order

module _ (task : Stood) (count : ℕ) (ts : List Stood) (xs : List ℕ) where
  -- before the first one
  pub put_begin : (r : Roll) → IsRoll r ts xs → IsPutUpTo r task task.parent 0 count ts xs
  put_begin r h = record {
    order = xs;
    roll = subst (λ us. IsRoll r us xs) (sym (append-nil ts)) h;
    left =
        ap (λ k. put_all task.parent k count xs) (let e : length ts ≡ length ts + 0 = omega arith in e)
        ∙ ap (λ m. put_all task.parent (length ts + 0) m xs) (let e : count ≡ count - 0 = omega arith in e);
  }

  -- one more
  pub put_more : (r s : Roll) (behind : Option ℕ) (number i : ℕ) → i < count → number ≡ length r.chain.links.items
      → ((us : List Stood) (ys : List ℕ) → IsRoll r us ys → IsRoll s (us ++ task ∷ []) (put_in behind (length us) ys))
      → IsPutUpTo r task behind i count ts xs → IsPutUpTo s task (Some number) (i + 1) count ts xs
  put_more r s behind number i l is puts held =
      let us = ts ++ replicate i task in
      let k = length ts + i in
      let m = count - (i + 1) in
      let o = held.order in
      let sum = length-append ts (replicate i task) in
      let many = length-replicate i task in
      let e1 : count - i ≡ suc m = omega (arith, l) in
      let e2 : length us ≡ k = omega (arith, sum, many) in
      let e3 : number ≡ k = is ∙ (held.roll.links ∙ e2) in
      let e4 : suc k ≡ length ts + (i + 1) = omega arith in
      record {
        order = put_in behind (length us) o;
        roll =
            subst (λ vs. IsRoll s vs (put_in behind (length us) o))
            (append_assoc ts (replicate i task) (task ∷ []) ∙ ap (λ vs. ts ++ vs) (replicate_more i task))
            (puts us o held.roll);
        left =
            held.left
            ∙ (ap (λ j. put_all behind k j o) e1
            ∙ (ap (λ j. put_all (Some j) (suc k) m (put_in behind k o)) (sym e3)
            ∙ (ap (λ j. put_all (Some number) j m (put_in behind k o)) e4
            ∙ ap (λ j. put_all (Some number) (length ts + (i + 1)) m (put_in behind j o)) (sym e2))));
      }

  -- all
  pub put_done : (r : Roll) (behind : Option ℕ) (i : ℕ) → i ≡ count → IsPutUpTo r task behind i count ts xs
      → IsRoll r (ts ++ replicate count task) (put_all task.parent (length ts) count xs)
  put_done r behind i e held =
      let none : count - i ≡ 0 = omega (arith, e) in
      subst (λ o. IsRoll r (ts ++ replicate count task) o)
      (sym (held.left ∙ ap (λ j. put_all behind (length ts + i) j held.order) none))
      (subst (λ j. IsRoll r (ts ++ replicate j task) held.order) e held.roll)
